-- An operation whose new nodes stand below a child of the moved node has what `grown_on` asks.
use Rattle.std.proofs.Common.{◌≡◌, ◌≢◌, ◌⊎◌, inl, inr, ℕ, ◌+◌, ◌*◌, ◌≤◌, ◌<◌, Bool, List, Option, Some, None}
use Rattle.std.proofs.Common.{refl, sym, ◌∙◌, ap, subst, arith}
use Rattle.std.specs.Option.{IsSome}
use Rattle.std.specs.FinMap.{get}
use Rattle.std.proofs.lemmas.Bool.{cases_eq, cases_lt}
use Rattle.std.proofs.lemmas.Option.{none-some, same_Some}
use Rattle.sd_model.specs.Tree.{Node, leaves}
use Rattle.sd_model.specs.Diagram.{Diagram, meaning}
use Rattle.sd_model.proofs.OverVtree.{vtree_apart}
use Rattle.sd_vtree.specs.Numbered.{Numbered, NumberedNode, number_of, numbers, plain_tree, subtree, times}
use Rattle.sd_vtree.specs.Numbered.{IsNumbered, IsUnder}
use Rattle.sd_vtree.proofs.Parts.{subtree_left, subtree_right}
use Rattle.sd_vtree.proofs.Subtrees.{AtMostOnce, once_numbered, subtree_once, subtree_some, subtree_trans, right_apart}
use Rattle.sd_vtree.proofs.Subtrees.{subtree_root, number_of_in}
use Rattle.sd_vtree.proofs.Under.{in_children}
use Rattle.sd_laws.specs.Depends.{DependsOn}
use Rattle.sd_laws.specs.Shown.{ShowsCanonical as ShowsCanonicalBy}
use Rattle.sd_laws.specs.Values.{Valuation, IsPlaced, IsTwoSided, AreOrderly}
use Rattle.sd_laws.proofs.Choosing.{two_sided, two_sided_same, depends_both, depends_same}
use Rattle.sd_laws.proofs.Evaluated.{value_of, value_of_shown}
use Rattle.sd_laws.proofs.Meeting.{depends_above}
use Rattle.sd_laws.proofs.Nodes.{code_of_node}
use Rattle.sd_laws.proofs.Numbers.{PartAt, part_of_subtree}
use Rattle.sd_laws.proofs.Places.{part_apart}
use Rattle.sd_laws.proofs.Unturned.{IsShownNode, shown_orderly}
use Rattle.sd_manager.specs.Table.{Table, key_at}
use Rattle.sd_manager.specs.Making.{Extends}
use Rattle.sd_manager.specs.Valid.{IsTable, IsSettled}
use Rattle.sd_manager.proofs.Reading.{node_of_code, linked_key}
use Rattle.sd_manager.proofs.DetachedFrom.{under_apart}
use Rattle.sd_move.specs.Moving.{Progress, MoveInProgress, IsBelowNode}
use Rattle.sd_move.specs.Steps.{IsChildNode}
use Rattle.sd_move.proofs.GrownOn.{HasGrown}
use Rattle.sd_move.proofs.KnownAtEnd.{stands_there}
use Rattle.sd_move.proofs.LowerNode.{left_child, right_child}
use Rattle.sd_move.proofs.Undoing.{under_strictly}

-- the children of a subtree are subtrees
left_subtree : (t : Numbered) → AtMostOnce t → (x : ℕ) (l r : Numbered) → subtree t x ≡ Some (NumberedNode x l r) →
    subtree t (number_of l) ≡ Some l
left_subtree t once x l r at =
    subtree_trans t once x (NumberedNode x l r) at (number_of l) l
    (subtree_left x l r (number_of l) l (left_child t once x l r at).apart (subtree_root l))

right_subtree : (t : Numbered) → AtMostOnce t → (x : ℕ) (l r : Numbered) → subtree t x ≡ Some (NumberedNode x l r) →
    subtree t (number_of r) ≡ Some r
right_subtree t once x l r at =
    let o : AtMostOnce (NumberedNode x l r) = subtree_once t x (NumberedNode x l r) once at in
    subtree_trans t once x (NumberedNode x l r) at (number_of r) r
    (subtree_right x l r (number_of r) r (right_child t once x l r at).apart
    (right_apart x l r o (number_of r) (number_of_in r)).1 (subtree_root r))

-- what looks at the variables below a node looks at those below each node above it
depends_over : (t : Numbered) → AtMostOnce t → (q c : ℕ) (z s : Numbered) → subtree t q ≡ Some z →
    subtree t c ≡ Some s → 1 ≤ times q (numbers s) → (f : List Bool → Bool) → DependsOn (plain_tree z) f →
    DependsOn (plain_tree s) f
depends_over t once q c z s at_q at_c has f d =
    let w = subtree_some s q has in
    let same : w.0 ≡ z = same_Some w.0 z (sym (subtree_trans t once c s at_c q w.0 w.1) ∙ at_q) in
    let part : PartAt s q w.0 0 = part_of_subtree s q w.0 0 w.1 in
    depends_above part.part f (subst (λ y. DependsOn (plain_tree y) f) (sym same) d)

-- a node strictly above x does not look at what is below x alone
not_within : (t : Numbered) → IsNumbered t → (v : Valuation) (x q n : ℕ) (l r a b : Numbered) (k : List (ℕ × ℕ)) →
    subtree t x ≡ Some (NumberedNode x l r) → (p : IsPlaced t v q k) → p.left ≡ a → p.right ≡ b →
    IsTwoSided (plain_tree a) (plain_tree b) (v (2050 + n)) → q ≢ x →
    1 ≤ times x (numbers (NumberedNode q a b)) → ¬ DependsOn (Node (plain_tree l) (plain_tree r)) (v (2050 + n))
not_within t num v x q n l r a b k at p la rb two other has d =
    go (in_children q a b x has)
  where
    once : AtMostOnce t
    once = once_numbered t num

    here : subtree t q ≡ Some (NumberedNode q a b)
    here = p.at ∙ ap (λ s. Some (NumberedNode q s p.right)) la ∙ ap (λ s. Some (NumberedNode q a s)) rb

    o : AtMostOnce (NumberedNode q a b)
    o = subtree_once t q (NumberedNode q a b) once here

    -- x stands in one of the children
    looks : (s : Numbered) → 1 ≤ times x (numbers s) →
        ((y : Numbered) → subtree s x ≡ Some y → subtree (NumberedNode q a b) x ≡ Some y) →
        DependsOn (plain_tree s) (v (2050 + n))
    looks s h lift =
        let w = subtree_some s x h in
        let in_t : subtree t x ≡ Some w.0 =
        subtree_trans t once q (NumberedNode q a b) here x w.0 (lift w.0 w.1) in
        let same : w.0 ≡ NumberedNode x l r = same_Some w.0 (NumberedNode x l r) (sym in_t ∙ at) in
        let part : PartAt s x w.0 0 = part_of_subtree s x w.0 0 w.1 in
        depends_above part.part (v (2050 + n)) (subst (λ y. DependsOn (plain_tree y) (v (2050 + n))) (sym same) d)

    go : (q ≡ x) ⊎ ((1 ≤ times x (numbers a)) ⊎ (1 ≤ times x (numbers b))) → ⊥
    go (inl z) = other z
    go (inr (inl h)) = two.not_left (looks a h (λ y e. subtree_left q a b x y other e))
    go (inr (inr h)) =
        two.not_right (looks b h (λ y e. subtree_right q a b x y other (right_apart q a b o x h).1 e))

module _ (m0 m m' : Table) (x : ℕ) (p : Progress) (v : Valuation) (l r : Numbered) (t : IsTable m) (t' : IsTable m')
    (g : MoveInProgress m0 m x p v) (e : Extends m m') (at : subtree m.vtree x ≡ Some (NumberedNode x l r))
    (grown : (n : ℕ) (k : ℕ × List (ℕ × ℕ)) → get m.linked n ≡ None → get m'.linked n ≡ Some k →
    IsUnder m'.vtree k.0 (number_of l) ⊎ IsUnder m'.vtree k.0 (number_of r))
    (waiting : (n : ℕ) → IsSome (get m.detached n) → IsTwoSided (plain_tree l) (plain_tree r) (v (2050 + n))) where
  once : AtMostOnce m'.vtree
  once = once_numbered m'.vtree t'.numbered

  at' : subtree m'.vtree x ≡ Some (NumberedNode x l r)
  at' = ap (λ s. subtree s x) e.vtree ∙ at

  left : IsChildNode m'.vtree x (number_of l)
  left = left_child m'.vtree once x l r at'

  right : IsChildNode m'.vtree x (number_of r)
  right = right_child m'.vtree once x l r at'

  -- what is below a child is strictly below x
  below_child : (w : ℕ) → IsChildNode m'.vtree x w → (q : ℕ) → IsUnder m'.vtree q w → IsBelowNode m' x q
  below_child w c q u = elim (cases_eq w q) [
    | inl z ↦ (λ s. c.apart (sym s ∙ sym z), subst (λ i. IsUnder m'.vtree i x) z c.under)
    | inr d ↦ (let s = under_strictly m'.vtree once q w x u d c.under in (s.1, s.0))
  ]

  new_below : (n : ℕ) (k : ℕ × List (ℕ × ℕ)) → get m.linked n ≡ None → get m'.linked n ≡ Some k → IsBelowNode m' x k.0
  new_below n k none is = elim (grown n k none is) [
    | inl u ↦ below_child (number_of l) left k.0 u
    | inr u ↦ below_child (number_of r) right k.0 u
  ]

  moving' : m'.moving ≡ Some x
  moving' = e.moving ∙ g.moving

  -- what stands strictly below x is settled
  below_settled : (q : ℕ) → IsBelowNode m' x q → IsSettled m' q
  below_settled q b y f =
      let same : x ≡ y = same_Some x y (sym moving' ∙ f) in
      subst (λ z. (z ≡ q) ⊎ (¬ IsUnder m'.vtree z q)) same
      (inr (λ u. under_apart m'.vtree once x q u b.1 (λ z. b.0 (sym z))))

  none_linked : (n : ℕ) → key_at m n ≡ None → get m.linked n ≡ None
  none_linked n none = go (get m.linked n) refl
    where
      go : (o : Option (ℕ × List (ℕ × ℕ))) → get m.linked n ≡ o → get m.linked n ≡ None
      go None f = f
      go (Some k) f = absurd (none-some k (sym none ∙ linked_key m n k f))

  -- an old node is settled, or looks beyond x
  old_kind : (n q : ℕ) (k : List (ℕ × ℕ)) → get m.linked n ≡ Some (q, k) →
      IsSettled m' q ⊎ (IsSome (get m.linked n) × (¬ DependsOn (Node (plain_tree l) (plain_tree r)) (v (2050 + n))))
  old_kind n q k is = go (cases_eq q x) (cases_lt 0 (times x (numbers (NumberedNode q h.left h.right))))
    where
      h : IsPlaced m.vtree v q k
      h = g.placed n q k is

      h' : subtree m'.vtree q ≡ Some (NumberedNode q h.left h.right)
      h' = ap (λ s. subtree s q) e.vtree ∙ h.at

      two : IsTwoSided (plain_tree h.left) (plain_tree h.right) (v (2050 + n))
      two =
          let key = linked_key m n (q, k) is in
          let part : PartAt m.vtree q (NumberedNode q h.left h.right) 0 =
          part_of_subtree m.vtree q (NumberedNode q h.left h.right) 0 h.at in
          two_sided_same (plain_tree h.left) (plain_tree h.right) (v (2050 + n)) _ (g.value n q k key)
          (two_sided (leaves (plain_tree m.vtree)) (plain_tree h.left) (plain_tree h.right) v k
          (part_apart (leaves (plain_tree m.vtree)) part.part (vtree_apart (plain_tree m.vtree) t.numbered.vtree))
          h.primes h.subs (g.whole n q k key))

      go : (q ≡ x) ⊎ (q ≢ x) →
          (0 < times x (numbers (NumberedNode q h.left h.right)))
          ⊎ (times x (numbers (NumberedNode q h.left h.right)) ≤ 0) →
          IsSettled m' q
          ⊎ (IsSome (get m.linked n) × (¬ DependsOn (Node (plain_tree l) (plain_tree r)) (v (2050 + n))))
      go (inl z) _ = inl (λ y f. inl (same_Some y x (sym f ∙ moving') ∙ sym z))
      go (inr d) (inl has) =
          inr (
            subst IsSome (sym is) refl,
            not_within m.vtree t.numbered v x q n l r h.left h.right k at h refl refl two d has,
          )
      go (inr d) (inr zero) =
          inl (λ y f.
          let same : x ≡ y = same_Some x y (sym moving' ∙ f) in
          subst (λ z. (z ≡ q) ⊎ (¬ IsUnder m'.vtree z q)) same
          (inr (λ u.
          let part : u.part ≡ NumberedNode q h.left h.right =
          same_Some u.part (NumberedNode q h.left h.right) (sym u.is ∙ h') in
          let has : 1 ≤ times x (numbers (NumberedNode q h.left h.right)) =
          subst (λ z. 1 ≤ times x (numbers z)) part u.has in
          absurd (omega (arith, has, zero)))))

  kind : (n : ℕ) (k : ℕ × List (ℕ × ℕ)) → get m'.linked n ≡ Some k →
      IsSettled m' k.0
      ⊎ (IsSome (get m.linked n) × (¬ DependsOn (Node (plain_tree l) (plain_tree r)) (v (2050 + n))))
  kind n k is = go (get m.linked n) refl
    where
      go : (o : Option (ℕ × List (ℕ × ℕ))) → get m.linked n ≡ o → IsSettled m' k.0
          ⊎ (IsSome (get m.linked n) × (¬ DependsOn (Node (plain_tree l) (plain_tree r)) (v (2050 + n))))
      go None f = inl (below_settled k.0 (new_below n k f is))
      go (Some j) f =
          let same : j ≡ k = same_Some j k (sym (e.nodes n j f) ∙ is) in
          old_kind n k.0 k.1 (f ∙ ap Some same)

  -- a new node looks at the child below which it stands
  fresh_key : (n : ℕ) (d : Diagram) (k : ℕ × List (ℕ × ℕ)) → get m.linked n ≡ None → get m'.linked n ≡ Some k →
      ShowsCanonicalBy m'.vtree (get m'.linked) (2050 + n) d →
      DependsOn (plain_tree l) (meaning d) ⊎ DependsOn (plain_tree r) (meaning d)
  fresh_key n d k none is shown = elim (grown n k none is) [
    | inl u ↦ inl (looks (number_of l) l (left_at) u)
    | inr u ↦ inr (looks (number_of r) r (right_at) u)
  ]
    where
      o : AreOrderly m'.vtree (get m'.linked) (IsShownNode m'.vtree (get m'.linked)) (value_of (get m'.linked))
      o = shown_orderly m'.vtree t'.numbered (get m'.linked)

      h : IsPlaced m'.vtree (value_of (get m'.linked)) k.0 k.1
      h = o.placed n k.0 k.1 (record { diagram = d; is = shown }) is

      own : DependsOn (plain_tree (NumberedNode k.0 h.left h.right)) (meaning d)
      own =
          depends_same (plain_tree (NumberedNode k.0 h.left h.right)) (meaning d) _
          (λ a. value_of_shown m'.vtree (get m'.linked) t'.numbered (2050 + n) d shown a
          ∙ o.value n k.0 k.1 (record { diagram = d; is = shown }) is a)
          (depends_both (plain_tree h.left) (plain_tree h.right) (value_of (get m'.linked)) k.1 h.primes h.subs)

      left_at : subtree m'.vtree (number_of l) ≡ Some l
      left_at = left_subtree m'.vtree once x l r at'

      right_at : subtree m'.vtree (number_of r) ≡ Some r
      right_at = right_subtree m'.vtree once x l r at'

      looks : (c : ℕ) (s : Numbered) → subtree m'.vtree c ≡ Some s → IsUnder m'.vtree k.0 c →
          DependsOn (plain_tree s) (meaning d)
      looks c s e u =
          let part : u.part ≡ s = same_Some u.part s (sym u.is ∙ e) in
          depends_over m'.vtree once k.0 c (NumberedNode k.0 h.left h.right) s h.at e
          (subst (λ z. 1 ≤ times k.0 (numbers z)) part u.has) (meaning d) own

  fresh : (n : ℕ) (d : Diagram) → get m.linked n ≡ None → ShowsCanonicalBy m'.vtree (get m'.linked) (2050 + n) d →
      DependsOn (plain_tree l) (meaning d) ⊎ DependsOn (plain_tree r) (meaning d)
  fresh n d none shown = go (code_of_node m'.vtree (get m'.linked) t'.numbered (2050 + n) d shown.shows)
    where
      linked : (o : Option (ℕ × List (ℕ × ℕ))) → get m'.linked n ≡ o → IsSome o →
          DependsOn (plain_tree l) (meaning d) ⊎ DependsOn (plain_tree r) (meaning d)
      linked None f s = absurd (cc (s))
      linked (Some k) f s = fresh_key n d k none f shown

      go : (2050 + n < 2 * leaves (plain_tree m'.vtree) + 2)
          ⊎ ((i : ℕ) × (2050 + n ≡ 2050 + i) × IsSome (get m'.linked i)) →
          DependsOn (plain_tree l) (meaning d) ⊎ DependsOn (plain_tree r) (meaning d)
      go (inl low) = absurd (omega (arith, low, t'.numbered.within_limit))
      go (inr w) =
          let same : w.0 ≡ n = omega (arith, w.1) in
          linked (get m'.linked n) refl (subst (λ i. IsSome (get m'.linked i)) same w.2)

  -- it has what `grown_on` asks
  pub has_grown : HasGrown m m' x (plain_tree l) (plain_tree r) v
  has_grown =
      record {
        table = t';
        extends = e;
        closed = λ n i u k key s. node_of_code m t.numbered i (stands_there m (2050 + i) k (t.closed n (u, k) key) s);
        kind = kind;
        fresh = fresh;
        new_below = λ n k none is. new_below n k (none_linked n none) is;
        waiting = waiting;
      }

-- A node that waits gets another list: what making the list and linking the node ask, and that the move goes on.
use Rattle.std.proofs.Common.{◌≡◌, ◌≢◌, ◌⊎◌, inl, inr, ℕ, ◌+◌, ◌-◌, ◌*◌, ◌<◌, Bool, true, false, List, [], ◌∷◌}
use Rattle.std.proofs.Common.{map, length, Option, Some, None, option_and_then, refl, sym, ◌∙◌, ap, subst, arith}
use Rattle.std.specs.List.{AllByRecursion}
use Rattle.std.specs.List.Sorted.{IsPermutation}
use Rattle.std.specs.Option.{IsSome}
use Rattle.std.specs.Ordering.{nat_cmp}
use Rattle.std.specs.FinMap.{FinMap, get, insert, remove}
use Rattle.std.proofs.lemmas.Bool.{cases_eq}
use Rattle.std.proofs.lemmas.Option.{none-some, same_Some}
use Rattle.sd_model.specs.Tree.{Tree, Leaf, Node, leaves, right_base, AreDistinct}
use Rattle.sd_model.specs.Diagram.{Diagram, meaning}
use Rattle.sd_model.specs.Canonical.{IsCanonical}
use Rattle.sd_vtree.specs.Numbered.{Numbered, child_numbers, number_of, plain_tree}
use Rattle.sd_runs.specs.Arena.{IsMember}
use Rattle.sd_runs.proofs.Maps.{get_insert_same, get_insert_other, get_remove_same, get_remove_other}
use Rattle.sd_laws.specs.Depends.{DependsOn}
use Rattle.sd_laws.specs.Pairs.{answers}
use Rattle.sd_laws.specs.Parts.{IsPart, here, in_left, in_right}
use Rattle.sd_laws.specs.Shown.{Lookup, Keeps, ShowPairs, Shows as ShowsBy}
use Rattle.sd_laws.specs.Values.{Valuation, IsSame, pairs_value, chosen, IsTwoSided, IsWhole, AreOrderly}
use Rattle.sd_laws.specs.Values.{ShowsValue}
use Rattle.sd_laws.proofs.Choosing.{chosen_value, depends_same, two_sided_same}
use Rattle.sd_laws.proofs.Evaluated.{value_of, value_of_shown, value_permuted}
use Rattle.sd_laws.proofs.Lists.{all_weaker, all_permuted}
use Rattle.sd_laws.proofs.Nodes.{code_of_node}
use Rattle.sd_laws.proofs.Places.{canonical_lifts, part_trans}
use Rattle.sd_laws.proofs.Rewriting.{rewritten_untrimmed}
use Rattle.sd_laws.proofs.SameValues.{AllSame, value_same, whole_same, shown_value}
use Rattle.sd_laws.proofs.Unturned.{IsShownNode, valued_orderly, shown_closed}
use Rattle.sd_manager.specs.Table.{Table, key_at}
use Rattle.sd_manager.specs.Shown.{HasNode}
use Rattle.sd_manager.specs.Valid.{IsTable}
use Rattle.sd_manager.specs.Views.{pairs_at}
use Rattle.sd_manager.specs.Moving.{FitsNode, IsAscending, IsAbsent}
use Rattle.sd_manager.proofs.Reading.{linked_key, detached_key, pairs_node}
use Rattle.sd_apply.specs.Places.{IsBelow, plain, HasChildren}
use Rattle.sd_apply.specs.Partitions.{IsInnerNode, IsPartitionOf}
use Rattle.sd_apply.proofs.Trees.{ChildrenOf, children_of}
use Rattle.sd_apply.proofs.Whole.{same_node}
use Rattle.sd_move.specs.Moving.{Progress, IsDetachedCode}
use Rattle.sd_move.specs.Rewriting.{ShowsWithin, AreBelow, IsWaiting, CanRewriteAll}
use Rattle.sd_move.proofs.BegunAt.{settled_here}
use Rattle.sd_move.proofs.GrownStrictly.{member_has}
use Rattle.sd_move.proofs.Linking.{key_absent}
use Rattle.sd_move.proofs.LinkedOn.{linked_with, still_there, lifted, CanLink, linked_on}

-- before the list is made

module _ (m0 m : Table) (x : ℕ) (h : Progress) (v : Valuation) (n : ℕ) (rest : List ℕ) (t : IsTable m)
    (c : CanRewriteAll m0 m x h v (n ∷ rest)) where
  tree : Tree
  tree = Node (plain_tree c.left) (plain_tree c.right)

  own_key : key_at m n ≡ Some (x, c.each.0.list)
  own_key = detached_key m t n (x, c.each.0.list) c.each.0.was

  -- the place has children
  pub place_inner : IsInnerNode m.vtree x
  place_inner =
      record {
        left = number_of c.left;
        right = number_of c.right;
        children = sym (ap (option_and_then child_numbers) c.at);
      }

  -- the node is there
  pub node_there : (d : ℕ) → d ≡ 2050 + n → HasNode m d
  node_there d e =
      let number : d - 2050 ≡ n = omega (arith, e) in
      inr (omega (arith, e), subst IsSome (sym (ap (key_at m) number ∙ own_key)) refl)

  code_below : (d : ℕ) →
      ShowsWithin m.vtree (get m.linked) v (Node (plain_tree c.left) (plain_tree c.right)) d → IsBelow m x d
  code_below d w =
      record {
        diagram = w.shown.diagram;
        is = record {
          shows = w.shown.is.shows;
          under = record {
            canonical = w.shown.is.canonical;
            depends = subst (λ s. DependsOn s (meaning w.shown.diagram)) (sym (ap plain c.at))
                (depends_same (Node (plain_tree c.left) (plain_tree c.right)) (meaning w.shown.diagram) (v d)
                w.shown.value w.within);
          };
        };
      }

  -- and its codes stand below the place
  pub codes_below : (d : ℕ) → d ≡ 2050 + n → AreBelow m x (pairs_at m d)
  codes_below d e =
      subst (AreBelow m x) (sym (pairs_node m d n (x, c.each.0.list) e own_key))
      (all_weaker
      (λ (p : ℕ × ℕ). ShowsWithin m.vtree (get m.linked) v (Node (plain_tree c.left) (plain_tree c.right)) p.0
      × ShowsWithin m.vtree (get m.linked) v (Node (plain_tree c.left) (plain_tree c.right)) p.1)
      (λ (p : ℕ × ℕ). IsBelow m x p.0 × IsBelow m x p.1)
      (λ p k. (code_below p.0 k.0, code_below p.1 k.1)) c.each.0.list c.each.0.codes)

  code_value : (d : ℕ) →
      ShowsWithin m.vtree (get m.linked) v (Node (plain_tree c.left) (plain_tree c.right)) d →
      IsSame (value_of (get m.linked) d) (v d)
  code_value d w a =
      sym (value_of_shown m.vtree (get m.linked) t.numbered d w.shown.diagram w.shown.is a) ∙ w.shown.value a

  same_values : AllSame v (value_of (get m.linked)) c.each.0.list
  same_values =
      all_weaker
      (λ (p : ℕ × ℕ). ShowsWithin m.vtree (get m.linked) v (Node (plain_tree c.left) (plain_tree c.right)) p.0
      × ShowsWithin m.vtree (get m.linked) v (Node (plain_tree c.left) (plain_tree c.right)) p.1)
      (λ (p : ℕ × ℕ). IsSame (value_of (get m.linked) p.0) (v p.0) × IsSame (value_of (get m.linked) p.1) (v p.1))
      (λ p k. (code_value p.0 k.0, code_value p.1 k.1)) c.each.0.list c.each.0.codes

  -- The value of its list is the value that the move gives it.
  pub list_value : (d : ℕ) → d ≡ 2050 + n →
      IsSame (pairs_value (value_of (get m.linked)) (pairs_at m d)) (v (2050 + n))
  list_value d e a =
      ap (λ l. pairs_value (value_of (get m.linked)) l a) (pairs_node m d n (x, c.each.0.list) e own_key)
      ∙ value_same v (value_of (get m.linked)) c.each.0.list same_values a
      ∙ sym (c.going.value n x c.each.0.list own_key a)

  -- and in its values too the list is whole
  pub list_whole : (d : ℕ) → d ≡ 2050 + n → IsWhole (value_of (get m.linked)) (pairs_at m d)
  list_whole d e =
      subst (IsWhole (value_of (get m.linked))) (sym (pairs_node m d n (x, c.each.0.list) e own_key))
      (whole_same v (value_of (get m.linked)) c.each.0.list same_values (c.going.whole n x c.each.0.list own_key))

-- lists of codes and what they show

-- what the diagrams choose the values choose
chosen_shown : (t : Numbered) (at : Lookup) (v : Valuation) →
    ((d : ℕ) (z : Diagram) → ShowsBy t at d z → IsSame (meaning z) (v d)) → (l : List (ℕ × ℕ))
    (ds : List (Diagram × Diagram)) → ShowPairs t at l ds → (a : List Bool) → answers a ds ≡ chosen v l a
chosen_shown t at v f [] [] s a = refl
chosen_shown t at v f [] (d ∷ ds) s a = absurd s
chosen_shown t at v f (e ∷ l) [] s a = absurd s
chosen_shown t at v f (e ∷ l) (d ∷ ds) s a =
    rw (f e.0 d.0 s.0.0 a, f e.1 d.1 s.0.1 a, chosen_shown t at v f l ds s.1 a) refl

-- each code shows its value
codes_shown : (t : Numbered) (at : Lookup) (v : Valuation) →
    ((d : ℕ) (z : Diagram) → ShowsBy t at d z → IsSame (meaning z) (v d)) → (left right : Tree) (base : ℕ) →
    IsPart (Node left right) base (plain_tree t) 0 → (l : List (ℕ × ℕ)) (ds : List (Diagram × Diagram)) →
    ShowPairs t at l ds → AllByRecursion (λ (d : Diagram × Diagram). IsCanonical left base d.0) ds →
    AllByRecursion (λ (d : Diagram × Diagram). IsCanonical right (right_base left base) d.1) ds →
    AllByRecursion (λ (e : ℕ × ℕ). ShowsValue t at v e.0 × ShowsValue t at v e.1) l
codes_shown t at v f left right base part [] [] s ps ss = tt
codes_shown t at v f left right base part [] (d ∷ ds) s ps ss = absurd s
codes_shown t at v f left right base part (e ∷ l) [] s ps ss = absurd s
codes_shown t at v f left right base part (e ∷ l) (d ∷ ds) s ps ss = (
  (
    record {
      diagram = d.0;
      is = record { shows = s.0.0; canonical = canonical_lifts (part_trans (in_left here) part) d.0 ps.0 };
      value = f e.0 d.0 s.0.0;
    },
    record {
      diagram = d.1;
      is = record { shows = s.0.1; canonical = canonical_lifts (part_trans (in_right here) part) d.1 ss.0 };
      value = f e.1 d.1 s.0.1;
    },
  ),
  codes_shown t at v f left right base part l ds s.1 ps.1 ss.1,
)

-- the only value
abbrev the_value : List Bool → Bool
the_value [] = false
the_value (b ∷ bs) = b

-- the children of a node
abbrev left_of : Tree → Tree
left_of (Leaf x) = Leaf x
left_of (Node a b) = a

abbrev right_of : Tree → Tree
right_of (Leaf x) = Leaf x
right_of (Node a b) = b

-- what is shown is not detached
not_detached : (m : Table) (v : Valuation) (d : ℕ) → IsTable m → ShowsValue m.vtree (get m.linked) v d →
    ¬ IsDetachedCode m d
not_detached m v d t s w = go (code_of_node m.vtree (get m.linked) t.numbered d s.diagram s.is.shows)
  where
    both : (i : ℕ) → i ≡ w.0 → (o p : Option (ℕ × List (ℕ × ℕ))) → get m.linked i ≡ o → get m.detached i ≡ p →
        IsSome o → IsSome p → ⊥
    both i e None p f g a b = cc (a)
    both i e (Some k) None f g a b = cc (b)
    both i e (Some k) (Some j) f g a b = none-some j (sym (t.either i k f) ∙ g)

    go : (d < 2 * leaves (plain_tree m.vtree) + 2) ⊎ ((i : ℕ) × (d ≡ 2050 + i) × IsSome (get m.linked i)) → ⊥
    go (inl low) = absurd (omega (arith, low, w.1, t.numbered.within_limit))
    go (inr l) =
        let e : l.0 ≡ w.0 = omega (arith, l.1, w.1) in
        both l.0 e (get m.linked l.0) (get m.detached l.0) refl refl l.2
        (subst (λ i. IsSome (get m.detached i)) (sym e) w.2)

-- what a move has done when it gave a node this list
abbrev pub progress_after : Progress → ℕ → List (ℕ × ℕ) → Progress
progress_after h n list = record h { rewritten = insert h.rewritten n list; has_rewritten = true }

-- where the list is made

module _ (m0 m : Table) (x : ℕ) (h : Progress) (v : Valuation) (n : ℕ) (rest : List ℕ) (t : IsTable m)
    (c : CanRewriteAll m0 m x h v (n ∷ rest)) (elements : List (ℕ × ℕ)) (f : List Bool → Bool)
    (p : IsPartitionOf m x elements f) (same : IsSame f (v (2050 + n))) where
  sides : Node p.is.left p.is.right ≡ Node (plain_tree c.left) (plain_tree c.right)
  sides =
      let e : HasChildren m.vtree x (number_of c.left) (number_of c.right) =
      sym (ap (option_and_then child_numbers) c.at) in
      let k : ChildrenOf m.vtree x (number_of c.left) (number_of c.right) =
      children_of m.vtree t.numbered x (number_of c.left) (number_of c.right) e in
      same_node m.vtree t.numbered x (number_of c.left) (number_of c.right) k p.is.left p.is.right p.is.base p.is.inner
      ∙ sym k.whole ∙ ap plain c.at

  two : IsTwoSided p.is.left p.is.right f
  two =
      two_sided_same p.is.left p.is.right f (v (2050 + n)) same
      (subst (λ s. IsTwoSided s p.is.right (v (2050 + n))) (sym (ap left_of sides))
      (subst (λ s. IsTwoSided (plain_tree c.left) s (v (2050 + n))) (sym (ap right_of sides)) c.each.0.two_sided))

  -- it fits the place
  pub fits_one : AreDistinct (map (λ (e : ℕ × ℕ). e.1) elements) → (k : ℕ × List (ℕ × ℕ)) →
      get m.detached n ≡ Some k → FitsNode m k.0 elements
  fits_one differ k e =
      let own : (x, c.each.0.list) ≡ k = same_Some (x, c.each.0.list) k (sym c.each.0.was ∙ e) in
      subst (λ (y : ℕ × List (ℕ × ℕ)). FitsNode m y.0 elements) own
      (record {
        diagrams = p.diagrams;
        partition = p.is;
        differ = differ;
        untrimmed = rewritten_untrimmed m.vtree (get m.linked) t.numbered x elements p.diagrams p.is f p.value two;
      })

  shown_values : (d : ℕ) (z : Diagram) → ShowsBy m.vtree (get m.linked) d z → IsSame (meaning z) (v d)
  shown_values d z s a =
      shown_value m.vtree (get m.linked) t.numbered v c.going.literals
      (λ i u l k. c.going.value i u l (linked_key m i (u, l) k)) z d a s

  -- and in any order it has the value of the node
  pub value_one : (list : List (ℕ × ℕ)) → IsPermutation elements list → IsSame (v (2050 + n)) (pairs_value v list)
  value_one list order a =
      let chosen_is : answers a p.diagrams ≡ chosen v elements a =
      chosen_shown m.vtree (get m.linked) v shown_values elements p.diagrams p.is.shown a in
      let one : length (chosen v elements a) ≡ 1 =
      ap length (sym chosen_is) ∙ ap length (p.value a) in
      sym (same a) ∙ ap the_value (sym (p.value a) ∙ chosen_is ∙ chosen_value v elements a one)
      ∙ value_permuted v elements list a order

  pub absent_one : (k : ℕ × List (ℕ × ℕ)) (list : List (ℕ × ℕ)) → get m.detached n ≡ Some k →
      IsPermutation elements list → IsAscending list → IsAbsent m k.0 list
  absent_one k list e order ascending =
      key_absent m0 m x h v t c.going n k.0 k list e (value_one list order)

  module _ (list : List (ℕ × ℕ)) (order : IsPermutation elements list) (loose : FinMap nat_cmp (List (ℕ × ℕ)))
      (free : FinMap nat_cmp ℕ) (extent : ℕ) (t' : IsTable (linked_with m n (x, list) loose free extent)) where
    keeps : Keeps (get m.linked) (get (insert m.linked n (x, list)))
    keeps = still_there m t n (x, c.each.0.list) (x, list) c.each.0.was

    own_linked : get (insert m.linked n (x, list)) n ≡ Some (x, list)
    own_linked = get_insert_same m.linked n (x, list)

    values_there : (i u : ℕ) (l : List (ℕ × ℕ)) → get (insert m.linked n (x, list)) i ≡ Some (u, l) →
        IsSame (v (2050 + i)) (pairs_value v l)
    values_there i u l e = by_cases (cases_eq i n)
      where
        by_cases : (i ≡ n) ⊎ (i ≢ n) → IsSame (v (2050 + i)) (pairs_value v l)
        by_cases (inl z) =
            let own : (x, list) ≡ (u, l) =
            same_Some (x, list) (u, l) (sym own_linked ∙ ap (get (insert m.linked n (x, list))) (sym z) ∙ e) in
            subst (λ (y : ℕ × List (ℕ × ℕ)). IsSame (v (2050 + i)) (pairs_value v y.1)) own
            (subst (λ j. IsSame (v (2050 + j)) (pairs_value v list)) (sym z) (value_one list order))
        by_cases (inr d) =
            c.going.value i u l (linked_key m i (u, l) (sym (get_insert_other m.linked n (x, list) i d) ∙ e))

    -- all that is shown then is in order by the values
    order_there : AreOrderly m.vtree (get (insert m.linked n (x, list)))
        (IsShownNode m.vtree (get (insert m.linked n (x, list)))) v
    order_there =
        valued_orderly m.vtree t.numbered (get (insert m.linked n (x, list)))
        (IsShownNode m.vtree (get (insert m.linked n (x, list)))) v c.going.literals
        (shown_closed m.vtree t.numbered (get (insert m.linked n (x, list))))
        (λ i s. record {
          diagram = s.diagram;
          is = s.is;
          value = λ a. shown_value m.vtree (get (insert m.linked n (x, list))) t.numbered v c.going.literals
              values_there s.diagram (2050 + i) a s.is.shows;
        })

    own_shown : IsShownNode m.vtree (get (insert m.linked n (x, list))) n
    own_shown =
        let w = t'.canonical n (x, list) own_linked (settled_here m x c.going.moving) in
        record { diagram = w.diagram; is = w.is }

    codes_there : AllByRecursion (λ (e : ℕ × ℕ). ShowsValue m.vtree (get m.linked) v e.0
        × ShowsValue m.vtree (get m.linked) v e.1) list
    codes_there =
        all_permuted (λ (e : ℕ × ℕ). ShowsValue m.vtree (get m.linked) v e.0 × ShowsValue m.vtree (get m.linked) v e.1)
        elements list order
        (codes_shown m.vtree (get m.linked) v shown_values p.is.left p.is.right p.is.base p.is.inner.part elements
        p.diagrams p.is.shown p.is.partition.elements.primes p.is.partition.elements.subs)

    can_link : CanLink m0 m x h (progress_after h n list) v n x list
    can_link =
        record {
          former = (x, c.each.0.list);
          detached = c.each.0.was;
          settled = settled_here m x c.going.moving;
          same = value_one list order;
          whole = order_there.whole n x list own_shown own_linked;
          placed = order_there.placed n x list own_shown own_linked;
          codes = codes_there;
          keys = t'.keys;
          discarded = refl;
          others = λ i d. get_insert_other h.rewritten n list i d;
          own = λ q old e. inr (get_insert_same h.rewritten n list);
          below = λ k. absurd (c.each.0.old k);
          way = λ a. a;
        }

    -- a node that is detached then is one of the rest
    still_waits : (i : ℕ) → IsSome (get (remove m.detached n) i) → (i ≢ n) × IsMember i rest
    still_waits i s = by_cases (cases_eq i n)
      where
        by_cases : (i ≡ n) ⊎ (i ≢ n) → (i ≢ n) × IsMember i rest
        by_cases (inl z) =
            absurd (cc (subst IsSome (ap (get (remove m.detached n)) z ∙ get_remove_same m.detached n) s))
        by_cases (inr d) = (d, among (c.only i (subst IsSome (get_remove_other m.detached n i d) s)))
          where
            among : (n ≡ i) ⊎ IsMember i rest → IsMember i rest
            among (inl z) = absurd (d (sym z))
            among (inr k) = k

    code_apart : (d : ℕ) →
        ShowsWithin m.vtree (get m.linked) v (Node (plain_tree c.left) (plain_tree c.right)) d →
        ¬ IsDetachedCode (linked_with m n (x, list) loose free extent) d
    code_apart d w k =
        let i = still_waits k.0 k.2 in
        not_detached m v d t w.shown
        (k.0, k.1, subst IsSome (get_remove_other m.detached n k.0 i.0) k.2)

    free_there : (i u : ℕ) (l : List (ℕ × ℕ)) → get (remove m.detached n) i ≡ Some (u, l) →
        AllByRecursion (λ (e : ℕ × ℕ). (¬ IsDetachedCode (linked_with m n (x, list) loose free extent) e.0)
        × (¬ IsDetachedCode (linked_with m n (x, list) loose free extent) e.1)) l
    free_there i u l e =
        let k = still_waits i (subst IsSome (sym e) refl) in
        let w =
        member_has (IsWaiting m0 m x h v (plain_tree c.left) (plain_tree c.right)) rest i c.each.1 k.1 in
        let own : (x, w.list) ≡ (u, l) =
        same_Some (x, w.list) (u, l) (sym w.was ∙ sym (get_remove_other m.detached n i k.0) ∙ e) in
        subst (λ (y : ℕ × List (ℕ × ℕ)). AllByRecursion
        (λ (e : ℕ × ℕ). (¬ IsDetachedCode (linked_with m n (x, list) loose free extent) e.0)
        × (¬ IsDetachedCode (linked_with m n (x, list) loose free extent) e.1)) y.1) own
        (all_weaker
        (λ (e : ℕ × ℕ). ShowsWithin m.vtree (get m.linked) v (Node (plain_tree c.left) (plain_tree c.right)) e.0
        × ShowsWithin m.vtree (get m.linked) v (Node (plain_tree c.left) (plain_tree c.right)) e.1)
        (λ (e : ℕ × ℕ). (¬ IsDetachedCode (linked_with m n (x, list) loose free extent) e.0)
        × (¬ IsDetachedCode (linked_with m n (x, list) loose free extent) e.1))
        (λ e q. (code_apart e.0 q.0, code_apart e.1 q.1)) w.list w.codes)

    within_there : (d : ℕ) →
        ShowsWithin m.vtree (get m.linked) v (Node (plain_tree c.left) (plain_tree c.right)) d →
        ShowsWithin m.vtree (get (insert m.linked n (x, list))) v (Node (plain_tree c.left) (plain_tree c.right)) d
    within_there d w =
        record {
          shown = lifted m.vtree (get m.linked) (get (insert m.linked n (x, list))) v d keeps w.shown;
          within = w.within;
        }

    waits_there : (i : ℕ) → i ≢ n →
        IsWaiting m0 m x h v (plain_tree c.left) (plain_tree c.right) i →
        IsWaiting m0 (linked_with m n (x, list) loose free extent) x (progress_after h n list) v (plain_tree c.left)
        (plain_tree c.right) i
    waits_there i d w =
        record {
          list = w.list;
          was = get_remove_other m.detached n i d ∙ w.was;
          old = w.old;
          two_sided = w.two_sided;
          codes = all_weaker
              (λ (e : ℕ × ℕ). ShowsWithin m.vtree (get m.linked) v (Node (plain_tree c.left) (plain_tree c.right)) e.0
              × ShowsWithin m.vtree (get m.linked) v (Node (plain_tree c.left) (plain_tree c.right)) e.1)
              (λ (e : ℕ × ℕ). ShowsWithin m.vtree (get (insert m.linked n (x, list))) v
              (Node (plain_tree c.left) (plain_tree c.right)) e.0
              × ShowsWithin m.vtree (get (insert m.linked n (x, list))) v
              (Node (plain_tree c.left) (plain_tree c.right)) e.1)
              (λ e q. (within_there e.0 q.0, within_there e.1 q.1)) w.list w.codes;
        }

    all_wait_there : (ns : List ℕ) → ¬ IsMember n ns →
        AllByRecursion (IsWaiting m0 m x h v (plain_tree c.left) (plain_tree c.right)) ns →
        AllByRecursion (IsWaiting m0 (linked_with m n (x, list) loose free extent) x (progress_after h n list) v
        (plain_tree c.left) (plain_tree c.right)) ns
    all_wait_there [] out all = tt
    all_wait_there (i ∷ ns) out all =
        (waits_there i (λ z. out (inl z)) all.0, all_wait_there ns (λ k. out (inr k)) all.1)

    -- The move goes on where the node is linked with the list, and the rest wait still.
    pub rewritten_one : CanRewriteAll m0 (linked_with m n (x, list) loose free extent) x
        (progress_after h n list) v rest
    rewritten_one =
        record {
          going = linked_on m0 m x h (progress_after h n list) v t c.going n x list loose free extent can_link
              (λ a b i u l e. free_there i u l e);
          there = c.there;
          left = c.left;
          right = c.right;
          at = c.at;
          once = c.once.1;
          only = λ i s. (still_waits i s).1;
          each = all_wait_there rest c.once.0 c.each.1;
        }

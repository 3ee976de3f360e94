-- An operation whose new nodes stand strictly below the node of a move keeps what holds inside it, and the nodes that
-- wait go on waiting.
use Rattle.std.proofs.Common.{◌≡◌, ◌⊎◌, inl, inr, ℕ, ◌+◌, List, [], ◌∷◌, Some, None}
use Rattle.std.proofs.Common.{option_and_then, refl, sym, ◌∙◌, ap, subst}
use Rattle.std.specs.List.{AllByRecursion}
use Rattle.std.specs.Option.{IsSome}
use Rattle.std.specs.FinMap.{get}
use Rattle.std.proofs.lemmas.Option.{some_pair_parts}
use Rattle.sd_model.specs.Tree.{Tree, Node}
use Rattle.sd_model.specs.Diagram.{meaning}
use Rattle.sd_vtree.specs.Numbered.{Numbered, NumberedNode, child_numbers, number_of, plain_tree, subtree, IsUnder}
use Rattle.sd_runs.specs.Arena.{IsMember}
use Rattle.sd_laws.specs.Values.{Valuation, IsSame, KeepsValues, IsTwoSided}
use Rattle.sd_laws.proofs.Choosing.{depends_same, two_sided_same}
use Rattle.sd_laws.proofs.Growing.{grown_kept}
use Rattle.sd_laws.proofs.Lists.{all_weaker}
use Rattle.sd_laws.proofs.SameValues.{shown_value}
use Rattle.sd_manager.specs.Table.{Table, key_at}
use Rattle.sd_manager.specs.Making.{Extends}
use Rattle.sd_manager.specs.Valid.{IsTable}
use Rattle.sd_manager.proofs.Reading.{linked_key, detached_key}
use Rattle.sd_apply.specs.Growing.{GrowsStrictlyBelow}
use Rattle.sd_apply.proofs.Listed.{shown_on}
use Rattle.sd_move.specs.Moving.{Progress, MoveInProgress}
use Rattle.sd_move.specs.Rewriting.{ShowsWithin, IsWaiting, CanRewriteAll}
use Rattle.sd_move.proofs.GrownOn.{HasGrown, values_after, grown_on}
use Rattle.sd_move.proofs.GrownBelow.{has_grown}

-- what holds of each number holds of a member
pub member_has : (P : ℕ → Type 0) (ns : List ℕ) (n : ℕ) → AllByRecursion P ns → IsMember n ns → P n
member_has P [] n all m = absurd m
member_has P (i ∷ ns) n all (inl e) = subst P e all.0
member_has P (i ∷ ns) n all (inr m) = member_has P ns n all.1 m

-- Each new node stands under one of the two children, where it stands strictly below their parent.
pub grown_strictly : (m0 m m' : Table) (x : ℕ) (p : Progress) (v : Valuation) (l r : Numbered) → IsTable m →
    IsTable m' → MoveInProgress m0 m x p v → Extends m m' → subtree m.vtree x ≡ Some (NumberedNode x l r) →
    GrowsStrictlyBelow m m' x →
    ((n : ℕ) → IsSome (get m.detached n) → IsTwoSided (plain_tree l) (plain_tree r) (v (2050 + n))) →
    HasGrown m m' x (plain_tree l) (plain_tree r) v
grown_strictly m0 m m' x p v l r t t' g e at grows waiting =
    has_grown m0 m m' x p v l r t t' g e at (λ n k none is. under n k none is) waiting
  where
    at' : subtree m'.vtree x ≡ Some (NumberedNode x l r)
    at' = ap (λ s. subtree s x) e.vtree ∙ at

    under : (n : ℕ) (k : ℕ × List (ℕ × ℕ)) → get m.linked n ≡ None → get m'.linked n ≡ Some k →
        IsUnder m'.vtree k.0 (number_of l) ⊎ IsUnder m'.vtree k.0 (number_of r)
    under n k none is =
        let s = grows.each n k none is in
        let pair : Some (s.left, s.right) ≡ Some (number_of l, number_of r) =
        s.children ∙ ap (option_and_then child_numbers) at' in
        let parts = some_pair_parts s.left (number_of l) s.right (number_of r) pair in
        elim s.under [
          | inl u ↦ inl (subst (IsUnder m'.vtree k.0) parts.0 u)
          | inr u ↦ inr (subst (IsUnder m'.vtree k.0) parts.1 u)
        ]

module _ (m0 m m' : Table) (x : ℕ) (h : Progress) (v : Valuation) (numbers : List ℕ) (t : IsTable m) (t' : IsTable m')
    (c : CanRewriteAll m0 m x h v numbers) (e : Extends m m') (grows : GrowsStrictlyBelow m m' x) where
  -- each detached node looks at both children
  pub waiting_sides : (n : ℕ) → IsSome (get m.detached n) →
      IsTwoSided (plain_tree c.left) (plain_tree c.right) (v (2050 + n))
  waiting_sides n s =
      (member_has (IsWaiting m0 m x h v (plain_tree c.left) (plain_tree c.right)) numbers n c.each
      (c.only n s)).two_sided

  grown : HasGrown m m' x (plain_tree c.left) (plain_tree c.right) v
  grown = grown_strictly m0 m m' x h v c.left c.right t t' c.going e c.at grows waiting_sides

  pub going_after : MoveInProgress m0 m' x h (values_after m m' v)
  going_after = grown_on m0 m m' x h (plain_tree c.left) (plain_tree c.right) v c.going grown

  -- the nodes that there were keep their values
  pub values_kept : KeepsValues (key_at m) v (values_after m m' v)
  values_kept n is = grown_kept (get m.linked) (get m'.linked) (get m.detached) v n is

  -- what is shown has its value afterwards, and looks at what it looked at
  within_after : (tree : Tree) (d : ℕ) → ShowsWithin m.vtree (get m.linked) v tree d →
      ShowsWithin m'.vtree (get m'.linked) (values_after m m' v) tree d
  within_after tree d w =
      let shown = shown_on m m' e d w.shown.diagram w.shown.is in
      let value : IsSame (meaning w.shown.diagram) (values_after m m' v d) = λ a.
      shown_value m'.vtree (get m'.linked) t'.numbered (values_after m m' v) going_after.literals
      (λ i u l k. going_after.value i u l (linked_key m' i (u, l) k)) w.shown.diagram d a shown.shows in
      record {
        shown = record { diagram = w.shown.diagram; is = shown; value = value };
        within = depends_same tree (values_after m m' v d) (v d) (λ a. sym (value a) ∙ w.shown.value a) w.within;
      }

  waiting_after : (n : ℕ) → IsWaiting m0 m x h v (plain_tree c.left) (plain_tree c.right) n →
      IsWaiting m0 m' x h (values_after m m' v) (plain_tree c.left) (plain_tree c.right) n
  waiting_after n w =
      let tree = Node (plain_tree c.left) (plain_tree c.right) in
      let key = detached_key m t n (x, w.list) w.was in
      record {
        list = w.list;
        was = ap (λ z. get z n) e.detached ∙ w.was;
        old = w.old;
        two_sided = two_sided_same (plain_tree c.left) (plain_tree c.right) (values_after m m' v (2050 + n))
            (v (2050 + n)) (values_kept n (subst IsSome (sym key) refl)) w.two_sided;
        codes = all_weaker
            (λ (p : ℕ × ℕ). ShowsWithin m.vtree (get m.linked) v tree p.0
            × ShowsWithin m.vtree (get m.linked) v tree p.1)
            (λ (p : ℕ × ℕ). ShowsWithin m'.vtree (get m'.linked) (values_after m m' v) tree p.0
            × ShowsWithin m'.vtree (get m'.linked) (values_after m m' v) tree p.1)
            (λ p k. (within_after tree p.0 k.0, within_after tree p.1 k.1)) w.list w.codes;
      }

  -- The nodes that wait may be rewritten after the operation too.
  pub rewrite_after : CanRewriteAll m0 m' x h (values_after m m' v) numbers
  rewrite_after =
      record {
        going = going_after;
        there = c.there;
        left = c.left;
        right = c.right;
        at = ap (λ s. subtree s x) e.vtree ∙ c.at;
        once = c.once;
        only = λ n s. c.only n (subst IsSome (ap (λ z. get z n) e.detached) s);
        each = all_weaker (IsWaiting m0 m x h v (plain_tree c.left) (plain_tree c.right))
            (IsWaiting m0 m' x h (values_after m m' v) (plain_tree c.left) (plain_tree c.right)) waiting_after numbers
            c.each;
      }

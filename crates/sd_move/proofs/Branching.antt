-- The branches of a list: what a row of them makes, and that all rows together have the value of the list.
use Rattle.std.proofs.Common.{◌≡◌, ◌≢◌, ◌⊎◌, inl, inr, ℕ, zero, suc, ◌+◌, ◌-◌, ◌*◌, ◌≤◌, ◌<◌}
use Rattle.std.proofs.Common.{Bool, true, false, cond, ◌&&◌, ◌||◌}
use Rattle.std.proofs.Common.{List, [], ◌∷◌, ◌++◌, length, map, take, drop, get_or, Some, slice_get, sum_by}
use Rattle.std.proofs.Common.{append_assoc, append-nil, length-append, refl, sym, ◌∙◌, ap, subst, arith}
use Rattle.std.specs.List.{AllByRecursion, AllZip}
use Rattle.std.specs.List.Sorted.{IsPermutation}
use Rattle.std.specs.FinMap.{get}
use Rattle.std.specs.Option.{IsSome}
use Rattle.std.proofs.lemmas.Bool.{false≢true}
use Rattle.std.proofs.lemmas.List.{at_drop_more, at_drop_all, nil_from_length, take_more}
use Rattle.std.proofs.lemmas.List.Sums.{sum_by-cons}
use Rattle.std.proofs.lemmas.List.Sorted.{sum_by-IsPermutation}
use Rattle.std.proofs.lemmas.Option.{none-some, same_Some, slice_get-get_or}
use Rattle.sd_model.specs.Tree.{Node, leaves}
use Rattle.sd_model.specs.Diagram.{Diagram, Bottom, meaning}
use Rattle.sd_vtree.specs.Numbered.{plain_tree, IsUnder}
use Rattle.sd_vtree.proofs.Subtrees.{once_numbered, inner_part}
use Rattle.sd_vtree.proofs.Under.{under_trans, child_right}
use Rattle.sd_laws.specs.Depends.{DependsOn}
use Rattle.sd_laws.specs.Pairs.{answers}
use Rattle.sd_laws.specs.Values.{Valuation, IsSame, pairs_value, chosen, IsWhole, Takes}
use Rattle.sd_laws.proofs.Choosing.{chosen_value}
use Rattle.sd_laws.proofs.Codes.{bottom_from_code}
use Rattle.sd_laws.proofs.Evaluated.{value_of}
use Rattle.sd_laws.proofs.Lists.{all_weaker, first_permuted, zip_push, zip_weaker}
use Rattle.sd_laws.proofs.Placing.{depends_left, depends_right}
use Rattle.sd_manager.specs.Table.{Table, key_at}
use Rattle.sd_manager.specs.Shown.{Shows, HasNode, IsPartitionAt}
use Rattle.sd_manager.specs.Views.{pairs_at}
use Rattle.sd_manager.proofs.Holding.{some_value}
use Rattle.sd_manager.specs.Making.{Extends, IsMade}
use Rattle.sd_manager.specs.Valid.{IsTable}
use Rattle.sd_manager.proofs.Extending.{extends_self, extends_on}
use Rattle.sd_apply.specs.Elements.{IsPair, HasList}
use Rattle.sd_apply.specs.Growing.{GrowsBelow, GrowsStrictlyBelow}
use Rattle.sd_apply.specs.Partitions.{IsPartitionOf, AreElementsOf}
use Rattle.sd_apply.specs.Places.{HasChildren, IsBelow, IsNodeUnder}
use Rattle.sd_apply.proofs.AtNode.{elements_none, elements_append, elements_of_on, elements_of_list, elements_partition}
use Rattle.sd_apply.proofs.AtNode.{partition_of_list, strictly_left}
use Rattle.sd_apply.proofs.Growing.{strictly_both, strictly_none, strictly_under, strictly_wider}
use Rattle.sd_apply.proofs.Listed.{below_on, children_on, node_on}
use Rattle.sd_apply.proofs.Merging.{made_joins, head_of}
use Rattle.sd_apply.proofs.Trees.{below_canonical, bottom_under, children_of, left_tree, right_tree}
use Rattle.sd_apply.proofs.Whole.{compresses, partition_from}
use Rattle.sd_move.specs.declared.branches.Corner.{Corner}
use Rattle.sd_move.specs.Branches.{Branch, IsCorner, ShowsBelow, reached, some_branch, IsOwnList, branch_of}
use Rattle.sd_move.specs.Branches.{AddsBranches, IsBranch, found, AreBranches, AreInnerBelow, CanJoin, sub_at}
use Rattle.sd_move.specs.Branches.{IsInnerOf, IsRow, IsGroup, IsNextPrime, IsJoined, IsCornerOf}
use Rattle.sd_move.specs.Rewriting.{AreBelow}
use Rattle.sd_move.specs.Sorting.{TellsAllBelow}
use Rattle.sd_model.specs.declared.trees.Side.TheVariants.{Left}
use Rattle.sd_move.proofs.Below.{at_index, from_index}
use Rattle.sd_move.proofs.NewList.{or_assoc, or_false, and_false, key_stays, list_stays}
use Rattle.sd_move.proofs.Spreading.{shown_value, value_on, possible_diagram, before_rest, left_child_under}

-- lists

-- what is left from an index on begins with what stands there
pub from_here : (l : List Branch) (i : ℕ) → i < length l → drop i l ≡ get_or l i (0, 0, 0) ∷ drop (i + 1) l
from_here l i lt = at_drop_more (λ k. k) l i (0, 0, 0) lt

-- what holds of all holds of one
pub at_slice : (P : Branch → Type 0) (l : List Branch) (i : ℕ) (e : Branch) → AllByRecursion P l →
    slice_get l i ≡ Some e → P e
at_slice P [] i e all h = absurd (none-some e h)
at_slice P (x ∷ l) zero e all h = subst P (same_Some x e h) all.0
at_slice P (x ∷ l) (suc i) e all h = at_slice P l i e all.1 h

-- one more for which it holds
branch_push : (P : Branch → Type 0) (l : List Branch) (e : Branch) → AllByRecursion P l → P e →
    AllByRecursion P (l ++ e ∷ [])
branch_push P [] e h p = (p, tt)
branch_push P (x ∷ l) e h p = (h.0, branch_push P l e h.1 p)

pair_push : (P : ℕ × ℕ → Type 0) (l : List (ℕ × ℕ)) (e : ℕ × ℕ) → AllByRecursion P l → P e →
    AllByRecursion P (l ++ e ∷ [])
pair_push P [] e h p = (p, tt)
pair_push P (x ∷ l) e h p = (h.0, pair_push P l e h.1 p)

-- values of branches

-- those of two lists
reached_append : (v : Valuation) (l k : List Branch) (a : List Bool) → reached v (l ++ k) a
    ≡ reached v l a ++ reached v k a
reached_append v [] k a = refl
reached_append v (e ∷ l) k a =
    elim (v e.1 a && v e.2 a)
    as (λ b. cond b (v e.0 a ∷ reached v (l ++ k) a) (reached v (l ++ k) a)
    ≡ cond b (v e.0 a ∷ reached v l a) (reached v l a) ++ reached v k a) [
      | true ↦ ap (λ x. v e.0 a ∷ x) (reached_append v l k a)
      | false ↦ reached_append v l k a
    ]

-- at most one branch to one sub gives its value where it is true
one_group : (v : Valuation) (s : ℕ) (l : List Branch) (a : List Bool) → AllByRecursion (λ (e : Branch). e.0 ≡ s) l →
    length (reached v l a) ≤ 1 → reached v l a ≡ cond (some_branch v l a) (v s a ∷ []) []
one_group v s [] a same h = refl
one_group v s (e ∷ l) a same h =
    (elim (v e.1 a && v e.2 a)
    as (λ b. length (cond b (v e.0 a ∷ reached v l a) (reached v l a)) ≤ 1 →
    cond b (v e.0 a ∷ reached v l a) (reached v l a) ≡ cond (b || some_branch v l a) (v s a ∷ []) []) [
      | true ↦ λ n. ap (λ k. v e.0 a ∷ k) (nil_from_length (reached v l a) (omega (arith, n)))
          ∙ ap (λ c. v c a ∷ []) same.0
      | false ↦ λ n. one_group v s l a same.1 n
    ]) h

value_push : (v : Valuation) (l : List (ℕ × ℕ)) (e : ℕ × ℕ) (a : List Bool) → pairs_value v (l ++ e ∷ []) a
    ≡ (pairs_value v l a || (v e.0 a && v e.1 a))
value_push v [] e a = sym (or_false (v e.0 a && v e.1 a))
value_push v (f ∷ l) e a =
    ap (λ x. (v f.0 a && v f.1 a) || x) (value_push v l e a)
    ∙ sym (or_assoc (v f.0 a && v f.1 a) (pairs_value v l a) (v e.0 a && v e.1 a))

some_push : (v : Valuation) (l : List Branch) (e : Branch) (a : List Bool) → some_branch v (l ++ e ∷ []) a
    ≡ (some_branch v l a || (v e.1 a && v e.2 a))
some_push v [] e a = sym (or_false (v e.1 a && v e.2 a))
some_push v (f ∷ l) e a =
    ap (λ x. (v f.1 a && v f.2 a) || x) (some_push v l e a)
    ∙ sym (or_assoc (v f.1 a && v f.2 a) (some_branch v l a) (v e.1 a && v e.2 a))

-- a row

-- a prime that is read at an index
pub prime_read : (l : List (ℕ × ℕ)) (i : ℕ) (d e : ℕ × ℕ) → i < length l → (get_or l i d).0 ≡ (get_or l i e).0
prime_read l i d e lt =
    ap (λ (x : ℕ × ℕ). x.0) (same_Some (get_or l i d) (get_or l i e)
    (sym (slice_get-get_or l i d lt) ∙ slice_get-get_or l i e lt))

-- at the begin it is empty
pub row_first : (branches : List Branch) (from : ℕ) (row : List (ℕ × ℕ)) → row ≡ [] → IsRow [] branches from row from
row_first branches from row none =
    subst (λ r. IsRow [] branches from r from) (sym none) (record {
      taken = [];
      parts = refl;
      same = tt;
      primes = tt;
      subs = tt;
      value = λ v z a. refl;
      onward = omega arith;
    })

-- what is taken of a list up to the next index
take_here : (l : List (ℕ × ℕ)) (i : ℕ) → i < length l → take (i + 1) l ≡ take i l ++ get_or l i (0, 0) ∷ []
take_here l i lt = take_more l i (0, 0) lt

-- a prime beside the second prime of the next branch
pub row_takes : (own : List (ℕ × ℕ)) (branches : List Branch) (from : ℕ) (row longer : List (ℕ × ℕ))
    (next i prime inner : ℕ) → IsRow (take i own) branches from row next → i < length own →
    (get_or own i (0, 0)).0 ≡ prime → next < length branches →
    slice_get branches next ≡ Some (sub_at branches from, prime, inner) → longer ≡ row ++ (prime, inner) ∷ [] →
    IsRow (take (i + 1) own) branches from longer (next + 1)
row_takes own branches from row longer next i prime inner h lt same within at pushed =
    let e : Branch = (sub_at branches from, prime, inner) in
    let here : get_or branches next (0, 0, 0) ≡ e =
    same_Some (get_or branches next (0, 0, 0)) e (sym (slice_get-get_or branches next (0, 0, 0) within) ∙ at) in
    rw (pushed, take_here own i lt) (record {
      taken = h.taken ++ e ∷ [];
      parts = h.parts
          ∙ ap (λ k. h.taken ++ k) (from_here branches next within ∙ ap (λ x. x ∷ drop (next + 1) branches) here)
          ∙ sym (append_assoc h.taken (e ∷ []) (drop (next + 1) branches));
      same = branch_push (λ (e : Branch). e.0 ≡ sub_at branches from) h.taken e h.same refl;
      primes = zip_push (λ (e f : ℕ × ℕ). e.0 ≡ f.0) (take i own) row (get_or own i (0, 0)) (prime, inner) h.primes
          same;
      subs = pair_push (λ (e : ℕ × ℕ). (e.1 ≡ 0) ⊎ IsInnerOf branches e.1) row (prime, inner) h.subs
          (inr (next, e, at, refl));
      value = λ v z a. value_push v row (prime, inner) a
          ∙ ap (λ x. x || (v prime a && v inner a)) (h.value v z a) ∙ sym (some_push v h.taken e a);
      onward = omega (arith, h.onward);
    })

-- and beside false
pub row_passes : (own : List (ℕ × ℕ)) (branches : List Branch) (from : ℕ) (row longer : List (ℕ × ℕ))
    (next i prime : ℕ) → IsRow (take i own) branches from row next → i < length own →
    (get_or own i (0, 0)).0 ≡ prime → longer ≡ row ++ (prime, 0) ∷ [] →
    IsRow (take (i + 1) own) branches from longer next
row_passes own branches from row longer next i prime h lt same pushed =
    rw (pushed, take_here own i lt) (record {
      taken = h.taken;
      parts = h.parts;
      same = h.same;
      primes = zip_push (λ (e f : ℕ × ℕ). e.0 ≡ f.0) (take i own) row (get_or own i (0, 0)) (prime, 0) h.primes same;
      subs = pair_push (λ (e : ℕ × ℕ). (e.1 ≡ 0) ⊎ IsInnerOf branches e.1) row (prime, 0) h.subs (inl refl);
      value = λ v z a. value_push v row (prime, 0) a ∙ ap (λ x. x || (v prime a && v 0 a)) (h.value v z a)
          ∙ ap (λ x. some_branch v h.taken a || (v prime a && x)) (z a)
          ∙ ap (λ x. some_branch v h.taken a || x) (and_false (v prime a)) ∙ sym (or_false (some_branch v h.taken a));
      onward = h.onward;
    })

-- what is shown below vtree nodes

-- also after a step
shows_below_on : (old new : Table) → Extends old new → (u c : ℕ) (f : List Bool → Bool) → ShowsBelow old u c f →
    ShowsBelow new u c f
shows_below_on old new x u c f h =
    record { diagram = h.diagram; is = node_on old new x u c h.diagram h.is; value = h.value }

pub can_on : (old new : Table) → Extends old new → (v : Valuation) (c : Corner) (own : List (ℕ × ℕ))
    (branches : List Branch) → CanJoin old v c own branches → CanJoin new v c own branches
can_on old new x v c own branches h = record {
  corner = record {
    upper = children_on old new x c.upper c.lower c.right h.corner.upper;
    lower = children_on old new x c.lower c.left c.middle h.corner.lower;
  };
  zero = h.zero;
  primes = all_weaker (λ (e : ℕ × ℕ). ShowsBelow old c.left e.0 (v e.0) × Takes v e.0 true)
      (λ (e : ℕ × ℕ). ShowsBelow new c.left e.0 (v e.0) × Takes v e.0 true)
      (λ e k. (shows_below_on old new x c.left e.0 (v e.0) k.0, k.1)) own h.primes;
  one_true = h.one_true;
  each = all_weaker (λ (e : Branch). ShowsBelow old c.right e.0 (v e.0) × (ShowsBelow old c.left e.1 (v e.1)
      × ShowsBelow old c.middle e.2 (v e.2)))
      (λ (e : Branch). ShowsBelow new c.right e.0 (v e.0) × (ShowsBelow new c.left e.1 (v e.1)
      × ShowsBelow new c.middle e.2 (v e.2)))
      (λ e k. (
        shows_below_on old new x c.right e.0 (v e.0) k.0,
        (shows_below_on old new x c.left e.1 (v e.1) k.1.0, shows_below_on old new x c.middle e.2 (v e.2) k.1.1),
      )) branches h.each;
  one_reached = h.one_reached;
}

-- elements below both children, by their values
codes_list : (t : Table) (v : Valuation) (u w : ℕ) (l : List (ℕ × ℕ)) →
    AllByRecursion (λ (e : ℕ × ℕ). (ShowsBelow t u e.0 (v e.0) × Takes v e.0 true) × ShowsBelow t w e.1 (v e.1)) l →
    HasList t u w l (chosen v l)
codes_list t v u w [] h = record { shown = []; lists = record { pairs = tt }; value = λ a. refl }
codes_list t v u w (e ∷ l) h =
    let r = codes_list t v u w l h.1 in
    let p = h.0.0.0 in
    let s = h.0.1 in
    let takes = h.0.0.1 in
    record {
      shown = (p.diagram, s.diagram) ∷ r.shown;
      lists = record {
        pairs = (
          record {
            prime_shows = p.is.shows;
            sub_shows = s.is.shows;
            prime = p.is.under;
            sub = s.is.under;
            possible = possible_diagram p.diagram takes.0 (p.value takes.0 ∙ takes.1);
          },
          r.lists.pairs,
        );
      };
      value = λ a. ap (λ b. cond b (meaning s.diagram a ∷ answers a r.shown) (answers a r.shown)) (p.value a)
          ∙ ap (λ b. cond (v e.0 a) (b ∷ answers a r.shown) (answers a r.shown)) (s.value a)
          ∙ ap (λ k. cond (v e.0 a) (v e.1 a ∷ k) k) (r.value a);
    }

-- as many primes are true in lists with the same primes
same_length : (v : Valuation) (l k : List (ℕ × ℕ)) → AllZip (λ (e f : ℕ × ℕ). e.0 ≡ f.0) l k → (a : List Bool) →
    length (chosen v k a) ≡ length (chosen v l a)
same_length v [] [] h a = refl
same_length v [] (f ∷ k) h a = absurd h
same_length v (e ∷ l) [] h a = absurd h
same_length v (e ∷ l) (f ∷ k) h a =
    ap (λ c. length (cond (v c a) (v f.1 a ∷ chosen v k a) (chosen v k a))) (sym h.0)
    ∙ elim (v e.0 a)
    as (λ b. length (cond b (v f.1 a ∷ chosen v k a) (chosen v k a))
    ≡ length (cond b (v e.1 a ∷ chosen v l a) (chosen v l a))) [
      | true ↦ omega (arith, same_length v l k h.1 a)
      | false ↦ same_length v l k h.1 a
    ]

-- what the codes of a row show
row_codes : (t : Table) (v : Valuation) (u w : ℕ) (branches : List Branch) → ShowsBelow t w 0 (v 0) →
    ((c : ℕ) → IsInnerOf branches c → ShowsBelow t w c (v c)) → (own row : List (ℕ × ℕ)) →
    AllZip (λ (e f : ℕ × ℕ). e.0 ≡ f.0) own row →
    AllByRecursion (λ (e : ℕ × ℕ). ShowsBelow t u e.0 (v e.0) × Takes v e.0 true) own →
    AllByRecursion (λ (e : ℕ × ℕ). (e.1 ≡ 0) ⊎ IsInnerOf branches e.1) row →
    AllByRecursion (λ (e : ℕ × ℕ). (ShowsBelow t u e.0 (v e.0) × Takes v e.0 true) × ShowsBelow t w e.1 (v e.1)) row
row_codes t v u w branches none inner [] [] z p s = tt
row_codes t v u w branches none inner [] (f ∷ row) z p s = absurd z
row_codes t v u w branches none inner (e ∷ own) [] z p s = absurd z
row_codes t v u w branches none inner (e ∷ own) (f ∷ row) z p s = (
  (subst (λ c. ShowsBelow t u c (v c) × Takes v c true) z.0 p.0, here s.0),
  row_codes t v u w branches none inner own row z.1 p.1 s.1,
)
  where
    here : (f.1 ≡ 0) ⊎ IsInnerOf branches f.1 → ShowsBelow t w f.1 (v f.1)
    here (inl k) = subst (λ c. ShowsBelow t w c (v c)) (sym k) none
    here (inr k) = inner f.1 k

-- A row is a partition of the lower vtree node.
pub row_partition : (t : Table) → IsTable t → (v : Valuation) (c : Corner) (own : List (ℕ × ℕ))
    (branches : List Branch) → CanJoin t v c own branches → (from next : ℕ) (row : List (ℕ × ℕ)) →
    (k : IsRow own branches from row next) → IsPartitionOf t c.lower row (some_branch v k.taken)
row_partition t i v c own branches h from next row k =
    let none : ShowsBelow t c.middle 0 (v 0) = record {
      diagram = Bottom;
      is = record { shows = refl; under = bottom_under t.vtree c.middle };
      value = λ a. sym (h.zero a);
    } in
    let z = codes_list t v c.left c.middle row
    (row_codes t v c.left c.middle branches none (λ d m. subst (λ x. ShowsBelow t c.middle x (v x)) (sym m.3)
    (at_slice (λ (e : Branch). ShowsBelow t c.right e.0 (v e.0) × (ShowsBelow t c.left e.1 (v e.1)
    × ShowsBelow t c.middle e.2 (v e.2))) branches m.0 m.1 h.each m.2).1.1) own row k.primes h.primes k.subs) in
    partition_of_list t i c.lower c.left c.middle h.corner.lower row (some_branch v k.taken) (record {
      shown = z.shown;
      lists = z.lists;
      value = λ a. z.value a ∙ chosen_value v row a (same_length v own row k.primes a ∙ h.one_true a)
          ∙ ap (λ b. b ∷ []) (k.value v h.zero a);
    })

pub row_group : (t : Table) → IsTable t → (v : Valuation) (c : Corner) (own : List (ℕ × ℕ)) (branches : List Branch) →
    CanJoin t v c own branches → (from next : ℕ) (row : List (ℕ × ℕ)) → IsRow own branches from row next →
    from < next → IsGroup t v c branches from row next
row_group t i v c own branches h from next row k lt = record {
  taken = k.taken;
  parts = k.parts;
  same = k.same;
  partition = row_partition t i v c own branches h from next row k;
  onward = lt;
}

-- one branch

-- what is below a child is below its parent
left_wider : (t : Table) → IsTable t → (p u w c : ℕ) (d : Diagram) → HasChildren t.vtree p u w → IsNodeUnder t u c d →
    IsNodeUnder t p c d
left_wider t i p u w c d e h =
    let f = children_of t.vtree i.numbered p u w e in
    record {
      shows = h.shows;
      under = record {
        canonical = h.under.canonical;
        depends = subst (λ s. DependsOn s (meaning d)) (sym f.whole)
            (depends_left (plain_tree f.left) (plain_tree f.right) (meaning d)
            (subst (λ s. DependsOn s (meaning d)) (left_tree t.vtree p u w f) h.under.depends));
      };
    }

pub right_wider : (t : Table) → IsTable t → (p u w c : ℕ) (d : Diagram) → HasChildren t.vtree p u w →
    IsNodeUnder t w c d → IsNodeUnder t p c d
right_wider t i p u w c d e h =
    let f = children_of t.vtree i.numbered p u w e in
    record {
      shows = h.shows;
      under = record {
        canonical = h.under.canonical;
        depends = subst (λ s. DependsOn s (meaning d)) (sym f.whole)
            (depends_right (plain_tree f.left) (plain_tree f.right) (meaning d)
            (subst (λ s. DependsOn s (meaning d)) (right_tree t.vtree p u w f) h.under.depends));
      };
    }

-- the middle stands below the lower vtree node
pub middle_under : (t : Table) → IsTable t → (p u w : ℕ) → HasChildren t.vtree p u w → IsUnder t.vtree w p
middle_under t i p u w e = child_right t.vtree i.numbered p u w (inner_part t.vtree i.numbered p u w e)

-- what the branch at an index shows
pub branch_at : (t : Table) (v : Valuation) (c : Corner) (own : List (ℕ × ℕ)) (branches : List Branch) →
    CanJoin t v c own branches → (i : ℕ) → i < length branches →
    ShowsBelow t c.right (get_or branches i (0, 0, 0)).0 (v (get_or branches i (0, 0, 0)).0)
    × (ShowsBelow t c.left (get_or branches i (0, 0, 0)).1 (v (get_or branches i (0, 0, 0)).1)
    × ShowsBelow t c.middle (get_or branches i (0, 0, 0)).2 (v (get_or branches i (0, 0, 0)).2))
branch_at t v c own branches h i lt =
    at_slice (λ (e : Branch). ShowsBelow t c.right e.0 (v e.0) × (ShowsBelow t c.left e.1 (v e.1)
    × ShowsBelow t c.middle e.2 (v e.2))) branches i (get_or branches i (0, 0, 0)) h.each
    (slice_get-get_or branches i (0, 0, 0) lt)

pub prime_under : (t : Table) → IsTable t → (v : Valuation) (c : Corner) (own : List (ℕ × ℕ))
    (branches : List Branch) → (h : CanJoin t v c own branches) → (i : ℕ) → (lt : i < length branches) →
    IsNodeUnder t c.lower (get_or branches i (0, 0, 0)).1 (branch_at t v c own branches h i lt).1.0.diagram
prime_under t j v c own branches h i lt =
    let k = branch_at t v c own branches h i lt in
    left_wider t j c.lower c.left c.middle (get_or branches i (0, 0, 0)).1 k.1.0.diagram h.corner.lower k.1.0.is

pub inner_under : (t : Table) → IsTable t → (v : Valuation) (c : Corner) (own : List (ℕ × ℕ))
    (branches : List Branch) → (h : CanJoin t v c own branches) → (i : ℕ) → (lt : i < length branches) →
    IsNodeUnder t c.lower (get_or branches i (0, 0, 0)).2 (branch_at t v c own branches h i lt).1.1.diagram
inner_under t j v c own branches h i lt =
    let k = branch_at t v c own branches h i lt in
    right_wider t j c.lower c.left c.middle (get_or branches i (0, 0, 0)).2 k.1.1.diagram h.corner.lower k.1.1.is

-- a partition with the same value
pub partition_same : (t : Table) (p : ℕ) (l : List (ℕ × ℕ)) (f g : List Bool → Bool) → IsPartitionOf t p l f →
    IsSame f g → IsPartitionOf t p l g
partition_same t p l f g h same =
    record { diagrams = h.diagrams; is = h.is; value = λ a. h.value a ∙ ap (λ b. b ∷ []) (same a) }

pub one_branch : (old new : Table) → IsTable old → (v : Valuation) (c : Corner) (own : List (ℕ × ℕ))
    (branches : List Branch) → (h : CanJoin old v c own branches) → (from : ℕ) → (lt : from < length branches) →
    (row : List (ℕ × ℕ)) → IsPartitionOf new c.lower row
    (λ a. meaning (branch_at old v c own branches h from lt).1.0.diagram a
    && meaning (branch_at old v c own branches h from lt).1.1.diagram a) →
    IsGroup new v c branches from row (from + 1)
one_branch old new i v c own branches h from lt row part =
    let k = branch_at old v c own branches h from lt in
    let e = get_or branches from (0, 0, 0) in
    record {
      taken = e ∷ [];
      parts = from_here branches from lt;
      same = (refl, tt);
      partition = partition_same new c.lower row (λ a. meaning k.1.0.diagram a && meaning k.1.1.diagram a)
          (some_branch v (e ∷ [])) part
          (λ a. ap (λ b. b && meaning k.1.1.diagram a) (k.1.0.value a) ∙ ap (λ b. v e.1 a && b) (k.1.1.value a)
          ∙ or_false (v e.1 a && v e.2 a));
      onward = omega arith;
    }

-- the node of a row

pub node_shown : (n o : Table) → IsTable n → IsTable o → Extends n o → (p u w : ℕ) → HasChildren n.vtree p u w →
    (l : List (ℕ × ℕ)) (c : ℕ) (f : List Bool → Bool) → IsPartitionOf n p l f →
    ((ds : List (Diagram × Diagram)) → IsPartitionAt n p l ds → IsMade o c ds) → ShowsBelow o p c f
node_shown n o i j x p u w e l c f h made =
    let z = (compresses n o i j x p u w e l c (made_joins n o p u w l c i e made)).each h.diagrams h.is in
    let k = children_of o.vtree j.numbered p u w (children_on n o x p u w e) in
    record {
      diagram = z.diagram;
      is = record {
        shows = z.is.shows;
        under = below_canonical o.vtree p (Node (plain_tree k.left) (plain_tree k.right)) k.base z.diagram k.whole
            k.inner.part (z.below (plain_tree k.left) (plain_tree k.right) k.base k.inner);
      };
      value = λ a. head_of (meaning z.diagram a) [] (f a) (sym (z.value a) ∙ h.value a);
    }

-- what is new strictly below a vtree node is new below it
pub strictly_grows : (old new : Table) → IsTable new → (p : ℕ) → GrowsStrictlyBelow old new p → GrowsBelow old new p
strictly_grows old new i p g = record {
  each = λ n k none some. (strictly_under new.vtree i.numbered k.0 p (g.each n k none some)).1;
}

-- what is new below the lower vtree node is new strictly below the upper one
pub lower_grows : (old new : Table) → Extends old new → (c : Corner) → IsCorner old.vtree c →
    GrowsBelow old new c.lower → GrowsStrictlyBelow old new c.upper
lower_grows old new x c corner g = strictly_left old new x c.upper c.lower c.right corner.upper g

-- the vtree nodes stay what they are
pub corner_on : (old new : Table) → Extends old new → (c : Corner) → IsCorner old.vtree c → IsCorner new.vtree c
corner_on old new x c h = record {
  upper = children_on old new x c.upper c.lower c.right h.upper;
  lower = children_on old new x c.lower c.left c.middle h.lower;
}

-- what is new strictly below the lower vtree node is so below the upper one
pub group_grows : (old new : Table) → IsTable new → (c : Corner) → IsCorner new.vtree c →
    GrowsStrictlyBelow old new c.lower → GrowsStrictlyBelow old new c.upper
group_grows old new i c h g =
    strictly_wider old new i.numbered c.lower c.upper (left_child_under new i c.upper c.lower c.right h.upper) g

-- all of them

-- What is so of the first elements: with the branches that are left they have the values that all branches lead to.
pub record IsJoining (first now : Table) (v : Valuation) (c : Corner) (own : List (ℕ × ℕ)) (branches : List Branch)
    (all : List (ℕ × ℕ)) (next : ℕ) : Type 0 where
  pub can : CanJoin now v c own branches
  pub values : List Bool → List Bool
  pub elements : AreElementsOf now c.upper all values
  pub whole : (a : List Bool) → values a ++ reached v (drop next branches) a ≡ reached v branches a
  pub kept : Extends first now
  pub grown : GrowsStrictlyBelow first now c.upper
  pub table : IsTable now

pub joining_first : (t : Table) → IsTable t → (v : Valuation) (c : Corner) (own : List (ℕ × ℕ))
    (branches : List Branch) → CanJoin t v c own branches → (all : List (ℕ × ℕ)) → all ≡ [] →
    IsJoining t t v c own branches all 0
joining_first t i v c own branches h all none = record {
  can = h;
  values = λ a. [];
  elements = subst (λ l. AreElementsOf t c.upper l (λ a. [])) (sym none)
      (elements_none t i c.upper c.lower c.right h.corner.upper);
  whole = λ a. refl;
  kept = extends_self t;
  grown = strictly_none t c.upper;
  table = i;
}

-- the values of the branches that were taken
taken_values : (v : Valuation) (branches taken : List Branch) (next after : ℕ) (values : List Bool → List Bool)
    (s : ℕ) (a : List Bool) → drop next branches ≡ taken ++ drop after branches →
    AllByRecursion (λ (e : Branch). e.0 ≡ s) taken → length (reached v branches a) ≡ 1 →
    values a ++ reached v (drop next branches) a ≡ reached v branches a →
    reached v (drop next branches) a
    ≡ cond (some_branch v taken a) (v s a ∷ []) [] ++ reached v (drop after branches) a
taken_values v branches taken next after values s a parts same one whole =
    let both : reached v (drop next branches) a ≡ reached v taken a ++ reached v (drop after branches) a =
    ap (λ l. reached v l a) parts ∙ reached_append v taken (drop after branches) a in
    let few : length (reached v taken a) ≤ 1 =
    omega (
      arith,
      one,
      ap length whole,
      length-append (values a) (reached v (drop next branches) a),
      ap length both,
      length-append (reached v taken a) (reached v (drop after branches) a),
    ) in
    both ∙ ap (λ l. l ++ reached v (drop after branches) a) (one_group v s taken a same few)

-- one element
one_element : (t : Table) → IsTable t → (p u w : ℕ) → HasChildren t.vtree p u w → (c s : ℕ)
    (f g : List Bool → Bool) → ShowsBelow t u c f → c ≢ 0 → ShowsBelow t w s g →
    AreElementsOf t p ((c, s) ∷ []) (λ a. cond (f a) (g a ∷ []) [])
one_element t i p u w e c s f g h differ k =
    elements_of_list t i p u w e ((c, s) ∷ []) (λ a. cond (f a) (g a ∷ []) []) (record {
      shown = (h.diagram, k.diagram) ∷ [];
      lists = record {
        pairs = (
          record {
            prime_shows = h.is.shows;
            sub_shows = k.is.shows;
            prime = h.is.under;
            sub = k.is.under;
            possible = λ none. differ (subst (λ d. Shows t c d) none h.is.shows);
          },
          tt,
        );
      };
      value = λ a. ap (λ b. cond b (meaning k.diagram a ∷ []) []) (h.value a)
          ∙ ap (λ b. cond (f a) (b ∷ []) []) (k.value a);
    })

-- an element more
pub joining_more : (first now new : Table) (v : Valuation) (c : Corner) (own : List (ℕ × ℕ)) (branches : List Branch)
    (all longer : List (ℕ × ℕ)) (next after code : ℕ) → IsJoining first now v c own branches all next →
    next < length branches → Extends now new → IsTable new → GrowsStrictlyBelow now new c.upper →
    IsNextPrime new v c branches next code after → code ≢ 0 →
    longer ≡ all ++ (code, sub_at branches next) ∷ [] → IsJoining first new v c own branches longer after
joining_more first now new v c own branches all longer next after code h lt x i g k differ pushed =
    let can = can_on now new x v c own branches h.can in
    let s = sub_at branches next in
    let gained : List Bool → List Bool = λ a. cond (some_branch v k.taken a) (v s a ∷ []) [] in
    record {
      can = can;
      values = λ a. h.values a ++ gained a;
      elements = subst (λ l. AreElementsOf new c.upper l (λ a. h.values a ++ gained a)) (sym pushed)
          (elements_append new i c.upper c.lower c.right can.corner.upper all ((code, s) ∷ []) h.values gained
          (elements_of_on now new x c.upper all h.values h.elements)
          (one_element new i c.upper c.lower c.right can.corner.upper code s (some_branch v k.taken) (v s) k.shows
          differ (branch_at new v c own branches can next lt).0));
      whole = λ a. append_assoc (h.values a) (gained a) (reached v (drop after branches) a)
          ∙ ap (λ l. h.values a ++ l) (sym (taken_values v branches k.taken next after h.values s a k.parts k.same
          (can.one_reached a) (h.whole a))) ∙ h.whole a;
      kept = extends_on first now new h.kept x;
      grown = strictly_both first now new c.upper x h.grown g;
      table = i;
    }

-- and none where the prime is false
pub joining_skips : (first now new : Table) (v : Valuation) (c : Corner) (own : List (ℕ × ℕ)) (branches : List Branch)
    (all : List (ℕ × ℕ)) (next after code : ℕ) → IsJoining first now v c own branches all next →
    Extends now new → IsTable new → GrowsStrictlyBelow now new c.upper →
    IsNextPrime new v c branches next code after → code ≡ 0 → IsJoining first new v c own branches all after
joining_skips first now new v c own branches all next after code h x i g k is =
    let can = can_on now new x v c own branches h.can in
    let s = sub_at branches next in
    let none : k.shows.diagram ≡ Bottom = bottom_from_code new.vtree (get new.linked) i.numbered k.shows.diagram
    (subst (λ d. Shows new d k.shows.diagram) is k.shows.is.shows) in
    let false_here : (a : List Bool) → some_branch v k.taken a ≡ false = λ a.
    sym (k.shows.value a) ∙ ap (λ d. meaning d a) none in
    record {
      can = can;
      values = h.values;
      elements = elements_of_on now new x c.upper all h.values h.elements;
      whole = λ a. ap (λ b. h.values a ++ (cond b (v s a ∷ []) [] ++ reached v (drop after branches) a))
          (sym (false_here a))
          ∙ ap (λ l. h.values a ++ l) (sym (taken_values v branches k.taken next after h.values s a k.parts k.same
          (can.one_reached a) (h.whole a))) ∙ h.whole a;
      kept = extends_on first now new h.kept x;
      grown = strictly_both first now new c.upper x h.grown g;
      table = i;
    }

-- fewer branches are left
pub fewer_left : (l : List Branch) (next after : ℕ) → next < length l → next < after →
    length l - after < length l - next
fewer_left l next after lt more = omega (arith, lt, more)

pub joining_last : (first now : Table) (c : Corner) (own : List (ℕ × ℕ)) (branches : List Branch)
    (all : List (ℕ × ℕ)) (next : ℕ) → IsJoining first now (value_of (get first.linked)) c own branches all next →
    length branches ≤ next → IsJoined first now c branches all
joining_last first now c own branches all next h end =
    let v = value_of (get first.linked) in
    record {
      each = λ f value. elements_partition now c.upper all h.values f h.elements
          (λ a. sym (append-nil (h.values a))
          ∙ ap (λ l. h.values a ++ reached v l a) (sym (at_drop_all (λ l. l) branches next end)) ∙ h.whole a
          ∙ value a);
    }

-- the branches of a list

-- those of the first elements lead, with what the rest chooses, to what the list chooses
pub record IsCollecting (first now : Table) (c : Corner) (own rest : List (ℕ × ℕ)) (list : List Branch) : Type 0 where
  pub shown : List (Diagram × Diagram × Diagram)
  pub each : AllZip (IsBranch now c) list shown
  pub value : (a : List Bool) → found shown a ++ chosen (value_of (get first.linked)) rest a
      ≡ chosen (value_of (get first.linked)) own a
  pub kept : Extends first now
  pub grown : GrowsStrictlyBelow first now c.upper
  pub table : IsTable now

pub collecting_first : (t : Table) → IsTable t → (c : Corner) (own : List (ℕ × ℕ)) (list : List Branch) → list ≡ [] →
    IsCollecting t t c own own list
collecting_first t i c own list none = record {
  shown = [];
  each = subst (λ l. AllZip (IsBranch t c) l []) (sym none) tt;
  value = λ a. refl;
  kept = extends_self t;
  grown = strictly_none t c.upper;
  table = i;
}

found_append : (ds fs : List (Diagram × Diagram × Diagram)) (a : List Bool) → found (ds ++ fs) a
    ≡ found ds a ++ found fs a
found_append [] fs a = refl
found_append (d ∷ ds) fs a =
    elim (meaning d.1 a && meaning d.2 a)
    as (λ b. cond b (meaning d.0 a ∷ found (ds ++ fs) a) (found (ds ++ fs) a)
    ≡ cond b (meaning d.0 a ∷ found ds a) (found ds a) ++ found fs a) [
      | true ↦ ap (λ x. meaning d.0 a ∷ x) (found_append ds fs a)
      | false ↦ found_append ds fs a
    ]

-- what the branch of an element shows
triple_of : Diagram → Diagram × Diagram → Diagram × Diagram × Diagram
triple_of d f = (f.1, d, f.0)

-- no value is chosen of none
no_value : (b : Bool) → ◌≡◌ {A = List Bool} [] (cond b [] [])
no_value true = refl
no_value false = refl

-- the branches of one prime
found_one : (d : Diagram) (fs : List (Diagram × Diagram)) (a : List Bool) → found (map (triple_of d) fs) a
    ≡ cond (meaning d a) (answers a fs) []
unfolding triple_of
found_one d [] a = no_value (meaning d a)
found_one d (f ∷ fs) a =
    ap (λ x. cond (meaning d a && meaning f.0 a) (meaning f.1 a ∷ x) x) (found_one d fs a)
    ∙ elim (meaning d a)
    as (λ b. cond (b && meaning f.0 a) (meaning f.1 a ∷ cond b (answers a fs) []) (cond b (answers a fs) [])
    ≡ cond b (cond (meaning f.0 a) (meaning f.1 a ∷ answers a fs) (answers a fs)) []) [
      | true ↦ refl
      | false ↦ refl
    ]

zip_both : (t : Table) (c : Corner) (l k : List Branch) (ds fs : List (Diagram × Diagram × Diagram)) →
    AllZip (IsBranch t c) l ds → AllZip (IsBranch t c) k fs → AllZip (IsBranch t c) (l ++ k) (ds ++ fs)
zip_both t c [] k [] fs h z = z
zip_both t c [] k (d ∷ ds) fs h z = absurd h
zip_both t c (e ∷ l) k [] fs h z = absurd h
zip_both t c (e ∷ l) k (d ∷ ds) fs h z = (h.0, zip_both t c l k ds fs h.1 z)

-- the branches that a prime makes with elements
zip_prime : (t : Table) (c : Corner) (prime : ℕ) (d : Diagram) → IsNodeUnder t c.left prime d → (l : List (ℕ × ℕ))
    (fs : List (Diagram × Diagram)) → AllZip (IsPair t c.lower c.right) l fs →
    AllZip (IsBranch t c) (map (branch_of prime) l) (map (triple_of d) fs)
unfolding triple_of
zip_prime t c prime d h [] [] z = tt
zip_prime t c prime d h [] (f ∷ fs) z = absurd z
zip_prime t c prime d h (e ∷ l) [] z = absurd z
zip_prime t c prime d h (e ∷ l) (f ∷ fs) z = (
  record {
    sub = record { shows = z.0.sub_shows; under = z.0.sub };
    prime = h;
    inner = record { shows = z.0.prime_shows; under = z.0.prime };
  },
  zip_prime t c prime d h l fs z.1,
)

pub collecting_more : (first now next : Table) → IsTable first → (c : Corner) → IsCorner first.vtree c →
    (own rest : List (ℕ × ℕ)) (list longer : List Branch) (e : ℕ × ℕ) →
    IsCollecting first now c own (e ∷ rest) list → IsBelow first c.left e.0 → IsBelow first c.upper e.1 →
    Extends now next → IsTable next → GrowsStrictlyBelow now next c.upper →
    AddsBranches now next c.upper e list longer → IsCollecting first next c own rest longer
collecting_more first now next t c corner own rest list longer e h prime sub x i g k =
    let v = value_of (get first.linked) in
    let kept = extends_on first now next h.kept x in
    let part = k.each sub.diagram (node_on first now h.kept c.upper e.1 sub.diagram sub.is) in
    let pairs = (partition_from next i c.upper c.lower c.right
    (children_on first next kept c.upper c.lower c.right corner.upper) k.list part.diagrams part.is).lists.pairs in
    let more = map (triple_of prime.diagram) part.diagrams in
    let gained : (a : List Bool) → found more a ≡ cond (v e.0 a) (v e.1 a ∷ []) [] = λ a.
    found_one prime.diagram part.diagrams a
    ∙ ap (λ l. cond (meaning prime.diagram a) l []) (part.value a)
    ∙ ap (λ b. cond b (meaning sub.diagram a ∷ []) []) (shown_value first t c.left e.0 prime.diagram prime.is a)
    ∙ ap (λ b. cond (v e.0 a) (b ∷ []) []) (shown_value first t c.upper e.1 sub.diagram sub.is a) in
    record {
      shown = h.shown ++ more;
      each = subst (λ l. AllZip (IsBranch next c) l (h.shown ++ more)) (sym k.added)
          (zip_both next c list (map (branch_of e.0) k.list) h.shown more
          (zip_weaker (IsBranch now c) (IsBranch next c) (λ b d z. record {
            sub = node_on now next x c.right b.0 d.0 z.sub;
            prime = node_on now next x c.left b.1 d.1 z.prime;
            inner = node_on now next x c.lower b.2 d.2 z.inner;
          }) list h.shown h.each)
          (zip_prime next c e.0 prime.diagram (node_on first next kept c.left e.0 prime.diagram prime.is) k.list
          part.diagrams pairs));
      value = λ a. ap (λ l. l ++ chosen v rest a) (found_append h.shown more a ∙ ap (λ l. found h.shown a ++ l)
          (gained a)) ∙ append_assoc (found h.shown a) (cond (v e.0 a) (v e.1 a ∷ []) []) (chosen v rest a)
          ∙ ap (λ l. found h.shown a ++ l) (before_rest (v e.0 a) (v e.1 a) (chosen v rest a)) ∙ h.value a;
      kept = kept;
      grown = strictly_both first now next c.upper x h.grown g;
      table = i;
    }

pub sub_below : (first now : Table) → Extends first now → (c : Corner) (own : List (ℕ × ℕ)) (i : ℕ) (e : ℕ × ℕ) →
    slice_get own i ≡ Some e → IsOwnList first c own → IsBelow now c.upper e.1
sub_below first now x c own i e at w =
    below_on first now x c.upper e.1 (at_index (λ (e : ℕ × ℕ). IsBelow first c.upper e.1) own i e w.subs at)

-- the element at an index
pub collecting_next : (first now next : Table) → IsTable first → (c : Corner) → IsCorner first.vtree c →
    (own : List (ℕ × ℕ)) (list longer : List Branch) (i : ℕ) (e : ℕ × ℕ) → slice_get own i ≡ Some e →
    IsOwnList first c own → IsCollecting first now c own (drop i own) list → Extends now next → IsTable next →
    GrowsStrictlyBelow now next c.upper → AddsBranches now next c.upper e list longer →
    IsCollecting first next c own (drop (i + 1) own) longer
collecting_next first now next t c corner own list longer i e at w h x j g k =
    collecting_more first now next t c corner own (drop (i + 1) own) list longer e
    (subst (λ r. IsCollecting first now c own r list) (from_index own i e at) h)
    (at_index (λ (e : ℕ × ℕ). IsBelow first c.left e.0) own i e w.primes at)
    (at_index (λ (e : ℕ × ℕ). IsBelow first c.upper e.1) own i e w.subs at) x j g k

-- what is read at an index stands there
pub read_at : (l : List (ℕ × ℕ)) (i : ℕ) (d e : ℕ × ℕ) → i < length l → e ≡ get_or l i d → slice_get l i ≡ Some e
read_at l i d e lt is = slice_get-get_or l i d lt ∙ ap Some (sym is)

-- no element is left behind the last index
pub collecting_end : (first now : Table) (c : Corner) (own : List (ℕ × ℕ)) (list : List Branch) (i : ℕ) →
    IsCollecting first now c own (drop i own) list → length own ≤ i → IsCollecting first now c own [] list
collecting_end first now c own list i h end =
    subst (λ r. IsCollecting first now c own r list) (at_drop_all (λ l. l) own i end) h

-- in another order

-- 1 for a branch with true primes
true_branch : List Bool → Diagram × Diagram × Diagram → ℕ
true_branch a d = cond (meaning d.1 a && meaning d.2 a) 1 0

-- 1 for one whose sub is true too
true_sub : List Bool → Diagram × Diagram × Diagram → ℕ
true_sub a d = cond (meaning d.1 a && meaning d.2 a) (cond (meaning d.0 a) 1 0) 0

-- how many are true
trues : List Bool → ℕ
trues [] = 0
trues (b ∷ bs) = cond b 1 0 + trues bs

found_length : (a : List Bool) (ds : List (Diagram × Diagram × Diagram)) → length (found ds a)
    ≡ sum_by (true_branch a) ds
unfolding true_branch
found_length a [] = refl
found_length a (d ∷ ds) =
    let step : length (found (d ∷ ds) a) ≡ cond (meaning d.1 a && meaning d.2 a) 1 0 + sum_by (true_branch a) ds =
    elim (meaning d.1 a && meaning d.2 a)
    as (λ b. length (cond b (meaning d.0 a ∷ found ds a) (found ds a)) ≡ cond b 1 0 + sum_by (true_branch a) ds) [
      | true ↦ omega (arith, found_length a ds)
      | false ↦ omega (arith, found_length a ds)
    ] in
    step ∙ sym (sum_by-cons (true_branch a) d ds)

found_trues : (a : List Bool) (ds : List (Diagram × Diagram × Diagram)) → trues (found ds a)
    ≡ sum_by (true_sub a) ds
unfolding true_sub trues
found_trues a [] = refl
found_trues a (d ∷ ds) =
    let step : trues (found (d ∷ ds) a) ≡ cond (meaning d.1 a && meaning d.2 a) (cond (meaning d.0 a) 1 0) 0
    + sum_by (true_sub a) ds =
    elim (meaning d.1 a && meaning d.2 a)
    as (λ b. trues (cond b (meaning d.0 a ∷ found ds a) (found ds a))
    ≡ cond b (cond (meaning d.0 a) 1 0) 0 + sum_by (true_sub a) ds) [
      | true ↦ omega (arith, found_trues a ds)
      | false ↦ omega (arith, found_trues a ds)
    ] in
    step ∙ sym (sum_by-cons (true_sub a) d ds)

-- one value is known by how many are true
same_value : (bs : List Bool) (v : Bool) → length bs ≡ 1 → trues bs ≡ trues (v ∷ []) → bs ≡ v ∷ []
unfolding trues
same_value [] v e h = absurd (omega arith)
same_value (true ∷ []) true e h = refl
same_value (true ∷ []) false e h = absurd (omega arith)
same_value (false ∷ []) true e h = absurd (omega arith)
same_value (false ∷ []) false e h = refl
same_value (b ∷ c ∷ bs) v e h = absurd (omega arith)

found_permuted : (a : List Bool) (ds fs : List (Diagram × Diagram × Diagram)) (v : Bool) → IsPermutation ds fs →
    found ds a ≡ v ∷ [] → found fs a ≡ v ∷ []
found_permuted a ds fs v h e =
    same_value (found fs a) v
    (found_length a fs ∙ sum_by-IsPermutation (true_branch a) ds fs h ∙ sym (found_length a ds) ∙ ap length e)
    (found_trues a fs ∙ sum_by-IsPermutation (true_sub a) ds fs h ∙ sym (found_trues a ds) ∙ ap trues e)

-- the branches of all elements, sorted
pub collecting_last : (first now : Table) (c : Corner) (own : List (ℕ × ℕ)) (list sorted : List Branch) →
    IsOwnList first c own → IsCollecting first now c own [] list → IsPermutation list sorted →
    AreBranches first now c own sorted
collecting_last first now c own list sorted w h order =
    let v = value_of (get first.linked) in
    let q = first_permuted (IsBranch now c) list h.shown sorted h.each order in
    record {
      shown = q.0;
      each = q.2;
      value = λ a.
          let one = chosen_value v own a (w.whole.one_true a) in
          found_permuted a h.shown q.0 (pairs_value v own a) q.1
          (sym (append-nil (found h.shown a)) ∙ h.value a ∙ one) ∙ sym one;
    }

-- what the branches show

-- their second primes stand below the lower vtree node
pub inner_lower : (t : Table) (c : Corner) (l : List Branch) (ds : List (Diagram × Diagram × Diagram)) →
    AllZip (IsBranch t c) l ds → AreInnerBelow t c.lower l
inner_lower t c [] [] h = tt
inner_lower t c [] (d ∷ ds) h = tt
inner_lower t c (e ∷ l) [] h = absurd h
inner_lower t c (e ∷ l) (d ∷ ds) h = (record { diagram = d.2; is = h.0.inner }, inner_lower t c l ds h.1)

-- a code that shows a diagram has its value
shows_value : (t : Table) → IsTable t → (u c : ℕ) (d : Diagram) → IsNodeUnder t u c d →
    ShowsBelow t u c (value_of (get t.linked) c)
shows_value t i u c d h = record { diagram = d; is = h; value = shown_value t i u c d h }

-- the branches lead to what they show
reached_found : (t : Table) → IsTable t → (c : Corner) (l : List Branch) (ds : List (Diagram × Diagram × Diagram)) →
    AllZip (IsBranch t c) l ds → (a : List Bool) → reached (value_of (get t.linked)) l a ≡ found ds a
reached_found t i c [] [] h a = refl
reached_found t i c [] (d ∷ ds) h a = absurd h
reached_found t i c (e ∷ l) [] h a = absurd h
reached_found t i c (e ∷ l) (d ∷ ds) h a =
    let v = value_of (get t.linked) in
    let rest = reached_found t i c l ds h.1 a in
    ap (λ x. cond (v e.1 a && v e.2 a) (v e.0 a ∷ x) x) rest
    ∙ ap (λ b. cond (b && v e.2 a) (v e.0 a ∷ found ds a) (found ds a))
    (sym (shown_value t i c.left e.1 d.1 h.0.prime a))
    ∙ ap (λ b. cond (meaning d.1 a && b) (v e.0 a ∷ found ds a) (found ds a))
    (sym (shown_value t i c.lower e.2 d.2 h.0.inner a))
    ∙ ap (λ b. cond (meaning d.1 a && meaning d.2 a) (b ∷ found ds a) (found ds a))
    (sym (shown_value t i c.right e.0 d.0 h.0.sub a))

branches_show : (t : Table) → IsTable t → (c : Corner) (l : List Branch)
    (ds : List (Diagram × Diagram × Diagram)) → AllZip (IsBranch t c) l ds → AreInnerBelow t c.middle l →
    AllByRecursion (λ (e : Branch). ShowsBelow t c.right e.0 (value_of (get t.linked) e.0)
    × (ShowsBelow t c.left e.1 (value_of (get t.linked) e.1)
    × ShowsBelow t c.middle e.2 (value_of (get t.linked) e.2))) l
branches_show t i c [] [] h k = tt
branches_show t i c [] (d ∷ ds) h k = tt
branches_show t i c (e ∷ l) [] h k = absurd h
branches_show t i c (e ∷ l) (d ∷ ds) h k = (
  (
    shows_value t i c.right e.0 d.0 h.0.sub,
    (shows_value t i c.left e.1 d.1 h.0.prime, shows_value t i c.middle e.2 k.0.diagram k.0.is),
  ),
  branches_show t i c l ds h.1 k.1,
)

-- a list chooses the same in a larger table
pub chosen_on : (a b : Table) → IsTable a → IsTable b → Extends a b → (p q : ℕ) (l : List (ℕ × ℕ)) →
    AllByRecursion (λ (e : ℕ × ℕ). IsBelow a p e.0) l → AllByRecursion (λ (e : ℕ × ℕ). IsBelow a q e.1) l →
    (w : List Bool) → chosen (value_of (get b.linked)) l w ≡ chosen (value_of (get a.linked)) l w
chosen_on a b i j x p q [] h k w = refl
chosen_on a b i j x p q (e ∷ l) h k w =
    let v = value_of (get b.linked) in
    ap (λ r. cond (v e.0 w) (v e.1 w ∷ r) r) (chosen_on a b i j x p q l h.1 k.1 w)
    ∙ ap (λ s. cond s (v e.1 w ∷ chosen (value_of (get a.linked)) l w) (chosen (value_of (get a.linked)) l w))
    (value_on a b i j x p e.0 h.0 w)
    ∙ ap (λ s. cond (value_of (get a.linked) e.0 w) (s ∷ chosen (value_of (get a.linked)) l w)
    (chosen (value_of (get a.linked)) l w)) (value_on a b i j x q e.1 k.0 w)

-- the primes of a list show what they showed
primes_show : (a b : Table) → IsTable a → IsTable b → Extends a b → (p : ℕ) (l : List (ℕ × ℕ)) →
    AllByRecursion (λ (e : ℕ × ℕ). IsBelow a p e.0) l →
    AllByRecursion (λ (e : ℕ × ℕ). Takes (value_of (get a.linked)) e.0 true) l →
    AllByRecursion (λ (e : ℕ × ℕ). ShowsBelow b p e.0 (value_of (get b.linked) e.0)
    × Takes (value_of (get b.linked)) e.0 true) l
primes_show a b i j x p [] h k = tt
primes_show a b i j x p (e ∷ l) h k = (
  (
    shows_value b j p e.0 h.0.diagram (node_on a b x p e.0 h.0.diagram h.0.is),
    (k.0.0, value_on a b i j x p e.0 h.0 k.0.0 ∙ k.0.1),
  ),
  primes_show a b i j x p l h.1 k.1,
)

-- the branches lead to the value of the list
pub branches_value : (old new : Table) → IsTable new → (c : Corner) (own : List (ℕ × ℕ)) (branches : List Branch) →
    IsOwnList old c own → AreBranches old new c own branches → (a : List Bool) →
    reached (value_of (get new.linked)) branches a ≡ pairs_value (value_of (get old.linked)) own a ∷ []
branches_value old new j c own branches w h a =
    reached_found new j c branches h.shown h.each a ∙ h.value a
    ∙ chosen_value (value_of (get old.linked)) own a (w.whole.one_true a)

-- false has its value
zero_value : (t : Table) → IsTable t → IsSame (value_of (get t.linked) 0) (λ _. false)
zero_value t i a =
    sym (shown_value t i 0 0 Bottom (record { shows = refl; under = bottom_under t.vtree 0 }) a)

pub can_join : (old new : Table) → IsTable old → IsTable new → Extends old new → (c : Corner) →
    IsCorner old.vtree c → (own : List (ℕ × ℕ)) (branches : List Branch) → IsOwnList old c own →
    AreBranches old new c own branches → AreInnerBelow new c.middle branches →
    CanJoin new (value_of (get new.linked)) c own branches
can_join old new i j x c corner own branches w h inner = record {
  corner = record {
    upper = children_on old new x c.upper c.lower c.right corner.upper;
    lower = children_on old new x c.lower c.left c.middle corner.lower;
  };
  zero = zero_value new j;
  primes = primes_show old new i j x c.left own w.primes w.whole.possible;
  one_true = λ a. ap length (chosen_on old new i j x c.left c.upper own w.primes w.subs a) ∙ w.whole.one_true a;
  each = branches_show new j c branches h.shown h.each inner;
  one_reached = λ a. ap length (branches_value old new j c own branches w h a);
}

-- where the other way is taken

-- a node is there in a larger table
pub has_node_on : (a b : Table) → IsTable b → Extends a b → (c : ℕ) → HasNode a c → HasNode b c
has_node_on a b j x c (inl lt) = inl (subst (λ t. c < 2 * leaves (plain_tree t) + 2) (sym x.vtree) lt)
has_node_on a b j x c (inr k) =
    let q = some_value (key_at a (c - 2050)) k.1 in
    inr (k.0, subst IsSome (sym (key_stays a b j x (c - 2050) q.0 q.1)) refl)

-- its codes stand below the place, and its list has the value that it had
pub codes_on : (a b : Table) → IsTable a → IsTable b → Extends a b → (p c : ℕ) → HasNode a c → 2050 ≤ c →
    AreBelow a p (pairs_at a c) → AreBelow b p (pairs_at b c)
codes_on a b i j x p c there low h =
    subst (AreBelow b p) (sym (list_stays a b i j x c there low))
    (all_weaker (λ (e : ℕ × ℕ). IsBelow a p e.0 × IsBelow a p e.1) (λ (e : ℕ × ℕ). IsBelow b p e.0 × IsBelow b p e.1)
    (λ e k. (below_on a b x p e.0 k.0, below_on a b x p e.1 k.1)) (pairs_at a c) h)

list_value_on : (a b : Table) → IsTable a → IsTable b → Extends a b → (p : ℕ) (l : List (ℕ × ℕ)) → AreBelow a p l →
    IsSame (pairs_value (value_of (get b.linked)) l) (pairs_value (value_of (get a.linked)) l)
list_value_on a b i j x p [] h w = refl
list_value_on a b i j x p (e ∷ l) h w =
    ap (λ r. (value_of (get b.linked) e.0 w && value_of (get b.linked) e.1 w) || r)
    (list_value_on a b i j x p l h.1 w)
    ∙ ap (λ s. (s && value_of (get b.linked) e.1 w) || pairs_value (value_of (get a.linked)) l w)
    (value_on a b i j x p e.0 h.0.0 w)
    ∙ ap (λ s. (value_of (get a.linked) e.0 w && s) || pairs_value (value_of (get a.linked)) l w)
    (value_on a b i j x p e.1 h.0.1 w)

pub node_value_on : (a b : Table) → IsTable a → IsTable b → Extends a b → (p c : ℕ) → HasNode a c → 2050 ≤ c →
    AreBelow a p (pairs_at a c) →
    IsSame (pairs_value (value_of (get b.linked)) (pairs_at b c)) (pairs_value (value_of (get a.linked)) (pairs_at a c))
node_value_on a b i j x p c there low h w =
    ap (λ l. pairs_value (value_of (get b.linked)) l w) (list_stays a b i j x c there low)
    ∙ list_value_on a b i j x p (pairs_at a c) h w

-- the corner at a vtree node

pub corner_is : (m : Table) → IsTable m → (p lower left middle right c d : ℕ) → d ≡ c →
    HasChildren m.vtree p lower right → HasChildren m.vtree lower left middle → AreBelow m p (pairs_at m c) →
    IsWhole (value_of (get m.linked)) (pairs_at m c) → (tells : Bool) → tells ≡ true →
    TellsAllBelow m left Left (pairs_at m d) tells →
    IsCornerOf m p (pairs_at m c)
    (record { upper = p; lower = lower; left = left; middle = middle; right = right })
corner_is m i p lower left middle right c d same e f below whole true is h = record {
  upper = refl;
  corner = record { upper = e; lower = f };
  own = record {
    primes = subst (λ k. AllByRecursion (λ (e : ℕ × ℕ). IsBelow m left e.0) (pairs_at m k)) same h;
    subs = all_weaker (λ (e : ℕ × ℕ). IsBelow m p e.0 × IsBelow m p e.1) (λ (e : ℕ × ℕ). IsBelow m p e.1)
        (λ e k. k.1) (pairs_at m c) below;
    whole = whole;
  };
}
corner_is m i p lower left middle right c d same e f below whole false is h = absurd (false≢true is)

-- the left child of the left child stands below the vtree node
pub left_left_under : (m : Table) → IsTable m → (p lower left middle right : ℕ) →
    HasChildren m.vtree p lower right → HasChildren m.vtree lower left middle → IsUnder m.vtree left p
left_left_under m t p lower left middle right e f =
    under_trans m.vtree (once_numbered m.vtree t.numbered) left lower p (left_child_under m t lower left middle f)
    (left_child_under m t p lower right e)

-- The nodes that wait once those of the upper place of a rotation were sorted can be rewritten.
use Rattle.std.proofs.Common.{◌≡◌, ℕ, ◌+◌, false, List, [], Some, refl, sym, ◌∙◌, ap, subst}
use Rattle.std.specs.Option.{IsSome}
use Rattle.std.specs.FinMap.{get}
use Rattle.std.proofs.lemmas.Option.{same_Some}
use Rattle.sd_model.specs.Tree.{Node}
use Rattle.sd_vtree.specs.Numbered.{Numbered, NumberedNode, plain_tree, subtree}
use Rattle.sd_runs.specs.Arena.{IsMember}
use Rattle.sd_laws.specs.Depends.{DependsOn}
use Rattle.sd_laws.specs.Values.{Valuation, IsTwoSided, ShowsValue}
use Rattle.sd_laws.proofs.Evaluated.{value_of}
use Rattle.sd_laws.proofs.Lists.{all_at, all_from}
use Rattle.sd_manager.specs.Table.{Table}
use Rattle.sd_manager.specs.Valid.{IsTable}
use Rattle.sd_apply.specs.Places.{tree_at, plain}
use Rattle.sd_model.specs.declared.trees.Side.{Side}
use Rattle.sd_model.specs.declared.trees.Side.TheVariants.{Left, Right}
use Rattle.sd_move.specs.Journal.{Named}
use Rattle.sd_move.specs.Moving.{Progress, no_progress, HasBegun, MoveInProgress}
use Rattle.sd_move.specs.Rewriting.{ShowsWithin, IsWaiting, CanRewriteAll}
use Rattle.sd_move.specs.Sorting.{AreRotatedOn, CanSort, AreSorted, CanRotate, HasRotated}
use Rattle.sd_move.proofs.Divided.{left_of, right_of}
use Rattle.sd_move.proofs.LinkedAgain.{all_members}
use Rattle.sd_move.proofs.RotatedSort.{rotated_only}
use Rattle.sd_move.proofs.Waiting.{waits_once, waits_only, waits_two_sided, waits_sort, waits_below}

-- the children of the upper node
record HasTwoChildren (u : Numbered) (x : ℕ) : Type 0 where
  pub left : Numbered
  pub right : Numbered
  pub at : subtree u x ≡ Some (NumberedNode x left right)

-- after a rotation it has some
two_children : (side : Side) (t u : Numbered) (x w : ℕ) → AreRotatedOn side t u x w → HasTwoChildren u x
two_children Left t u x w h = record { left = h.a; right = NumberedNode w h.b h.c; at = h.second_upper }
two_children Right t u x w h = record { left = NumberedNode w h.a h.b; right = h.c; at = h.first_upper }

module _ (m0 mid new : Table) (t : Numbered) (side : Side) (x w : ℕ) (h : Progress) (v : Valuation)
    (numbers moved kept waits : List ℕ) (i : IsTable mid) (c : CanSort m0 mid t side x w h v numbers)
    (s : AreSorted mid new side x w numbers moved kept waits []) (g : MoveInProgress m0 new x h v)
    (there : h.goes_back ≡ false) (only : (n : ℕ) → IsSome (get mid.detached n) → IsMember n numbers) where
  children : HasTwoChildren new.vtree x
  children =
      subst (λ u. HasTwoChildren u x) (sym (ap (λ (z : Table). z.vtree) s.same))
      (two_children side t mid.vtree x w c.rotated)

  whole : tree_at new.vtree x ≡ Node (plain_tree children.left) (plain_tree children.right)
  whole = ap plain children.at

  waits_for : (n : ℕ) → IsMember n waits →
      IsWaiting m0 new x h v (plain_tree children.left) (plain_tree children.right) n
  waits_for n z =
      let a = waits_sort m0 mid new t side x w h v numbers moved kept waits i c s n z in
      let two = waits_two_sided m0 mid new t side x w h v numbers moved kept waits i c s n z in
      let same : NumberedNode x two.left two.right ≡ NumberedNode x children.left children.right =
      same_Some (NumberedNode x two.left two.right) (NumberedNode x children.left children.right)
      (sym two.at ∙ children.at) in
      let below = waits_below m0 mid new t side x w h v numbers moved kept waits i c s n z (x, a.list) a.was in
      record {
        list = a.list;
        was = a.was;
        old = a.old;
        two_sided = subst (λ k. IsTwoSided (plain_tree (left_of k)) (plain_tree (right_of k)) (v (2050 + n))) same
            two.two_sided;
        codes = all_from (λ (e : ℕ × ℕ).
            ShowsWithin new.vtree (get new.linked) v (Node (plain_tree children.left) (plain_tree children.right)) e.0
            × ShowsWithin new.vtree (get new.linked) v (Node (plain_tree children.left) (plain_tree children.right))
            e.1) a.list
            (λ e k.
            let shown =
            all_at (λ (d : ℕ × ℕ). ShowsValue new.vtree (get new.linked) v d.0
            × ShowsValue new.vtree (get new.linked) v d.1) a.list e a.codes k in
            let looks =
            all_at (λ (d : ℕ × ℕ). DependsOn (tree_at new.vtree x) (v d.0) × DependsOn (tree_at new.vtree x) (v d.1))
            a.list e below k in (
              record { shown = shown.0; within = subst (λ r. DependsOn r (v e.0)) whole looks.0 },
              record { shown = shown.1; within = subst (λ r. DependsOn r (v e.1)) whole looks.1 },
            ));
      }

  -- They can be rewritten.
  pub sorted_can_rewrite : CanRewriteAll m0 new x h v waits
  sorted_can_rewrite =
      record {
        going = g;
        there = there;
        left = children.left;
        right = children.right;
        at = children.at;
        once = waits_once m0 mid new t side x w h v numbers moved kept waits i c s;
        only = waits_only m0 mid new t side x w h v numbers moved kept waits i c s only;
        each = all_members (IsWaiting m0 new x h v (plain_tree children.left) (plain_tree children.right)) waits
            waits_for;
      }

-- After the first half of a rotation just the nodes that wait are detached, and they can be rewritten.
pub rotated_can_rewrite : (old m new : Table) (side : Side) (x w : ℕ) (upper lower : List ℕ) (u : Numbered)
    (a b : List Named) (waiting : List ℕ) → CanRotate old m side x w upper lower u →
    HasRotated m new side x w upper lower [] a b [] waiting → HasBegun old new x →
    CanRewriteAll old new x no_progress (value_of (get old.linked)) waiting
rotated_can_rewrite old m new side x w upper lower u a b waiting c r g =
    subst (CanRewriteAll old new x no_progress (value_of (get old.linked))) (sym r.sorted.listed)
    (sorted_can_rewrite old r.between new m.vtree side x w no_progress (value_of (get old.linked)) upper
    r.sorted.moved r.sorted.kept r.sorted.waits r.table (r.can_sort old u c) r.sorted.sorted g refl
    (rotated_only old m r.between x w upper lower r.u (c.first.at_rest c.no_move) c.detached r.linked))

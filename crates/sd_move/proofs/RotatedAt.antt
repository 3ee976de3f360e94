-- The vtree is rotated where the nodes at both nodes are detached, and those of the lower node may be linked then.
use Rattle.std.proofs.Common.{◌≡◌, ℕ, List, Some, sym, ◌∙◌, ap, subst}
use Rattle.std.specs.FinMap.{get}
use Rattle.std.proofs.lemmas.Option.{same_Some}
use Rattle.sd_model.specs.Tree.{leaves}
use Rattle.sd_model.specs.declared.trees.Move.{Move}
use Rattle.sd_vtree.specs.Numbered.{Numbered, plain_tree, IsUnder}
use Rattle.sd_vtree.specs.NumberedMoves.{moved_number}
use Rattle.sd_laws.specs.Turned.{lower_of}
use Rattle.sd_laws.specs.Values.{IsPlaced}
use Rattle.sd_laws.proofs.Evaluated.{value_of}
use Rattle.sd_manager.specs.Table.{Table}
use Rattle.sd_manager.specs.Valid.{IsTable}
use Rattle.sd_manager.specs.Moving.{with_vtree, IsCleared, KeepsMeanings}
use Rattle.sd_manager.specs.Places.{IsLinkedAt}
use Rattle.sd_move.specs.Moving.{no_progress, HasBegun}
use Rattle.sd_move.specs.Steps.{CanDetachFirst, CanLinkAll, IsChildNode, HasDetachedBoth}
use Rattle.sd_move.proofs.TurnedMove.{Turns, turns, turned_move}
use Rattle.sd_move.proofs.LowerLinked.{lower_may_link}
use Rattle.sd_move.proofs.LowerNode.{IsLowerNode, lower_node, then_can_detach, both_cleared}

module _ (old m : Table) (kind : Move) (x w : ℕ) (upper lower : List ℕ) (u : Numbered) (t : IsTable m)
    (d : HasDetachedBoth old m x w upper lower) (is : lower_of kind m.vtree x ≡ Some w)
    (moved : moved_number kind m.vtree x ≡ Some u) where
  -- both nodes are cleared
  pub cleared_there : (y : ℕ) → m.moving ≡ Some y → IsCleared m kind y
  cleared_there y e =
      subst (IsCleared m kind) (same_Some x y (sym d.going.moving ∙ e)) (both_cleared old m kind x w upper lower d is)

  -- before the lower ones were detached the vtree was this one
  tree : d.between.vtree ≡ m.vtree
  tree = sym (ap (λ (z : Table). z.vtree) d.second.same)

  node : IsLowerNode m.vtree u x w
  node = lower_node m.vtree u kind x w t.numbered moved is

  child : IsChildNode d.between.vtree x w
  child = subst (λ s. IsChildNode s x w) (sym tree) node.child

  none_between : (n : ℕ) → ¬ IsLinkedAt d.between x n
  none_between n at =
      d.none_upper n
      (record { list = at.list; is = d.second.others n (x, at.list) at.is node.child.apart })

  first : CanDetachFirst old d.between x no_progress (value_of (get old.linked)) w
  first = then_can_detach old d.between x w upper d.table child d.first d.began none_between

  -- the nodes of the lower node may be linked at the upper one
  pub rotated_may_link : (new : Table) → new ≡ with_vtree m u → KeepsMeanings m new →
      CanLinkAll old new x no_progress (value_of (get old.linked)) x lower
  rotated_may_link new same meanings =
      let r : Turns m.vtree u kind x = turns m.vtree u kind x t.numbered moved in
      let g : HasBegun old (with_vtree m u) x =
      turned_move old m x no_progress (value_of (get old.linked)) kind u t.numbered moved
      (both_cleared old m kind x w upper lower d is) (subst (KeepsMeanings m) same meanings) d.going in
      subst (λ z. CanLinkAll old z x no_progress (value_of (get old.linked)) x lower) (sym same)
      (lower_may_link old d.between m x w no_progress (value_of (get old.linked)) u lower d.table first.may
      first.settled d.second g r.numbered
      (subst (λ s. leaves (plain_tree u) ≡ leaves (plain_tree s)) (sym tree) r.leaves)
      (subst (λ s. (p : ℕ) → IsUnder s p x → IsUnder u p x) (sym tree) r.under) child.under
      (subst (λ s. (l : List (ℕ × ℕ)) → IsPlaced s (value_of (get old.linked)) w l →
      IsPlaced u (value_of (get old.linked)) x l) (sym tree) (node.placed (value_of (get old.linked))))
      (first.may.old first.there))

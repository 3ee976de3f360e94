use Rattle.std.proofs.Common.{None, get_or, sym, ap, ◌∙◌, arith}
use Rattle.std.specs.FinMap.{get, insert}
use Rattle.sd_manager.specs.Stored.{held_map}
use Rattle.sd_manager.proofs.Held.{get_held, held_push, held_set}
use Rattle.sd_manager.proofs.roots.Roots.hold.Goals.{then-index-len+else-index+in_ok-push, else-index-len}
use Rattle.sd_manager.proofs.roots.Roots.hold.Goals as goal

pub returns-clause-absent : goal.returns-clause-absent
returns-clause-absent c =
    ap (λ m. get m c.empty_slot-index.result) (sym c.self.view_is)
    ∙ get_held c.self.inside.slots.items c.empty_slot-index.result
    ∙ ap (λ l. get_or l c.empty_slot-index.result None) (sym c.as_slice.ensures.value)
    ∙ c.empty_slot-index.ensures.empty

pub returns-clause-ok : goal.returns-clause-ok
returns-clause-ok c = elim c.if-index-len.branch [
  | then-index-len+else-index+in_ok-push w ↦
      ap (λ a. held_map a.slots.items) w.self-inside-is
      ∙ ap held_map w.in_ok-push.ensures.items
      ∙ held_push c.self.inside.slots.items c.args.code c.empty_slot-index.result (omega (arith, w.if-index-len.true))
      ∙ ap (λ m. insert m c.empty_slot-index.result c.args.code) c.self.view_is
  | else-index-len w ↦
      ap (λ a. held_map a.slots.items) w.self-inside-is
      ∙ held_set c.self.inside.slots.items c.empty_slot-index.result c.args.code
      (omega (arith, w.if-index-len.false, c.empty_slot-index.ensures.inside, c.as_slice.ensures.len))
      ∙ ap (λ m. insert m c.empty_slot-index.result c.args.code) c.self.view_is
]

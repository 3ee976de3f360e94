use Rattle.sd_manager.specs.Stored.{AreFilled}
use Rattle.sd_manager.proofs.roots.empty_slot.Given as goal

-- no slot before is empty
abbrev pub invariant-loop-index : goal.invariant-loop-index
invariant-loop-index l = AreFilled l.slots l.first l.index

use Rattle.sd_manager.proofs.CountedRoots.{HasCounted}
use Rattle.sd_manager.proofs.roots.count_slots.Given as goal

-- the slots before are counted
abbrev pub invariant-loop-index : goal.invariant-loop-index
invariant-loop-index l = HasCounted l.slots l.initial.counts l.counts l.index

use Rattle.std.proofs.Common.{take}
use Rattle.sd_manager.specs.Counting.{list_at}
use Rattle.sd_manager.proofs.Dropped.{HasDropped}
use Rattle.sd_manager.proofs.uses.drop_uses.Given as goal

abbrev pub invariant-loop-index : goal.invariant-loop-index
invariant-loop-index l = HasDropped l.fn.nodes l.nodes (take l.index (list_at l.fn.nodes l.number))

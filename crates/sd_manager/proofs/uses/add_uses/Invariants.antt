use Rattle.std.proofs.Common.{take}
use Rattle.sd_manager.proofs.Counted.{HasAdded}
use Rattle.sd_manager.proofs.uses.add_uses.Given as goal

abbrev pub invariant-loop-pair : goal.invariant-loop-pair
invariant-loop-pair l = HasAdded l.fn.nodes l.nodes (take l.pair-index l.list)

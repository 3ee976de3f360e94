use Rattle.std.proofs.Common.{take}
use Rattle.sd_manager.specs.Counting.{run_at}
use Rattle.sd_manager.proofs.Dropped.{HasDropped}
use Rattle.sd_manager.proofs.uses.drop_run_uses.Given as goal

abbrev pub invariant-loop-index : goal.invariant-loop-index
invariant-loop-index l = HasDropped l.fn.nodes l.nodes (take l.index (run_at l.fn.nodes l.run.0))

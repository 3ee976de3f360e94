use Rattle.sd_manager.proofs.Evaluating.{HasPassed}
use Rattle.sd_manager.proofs.manager.Manager.+value_below.Given as goal

abbrev pub decreases-value_below : goal.decreases-value_below
decreases-value_below l = l.levels

abbrev pub invariant-loop-index : goal.invariant-loop-index
invariant-loop-index l = HasPassed l.self l.node l.index l.assignment

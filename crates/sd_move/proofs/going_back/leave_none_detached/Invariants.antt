use Rattle.sd_sweep.proofs.Used.{entry_count}
use Rattle.sd_move.proofs.ReturnSteps.{IsLeaving}
use Rattle.sd_move.proofs.going_back.leave_none_detached.Given as goal

abbrev pub invariant-loop-number : goal.invariant-loop-number
invariant-loop-number l = IsLeaving l.fn.m l.m l.fn.upper

abbrev pub decreases-loop-number : goal.decreases-loop-number
decreases-loop-number l = entry_count l.m.detached

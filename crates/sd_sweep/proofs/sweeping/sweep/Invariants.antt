use Rattle.sd_sweep.proofs.Used.{entry_count}
use Rattle.sd_sweep.proofs.Swept.{IsSweeping}
use Rattle.sd_sweep.proofs.sweeping.sweep.Given as goal

abbrev pub invariant-loop-number : goal.invariant-loop-number
invariant-loop-number l = IsSweeping l.fn.m l.m

abbrev pub decreases-loop-number : goal.decreases-loop-number
decreases-loop-number l = entry_count l.m.linked

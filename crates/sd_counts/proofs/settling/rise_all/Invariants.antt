use Rattle.sd_counts.specs.Queued.{rising_work}
use Rattle.sd_counts.proofs.Passes.{IsRising}
use Rattle.sd_counts.proofs.settling.rise_all.Given as goal

abbrev pub invariant-loop-top : goal.invariant-loop-top
invariant-loop-top l = IsRising l.nodes l.fn.counts l.counts l.rising l.top l.fn.total l.total

abbrev pub decreases-loop-top : goal.decreases-loop-top
decreases-loop-top l = rising_work l.counts

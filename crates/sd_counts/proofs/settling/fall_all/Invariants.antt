use Rattle.sd_counts.specs.Queued.{falling_work}
use Rattle.sd_counts.proofs.Passes.{IsFalling}
use Rattle.sd_counts.proofs.settling.fall_all.Given as goal

abbrev pub invariant-loop-top : goal.invariant-loop-top
invariant-loop-top l = IsFalling l.nodes l.fn.counts l.counts l.falling l.top l.fn.total l.total

abbrev pub decreases-loop-top : goal.decreases-loop-top
decreases-loop-top l = falling_work l.counts

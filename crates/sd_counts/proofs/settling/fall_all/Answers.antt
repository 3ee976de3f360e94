use Rattle.std.proofs.Common.{subst}
use Rattle.sd_counts.specs.Queued.{AreQueued}
use Rattle.sd_counts.proofs.settling.fall_all.Goals as goal

pub fall-next-requires-clause-queued : goal.fall-next-requires-clause-queued
fall-next-requires-clause-queued c =
    (c.requires.queued.0, c.loop-top.invariant.queued c.requires.queued.0 c.requires.queued.1)

pub fall-next-requires-clause-right : goal.fall-next-requires-clause-right
fall-next-requires-clause-right c =
    (c.requires.right.0, c.loop-top.invariant.right c.requires.right.0 c.requires.right.1)

pub loop-top-preserved : goal.loop-top-preserved
loop-top-preserved c =
    record {
      queued = λ rising q. c.fall-next.ensures.queued rising (c.loop-top.invariant.queued rising q);
      right = λ held of. c.fall-next.ensures.right held (c.loop-top.invariant.right held of);
    }

pub returns-clause-queued : goal.returns-clause-queued
returns-clause-queued c = λ rising q.
    subst (λ top. AreQueued c.loop-top.counts rising top) c.loop-top-test.false
    (c.loop-top.invariant.queued rising q)

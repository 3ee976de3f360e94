use Rattle.std.proofs.Common.{subst}
use Rattle.sd_counts.specs.Queued.{AreQueued}
use Rattle.sd_counts.proofs.settling.rise_all.Goals as goal

pub rise-next-requires-clause-queued : goal.rise-next-requires-clause-queued
rise-next-requires-clause-queued c =
    (c.requires.queued.0, c.loop-top.invariant.queued c.requires.queued.0 c.requires.queued.1)

pub rise-next-requires-clause-right : goal.rise-next-requires-clause-right
rise-next-requires-clause-right c =
    (c.requires.right.0, c.loop-top.invariant.right c.requires.right.0 c.requires.right.1)

pub loop-top-preserved : goal.loop-top-preserved
loop-top-preserved c =
    record {
      queued = λ falling q. c.rise-next.ensures.queued falling (c.loop-top.invariant.queued falling q);
      right = λ held of. c.rise-next.ensures.right held (c.loop-top.invariant.right held of);
    }

pub returns-clause-queued : goal.returns-clause-queued
returns-clause-queued c = λ falling q.
    subst (λ top. AreQueued c.loop-top.counts top falling) c.loop-top-test.false
    (c.loop-top.invariant.queued falling q)

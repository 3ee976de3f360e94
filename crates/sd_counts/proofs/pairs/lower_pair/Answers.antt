use Rattle.sd_counts.proofs.pairs.lower_pair.Goals as goal

pub lower-requires-clause-queued : goal.lower-requires-clause-queued
lower-requires-clause-queued c =
    (c.requires.queued.0, c.lower-first.ensures.queued c.requires.queued.0 c.requires.queued.1)

pub returns-clause-queued : goal.returns-clause-queued
returns-clause-queued c = λ rising q. c.lower.ensures.queued rising (c.lower-first.ensures.queued rising q)

use Rattle.sd_counts.proofs.pairs.raise_pair.Goals as goal

pub raise-requires-clause-queued : goal.raise-requires-clause-queued
raise-requires-clause-queued c =
    (c.requires.queued.0, c.raise-first.ensures.queued c.requires.queued.0 c.requires.queued.1)

pub returns-clause-queued : goal.returns-clause-queued
returns-clause-queued c = λ falling q. c.raise.ensures.queued falling (c.raise-first.ensures.queued falling q)

use Rattle.std.proofs.Common.{arith}
use Rattle.sd_counts.proofs.Along.{next_room, next_raised}
use Rattle.sd_counts.proofs.pairs.raise_all.Goals as goal

pub raise_pair-rising-requires-clause-room : goal.raise_pair-rising-requires-clause-room
raise_pair-rising-requires-clause-room c =
    next_room c.args.counts.now c.loop-pair.counts c.args.rising c.loop-pair.rising c.args.list.now
    c.loop-pair.pair-index (0, 0) c.loop-pair.invariant (omega arith) c.requires.room

pub raise_pair-rising-requires-clause-queued : goal.raise_pair-rising-requires-clause-queued
raise_pair-rising-requires-clause-queued c =
    (c.requires.queued.0, c.loop-pair.invariant.queued c.requires.queued.0 c.requires.queued.1)

pub loop-pair-preserved : goal.loop-pair-preserved
loop-pair-preserved c =
    next_raised c.args.counts.now c.loop-pair.counts c.args.rising c.loop-pair.rising c.args.list.now
    c.loop-pair.pair-index (0, 0) c.loop-pair.invariant (omega arith) c.raise_pair-rising.new.counts
    c.raise_pair-rising.result c.raise_pair-rising.ensures.queued c.raise_pair-rising.ensures.raised
    c.raise_pair-rising.auto.counts

use Rattle.std.proofs.Common.{arith}
use Rattle.sd_counts.proofs.Along.{next_used, next_lowered}
use Rattle.sd_counts.proofs.pairs.lower_all.Goals as goal

pub lower_pair-falling-requires-clause-used : goal.lower_pair-falling-requires-clause-used
lower_pair-falling-requires-clause-used c =
    next_used c.args.counts.now c.loop-pair.counts c.args.falling c.loop-pair.falling c.args.list.now
    c.loop-pair.pair-index (0, 0) c.loop-pair.invariant (omega arith) c.requires.used

pub lower_pair-falling-requires-clause-queued : goal.lower_pair-falling-requires-clause-queued
lower_pair-falling-requires-clause-queued c =
    (c.requires.queued.0, c.loop-pair.invariant.queued c.requires.queued.0 c.requires.queued.1)

pub loop-pair-preserved : goal.loop-pair-preserved
loop-pair-preserved c =
    next_lowered c.args.counts.now c.loop-pair.counts c.args.falling c.loop-pair.falling c.args.list.now
    c.loop-pair.pair-index (0, 0) c.loop-pair.invariant (omega arith) c.lower_pair-falling.new.counts
    c.lower_pair-falling.result c.lower_pair-falling.ensures.queued c.lower_pair-falling.ensures.lowered

use Rattle.std.proofs.Common.{◌+◌}
use Rattle.sd_manager.specs.Views.{pairs_at}
use Rattle.sd_move.proofs.Below.{tells_beside, tells_on}
use Rattle.sd_move.proofs.sorting.are_below.Goals as goal

pub returns-then-not-is_below-clause-tells : goal.returns-then-not-is_below-clause-tells
returns-then-not-is_below-clause-tells c =
    tells_beside c.args.m.now c.args.child c.args.side (pairs_at c.args.m.now (2050 + c.args.number)) c.loop-index.index
    c.element-pair.result c.node_on.result c.element-pair.ensures.pair c.node_on.ensures
    c.if-not-is_below.ensures.tells c.loop-index.invariant

pub loop-index-preserved : goal.loop-index-preserved
loop-index-preserved c =
    tells_on c.args.m.now c.args.child c.args.side (pairs_at c.args.m.now (2050 + c.args.number)) c.loop-index.index
    c.element-pair.result c.node_on.result c.element-pair.ensures.pair c.node_on.ensures
    c.if-not-is_below.ensures.tells c.loop-index.invariant

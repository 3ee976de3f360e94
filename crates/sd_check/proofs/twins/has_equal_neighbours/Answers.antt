use Rattle.sd_check.proofs.EqualCodes.{neighbours_more}
use Rattle.sd_check.proofs.twins.has_equal_neighbours.Goals as goal

-- one more
pub loop-i-preserved : goal.loop-i-preserved
loop-i-preserved c =
    neighbours_more c.args.codes.now c.loop-i.i c.loop-i.auto.i c.loop-i.invariant c.if-before-own.false

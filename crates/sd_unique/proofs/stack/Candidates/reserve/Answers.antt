use Rattle.std.proofs.Common.{arith}
use Rattle.sd_unique.proofs.Waiting.{depth_inside}
use Rattle.sd_unique.proofs.stack.Candidates.reserve.Goals as goal

pub overflow_sub-more : goal.overflow_sub-more
overflow_sub-more c =
    omega (
      arith,
      depth_inside c.self.inside.numbers.items c.self.inside.waits.items c.self.inside.numbers.cap c.self.invariant,
    )

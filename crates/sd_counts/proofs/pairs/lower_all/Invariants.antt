use Rattle.std.proofs.Common.{take}
use Rattle.sd_counts.proofs.Along.{HasLowered}
use Rattle.sd_counts.proofs.pairs.lower_all.Given as goal

abbrev pub invariant-loop-pair : goal.invariant-loop-pair
invariant-loop-pair l =
    HasLowered l.fn.counts l.counts l.fn.falling l.falling (take l.pair-index l.list)

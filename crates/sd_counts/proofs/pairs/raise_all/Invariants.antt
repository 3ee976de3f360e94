use Rattle.std.proofs.Common.{take}
use Rattle.sd_counts.proofs.Along.{HasRaised}
use Rattle.sd_counts.proofs.pairs.raise_all.Given as goal

abbrev pub invariant-loop-pair : goal.invariant-loop-pair
invariant-loop-pair l =
    HasRaised l.fn.counts l.counts l.fn.rising l.rising (take l.pair-index l.list)

use Rattle.std.proofs.Common.{◌-◌, ◌^◌}
use Rattle.sd_sweep.proofs.ChainUnder.{IsChaining}
use Rattle.sd_sweep.proofs.chain.chain_below.Given as goal

abbrev pub invariant-loop-here : goal.invariant-loop-here
invariant-loop-here l = IsChaining l.fn.m l.m l.fn.first l.here l.last l.nodes l.total

abbrev pub decreases-loop-here : goal.decreases-loop-here
decreases-loop-here l = 2 ^ 31 - l.total

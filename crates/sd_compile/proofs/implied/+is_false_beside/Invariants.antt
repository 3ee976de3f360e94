use Rattle.std.proofs.Common.{◌<◌}
use Rattle.sd_compile.proofs.Implying.{HaveFalse}
use Rattle.sd_compile.proofs.implied.+is_false_beside.Given as goal

-- each call reads one decomposition more
abbrev pub decreases-is_false_beside : goal.decreases-is_false_beside
decreases-is_false_beside l = l.steps.now

-- of each pair before the sub or the prime is false, and a step was taken
abbrev pub invariant-loop-index : goal.invariant-loop-index
invariant-loop-index l = HaveFalse l.m l.node l.index l.literals l.holds × (l.steps < l.fn.steps)

use Rattle.std.proofs.Common.{◌+◌, ◌*◌}
use Rattle.sd_manager.proofs.Evaluating.{HasPassed}
use Rattle.sd_manager.specs.Values.{AreValues}
use Rattle.sd_manager.proofs.values.+value.Given as goal

-- each call from one of the two to the other is less
abbrev pub decreases-value_at : goal.decreases-value_at
decreases-value_at l = 2 * l.levels + 1

abbrev pub decreases-value_of_sub : goal.decreases-value_of_sub
decreases-value_of_sub l = 2 * l.levels

-- the primes before are false, and the values that are kept are right
abbrev pub invariant-value_of_sub-loop-index : goal.invariant-value_of_sub-loop-index
invariant-value_of_sub-loop-index l =
    HasPassed l.m l.node l.index l.assignment × AreValues l.m l.assignment l.values.items

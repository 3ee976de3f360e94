use Rattle.std.proofs.Common.{◌+◌, ◌-◌, length}
use Rattle.sd_apply.proofs.Matching.{IsWalk}
use Rattle.sd_apply.proofs.matched.match_primes.Given as goal

abbrev pub invariant-loop-i : goal.invariant-loop-i
invariant-loop-i l =
    IsWalk l.first l.second l.ones.items l.others.items l.first_rest.items l.second_rest.items l.i l.j

abbrev pub decreases-loop-i : goal.decreases-loop-i
decreases-loop-i l = (length l.first + length l.second) - (l.i + l.j)

use Rattle.std.proofs.Common.{◌<◌, ◌+◌, ℕ, get_or}
use Rattle.sd_manager.proofs.pairs.primes_ascend.Given as goal

-- the primes so far ascend
abbrev pub invariant-loop-i : goal.invariant-loop-i
invariant-loop-i l =
    (k : ℕ) → k + 1 < l.i → (get_or l.list k (0, 0)).0 < (get_or l.list (k + 1) (0, 0)).0

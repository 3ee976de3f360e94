use Rattle.std.proofs.Common.{◌≢◌, ◌+◌, ◌<◌, ℕ, get_or}
use Rattle.sd_check.proofs.twins.has_equal_neighbours.Given as goal

-- none so far is the one behind it
abbrev pub invariant-loop-i : goal.invariant-loop-i
invariant-loop-i l = (k : ℕ) → k + 1 < l.i → get_or l.codes k 0 ≢ get_or l.codes (k + 1) 0

use Rattle.std.proofs.Common.{◌≡◌, ◌<◌, ℕ, get_or, length}
use Rattle.sd_apply.proofs.lists.are_same.Given as goal

-- the pairs so far are the same
abbrev pub invariant-loop-i : goal.invariant-loop-i
invariant-loop-i l =
    (length l.first ≡ length l.second)
    × ((k : ℕ) → k < l.i → (get_or l.first k (0, 0)).0 ≡ (get_or l.second k (0, 0)).0)
    × ((k : ℕ) → k < l.i → (get_or l.first k (0, 0)).1 ≡ (get_or l.second k (0, 0)).1)

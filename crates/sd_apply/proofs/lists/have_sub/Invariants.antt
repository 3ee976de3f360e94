use Rattle.std.proofs.Common.{◌≡◌, ◌<◌, ℕ, get_or}
use Rattle.sd_apply.proofs.lists.have_sub.Given as goal

-- the pairs so far have the sub
abbrev pub invariant-loop-i : goal.invariant-loop-i
invariant-loop-i l = (k : ℕ) → k < l.i → (get_or l.pairs k (0, 0)).1 ≡ l.fn.sub

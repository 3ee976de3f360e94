use Rattle.std.proofs.Common.{ℕ, List}
use Rattle.sd_sweep.proofs.Used.{entry_count}
use Rattle.sd_move.proofs.DetachedAll.{IsDetaching}
use Rattle.sd_move.proofs.going_back.clear.Given as goal

abbrev pub invariant-loop-number : goal.invariant-loop-number
invariant-loop-number l = (numbers : List ℕ) × IsDetaching l.fn.m l.m l.fn.place numbers

abbrev pub decreases-loop-number : goal.decreases-loop-number
decreases-loop-number l = entry_count l.m.linked

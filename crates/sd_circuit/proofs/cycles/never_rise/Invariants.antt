use Rattle.std.proofs.Common.{ℕ, ◌+◌, ◌<◌, length, get_or}
use Rattle.sd_circuit.specs.Order.{Uses}
use Rattle.sd_circuit.proofs.cycles.never_rise.Given as goal

abbrev pub invariant-loop-line : goal.invariant-loop-line
invariant-loop-line l = (k : ℕ) → k < l.line → (used : ℕ) → used < length l.ands → Uses l.ands k used
    → get_or l.ranks used 0 < get_or l.ranks k 0 + 1

use Rattle.std.proofs.Common.{◌≡◌, ◌+◌, ◌<◌, ◌≤◌, ℕ, length, get_or}
use Rattle.sd_circuit.specs.Order.{line_at, variable_of, defined_at}
use Rattle.sd_circuit.proofs.tests.define_once.Given as goal

abbrev pub invariant-loop-index : goal.invariant-loop-index
invariant-loop-index l = (length l.table.items ≡ l.variables + 1)
    × ((k : ℕ) → k < l.index → defined_at l.ands k ≤ l.variables)
    × ((k : ℕ) → k < l.index → variable_of (line_at l.ands k).first ≤ l.variables)
    × ((k : ℕ) → k < l.index → variable_of (line_at l.ands k).second ≤ l.variables)

abbrev pub invariant-loop-index-2 : goal.invariant-loop-index-2
invariant-loop-index-2 l = (k : ℕ) → k < l.index → get_or l.table.items (defined_at l.ands k) 0 ≡ k

use Rattle.std.proofs.Common.{◌≡◌, ◌<◌, ℕ, false}
use Rattle.sd_circuit.specs.Order.{leads_within}
use Rattle.sd_circuit.proofs.cycles.first_one_by_one.Given as goal

abbrev pub invariant-loop-index : goal.invariant-loop-index
invariant-loop-index l = (k : ℕ) → k < l.index → (n : ℕ) → leads_within l.ands n k k ≡ false

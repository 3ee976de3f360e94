-- What is written so far, and what is kept.
use Rattle.std.proofs.Common.{◌≡◌, ◌≢◌, ℕ, ◌+◌, ◌<◌, length, get_or}
use Rattle.sd_circuit.specs.Order.{defined_at}
use Rattle.sd_circuit.proofs.origins.with_gates.Given as goal

abbrev pub invariant-loop-k : goal.invariant-loop-k
invariant-loop-k l = record {
  each : (j : ℕ) → j < l.k
      → get_or l.origins.items (defined_at l.ands (get_or l.order j 0)) 0 ≡ l.inputs + j + 1;
  kept : (x : ℕ) → ((j : ℕ) → j < l.k → defined_at l.ands (get_or l.order j 0) ≢ x)
      → get_or l.origins.items x 0 ≡ get_or l.initial.origins.items x 0;
  size : length l.origins.items ≡ length l.initial.origins.items;
}

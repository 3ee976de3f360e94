-- What is written so far.
use Rattle.std.proofs.Common.{◌≡◌, ℕ, ◌+◌, ◌<◌, length, get_or}
use Rattle.sd_circuit.specs.Order.{variable_of}
use Rattle.sd_circuit.proofs.origins.with_inputs.Given as goal

abbrev pub invariant-loop-i : goal.invariant-loop-i
invariant-loop-i l = record {
  each : (j : ℕ) → j < l.i → get_or l.origins.items (variable_of (get_or l.inputs j 0)) 0 ≡ j + 1;
  size : length l.origins.items ≡ length l.initial.origins.items;
}

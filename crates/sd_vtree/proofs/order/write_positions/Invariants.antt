use Rattle.std.proofs.Common.{◌≡◌, ◌≢◌, ℕ, ◌<◌, ◌≤◌, slice_index}
use Rattle.sd_vtree.proofs.order.write_positions.Given as goal

abbrev pub invariant-loop-position : goal.invariant-loop-position
invariant-loop-position l = record {
  inside : (p : ℕ) → l.from ≤ p → p < l.position → slice_index l.positions (slice_index l.order p) ≡ p;
  outside : (n : ℕ) → ((p : ℕ) → l.from ≤ p → p < l.position → slice_index l.order p ≢ n) →
      slice_index l.positions n ≡ slice_index l.initial.positions n;
}

use Rattle.std.proofs.Common.{◌≡◌, ℕ, ◌-◌, ◌<◌, length, Some, slice_get, slice_index}
use Rattle.sd_vtree.specs.declared.shape.Shape.TheVariants.{Leaf}
use Rattle.sd_vtree.proofs.build.leaves_of.Given as goal

abbrev pub invariant-loop-number : goal.invariant-loop-number
invariant-loop-number l = record {
  count : length l.leaves.items ≡ l.variables;
  found : (k x : ℕ) → k < l.number → slice_get l.nodes k ≡ Some (Leaf x) →
      slice_get l.nodes (slice_index l.leaves.items (x - 1)) ≡ Some (Leaf x);
}

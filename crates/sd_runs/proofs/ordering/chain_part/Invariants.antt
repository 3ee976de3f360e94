use Rattle.std.proofs.Common.{◌≡◌, ◌≤◌, ◌<◌, ◌⊎◌, ℕ, List, length}
use Rattle.sd_runs.specs.Ordered.{IsRechainedTo}
use Rattle.sd_runs.proofs.ordering.chain_part.Given as goal

abbrev pub invariant-loop-start : goal.invariant-loop-start
invariant-loop-start l = record {
  least : l.below ≤ l.start;
  inside : l.start ≤ l.above;
  size : length l.elements ≡ length l.fn.elements;
  chained : (first : List (ℕ × ℕ)) → IsRechainedTo l.marks (λ s. s < l.below) first l.fn.elements l.fn.head
      → IsRechainedTo l.marks (λ s. (s < l.below) ⊎ ((l.start ≤ s) × (s < l.above))) first l.elements l.head;
}

abbrev pub decreases-loop-start : goal.decreases-loop-start
decreases-loop-start l = l.start

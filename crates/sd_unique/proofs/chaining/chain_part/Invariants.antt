use Rattle.std.proofs.Common.{◌≡◌, ◌⊎◌, ◌<◌, ◌≤◌, ◌-◌, length}
use Rattle.sd_unique.specs.Chains.{KeepsRecords}
use Rattle.sd_unique.specs.Rechaining.{IsRechained}
use Rattle.sd_unique.proofs.chaining.chain_part.Given as goal

abbrev pub invariant-loop-number : goal.invariant-loop-number
invariant-loop-number l = record {
  kept : KeepsRecords l.fn.records l.records;
  size : length l.heads ≡ length l.fn.heads;
  chained : IsRechained l.runs (length l.heads - 1)
      (λ n. (n < l.below) ⊎ ((l.number ≤ n) × (n < l.above))) l.records l.heads;
}

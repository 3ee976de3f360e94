-- Those that are left were added still, and nothing but the roots changed.
use Rattle.std.proofs.Common.{◌≡◌, length}
use Rattle.std.specs.Ordering.{nat_cmp}
use Rattle.std.specs.FinMap.{FinMap}
use Rattle.std.proofs.Common.{ℕ}
use Rattle.sd_manager.specs.Valid.{IsTable}
use Rattle.sd_gates.specs.Holding.{AddsRoots}
use Rattle.sd_gates.proofs.sweeping.release_all.Given as goal

abbrev pub invariant-releasing : goal.invariant-releasing
invariant-releasing l = record {
  rest : l.m ≡ record l.initial.m { roots = l.m.roots };
  added : (before : FinMap nat_cmp ℕ) → AddsRoots before l.initial.m.roots l.initial.held.items
      → AddsRoots before l.m.roots l.held.items;
  table : IsTable l.m;
}

abbrev pub decreases-releasing : goal.decreases-releasing
decreases-releasing l = length l.held.items

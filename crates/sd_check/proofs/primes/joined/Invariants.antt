use Rattle.std.proofs.Common.{◌-◌, ◌<◌, ℕ, Bool, List, drop, length}
use Rattle.sd_manager.specs.Valid.{IsTable}
use Rattle.sd_manager.specs.Making.{Extends}
use Rattle.sd_apply.specs.Serving.{Serves}
use Rattle.sd_check.specs.Unions.{AreNodes, CountsTo}
use Rattle.sd_check.proofs.primes.joined.Given as goal

-- the nodes from the next one on count as all did
abbrev pub invariant-loop-next : goal.invariant-loop-next
invariant-loop-next l = record {
  count : (n : List Bool → ℕ) → CountsTo l.fn.m n l.fn.unions.items → CountsTo l.m n (drop l.next l.unions.items);
  below : l.next < length l.unions.items;
  nodes : AreNodes l.m l.unions.items;
  kept : Extends l.fn.m l.m;
  serves : Serves l.c l.m;
  table : IsTable l.m;
}

-- one less is left
abbrev pub decreases-loop-next : goal.decreases-loop-next
decreases-loop-next l = length l.unions.items - l.next

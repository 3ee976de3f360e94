-- The calls on the way to a node's new list, one after another.
use Rattle.std.proofs.Common.{ℕ}
use Rattle.sd_manager.specs.Table.{Table}
use Rattle.sd_manager.specs.Making.{Extends}
use Rattle.sd_manager.specs.Valid.{IsTable}
use Rattle.sd_manager.proofs.Extending.{extends_self, extends_on}
use Rattle.sd_apply.specs.Growing.{GrowsBelow, GrowsStrictlyBelow}
use Rattle.sd_apply.specs.Recent.{Knows}
use Rattle.sd_apply.specs.declared.recent.Recent.{Recent}
use Rattle.sd_apply.proofs.Growing.{strictly_both, strictly_none}
use Rattle.sd_move.specs.Branches.{IsCorner}
use Rattle.sd_move.specs.Calls.{IsStep}
use Rattle.sd_move.specs.declared.branches.Corner.{Corner}
use Rattle.sd_move.proofs.Branching.{corner_on, group_grows, lower_grows}

-- a call from what its clauses say
pub as_step : {old new : Table} {p : ℕ} {r : Recent} → Extends old new → GrowsStrictlyBelow old new p → Knows r new →
    IsTable new → IsStep old new p r
as_step kept grown knows table = record { kept = kept; grown = grown; knows = knows; table = table }

-- where nothing is called
pub no_step : {t : Table} {p : ℕ} {r : Recent} → IsTable t → Knows r t → IsStep t t p r
no_step {t} {p} table knows =
    record { kept = extends_self t; grown = strictly_none t p; knows = knows; table = table }

-- a call after another one
pub step_on : {m0 m1 m2 : Table} {p : ℕ} {r r1 : Recent} → IsStep m0 m1 p r → IsStep m1 m2 p r1 → IsStep m0 m2 p r1
step_on {m0} {m1} {m2} {p} f g = record {
  kept = extends_on m0 m1 m2 f.kept g.kept;
  grown = strictly_both m0 m1 m2 p g.kept f.grown g.grown;
  knows = g.knows;
  table = g.table;
}

-- a call at the lower vtree node is one at the upper
pub lower_step : {old new : Table} {r : Recent} (c : Corner) → IsCorner old.vtree c → IsStep old new c.lower r →
    IsStep old new c.upper r
lower_step {old} {new} c corner f = record {
  kept = f.kept;
  grown = group_grows old new f.table c (corner_on old new f.kept c corner) f.grown;
  knows = f.knows;
  table = f.table;
}

-- and one that makes nodes at the lower vtree node or below it, after it
pub lower_next : {m0 m1 m2 : Table} {r r1 : Recent} (c : Corner) → IsCorner m0.vtree c → IsStep m0 m1 c.lower r →
    Extends m1 m2 → GrowsBelow m1 m2 c.lower → Knows r1 m2 → IsTable m2 → IsStep m0 m2 c.upper r1
lower_next {m0} {m1} {m2} c corner f kept grown knows table =
    step_on (lower_step c corner f)
    (as_step kept (lower_grows m1 m2 kept c (corner_on m0 m1 f.kept c corner) grown) knows table)

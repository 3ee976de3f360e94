-- What the calls on the way to a node's new list keep, for the contracts of private functions.
use Rattle.std.specs.Prelude.{ℕ}
use Rattle.sd_manager.specs.Table.{Table}
use Rattle.sd_manager.specs.Making.{Extends}
use Rattle.sd_manager.specs.Valid.{IsTable}
use Rattle.sd_apply.specs.Growing.{GrowsStrictlyBelow}
use Rattle.sd_apply.specs.Recent.{Knows}
use Rattle.sd_apply.specs.declared.recent.Recent.{Recent}

-- What each call leaves, also where it refuses: the nodes that were there stay as they were, each new one stands
-- strictly below the vtree node, the answers that are kept are right for the table, and that is valid.
pub record IsStep (old new : Table) (place : ℕ) (recent : Recent) : Type 0 where
  pub kept : Extends old new
  pub grown : GrowsStrictlyBelow old new place
  pub knows : Knows recent new
  pub table : IsTable new

-- What each call inside an operation leaves, for the contracts of private functions.
use Rattle.std.specs.Prelude.{ℕ}
use Rattle.sd_manager.specs.Table.{Table}
use Rattle.sd_manager.specs.Making.{Extends}
use Rattle.sd_manager.specs.Valid.{IsTable}
use Rattle.sd_apply.specs.declared.recent.Recent.{Recent}
use Rattle.sd_apply.specs.Recent.{Knows}
use Rattle.sd_apply.specs.Growing.{GrowsBelow, GrowsBelowEither}

-- What each call leaves, also where it refuses: the nodes that were there stay as they were, each new one stands at the
-- vtree node or below it, what was answered so far is right for the table, and that is valid.
pub record IsStepAt (old new : Table) (c : Recent) (at : ℕ) : Type 0 where
  pub kept : Extends old new
  pub grown : GrowsBelow old new at
  pub knows : Knows c new
  pub table : IsTable new

-- the same, where each new node stands at one of two vtree nodes or below it
pub record IsStep (old new : Table) (c : Recent) (u w : ℕ) : Type 0 where
  pub kept : Extends old new
  pub grown : GrowsBelowEither old new u w
  pub knows : Knows c new
  pub table : IsTable new

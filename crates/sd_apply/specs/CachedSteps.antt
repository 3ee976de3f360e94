-- What an operation that asks the cache leaves, for the contracts of private functions.
use Rattle.std.specs.Prelude.{ℕ}
use Rattle.sd_cache.specs.Entries.{Answers}
use Rattle.sd_manager.specs.Table.{Table}
use Rattle.sd_manager.specs.Making.{Extends}
use Rattle.sd_manager.specs.Valid.{IsTable}
use Rattle.sd_apply.specs.Growing.{GrowsBelowBoth}
use Rattle.sd_apply.specs.Serving.{Serves}

-- What an operation leaves, also where it refuses: the nodes that were there stay as they were, each new one stands
-- below every vtree node below which both operands stand, the cache serves the table, and that is valid.
pub record IsCachedStep (old new : Table) (c : Answers) (a b : ℕ) : Type 0 where
  pub kept : Extends old new
  pub grown : GrowsBelowBoth old new a b
  pub serves : Serves c new
  pub table : IsTable new

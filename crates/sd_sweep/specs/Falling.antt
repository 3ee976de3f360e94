-- What never falls from one table to a later one.
use Rattle.std.specs.Prelude.{◌≤◌}
use Rattle.sd_manager.specs.Table.{Table}

-- the extent, the number of records and the epoch did not fall
pub record NeverFalls (old new : Table) : Type 0 where
  pub extent : old.extent ≤ new.extent
  pub records : old.records ≤ new.records
  pub epoch : old.epoch ≤ new.epoch

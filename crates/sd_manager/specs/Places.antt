-- Which linked nodes stand at a place.
use Rattle.std.specs.Prelude.{◌≡◌, ℕ, List, Some}
use Rattle.std.specs.FinMap.{get}
use Rattle.sd_manager.specs.Table.{Table}

-- a node of this number is linked at the place
pub record IsLinkedAt (t : Table) (place n : ℕ) : Type 0 where
  pub list : List (ℕ × ℕ)
  pub is : get t.linked n ≡ Some (place, list)

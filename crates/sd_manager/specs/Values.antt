-- The values that were found for nodes.
use Rattle.std.specs.Prelude.{◌≡◌, ℕ, Bool, List, Option, Some, None, slice_index_or}
use Rattle.sd_model.specs.Diagram.{Diagram, meaning}
use Rattle.sd_manager.specs.Table.{Table}
use Rattle.sd_manager.specs.Shown.{ShowsCanonical}

-- each value that is kept at a code is that of the diagram which the code shows
pub record AreValues (t : Table) (assignment : List Bool) (values : List (Option Bool)) : Type 0 where
  pub each : (c : ℕ) (b : Bool) → slice_index_or values c None ≡ Some b → (d : Diagram) → ShowsCanonical t c d →
      b ≡ meaning d assignment

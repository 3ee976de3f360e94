-- A part that is compiled alone, for the contracts of private functions: what is left of its manager, and the number of
-- the group that it refuses.
use Rattle.std.specs.Prelude.{◌≡◌, ℕ, ◌+◌, ◌<◌, ◌^◌, None}
use Rattle.std.specs.FinMap.{empty}
use Rattle.sd_vtree.specs.Numbered.{plain_tree}
use Rattle.sd_manager.specs.Table.{Table}
use Rattle.sd_compile.specs.declared.error.CompileError.{CompileError}
use Rattle.sd_compile.specs.declared.error.CompileError.TheVariants.{OverLimit, ArenaFull, OutOfMemory}

-- a manager over the same tree, with the same bound, that holds nothing
pub record IsEmptied (old new : Table) : Type 0 where
  pub tree : plain_tree new.vtree ≡ plain_tree old.vtree
  pub bound : new.bound ≡ old.bound
  pub roots : new.roots ≡ empty
  pub moving : new.moving ≡ None

-- the number of the group fits behind so many groups
abbrev pub FitsBehind : ℕ → CompileError → Type 0
FitsBehind first (OverLimit group size most) = first + group < 2 ^ 32
FitsBehind first e = Unit {0}

-- a refusal with the group counted behind so many groups
abbrev pub in_whole : ℕ → CompileError → CompileError
in_whole first (OverLimit group size most) = OverLimit (first + group) size most
in_whole first (ArenaFull elements) = ArenaFull elements
in_whole first OutOfMemory = OutOfMemory

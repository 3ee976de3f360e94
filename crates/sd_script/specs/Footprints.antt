-- Commands over numbered names and files, and the names that earlier commands leave bound.
use Rattle.std.specs.Prelude.{ℕ, Bool, true, false, not, ◌==◌, List, [], ◌∷◌, ◌++◌, filter, fold, unsigned_abs}
use Rattle.std.specs.List.{list_any}
use Rattle.sd_script.specs.declared.command.Action.{Action}
use Rattle.sd_script.specs.declared.command.Action.TheVariants.{Input, Load, Output, Lit, Constant, Binary}
use Rattle.sd_script.specs.declared.command.Action.TheVariants.{Not, Given, Forget}
use Rattle.sd_script.specs.declared.command.Action.TheVariants.{Drop, Same}
use Rattle.sd_script.specs.declared.command.Action.TheVariants.{Size, Value, Write, Vtree}
use Rattle.sd_script.specs.declared.command.Command.{Command}

-- ---- what a command uses, binds, frees and writes, and its variable

-- the footprint of a command: the names that must be bound, the name that must be free and is bound then, the name that
-- is free then, the file that is written, the variable that is named (by a literal, or to be forgotten), and whether a
-- file is read
pub record Footprint : Type 0 where
  pub uses : List ℕ
  pub binds : List ℕ
  pub frees : List ℕ
  pub writes : List ℕ
  pub variables : List ℕ
  pub loads : Bool

-- no name, no file and no variable
abbrev pub none : Footprint
none = record { uses = []; binds = []; frees = []; writes = []; variables = []; loads = false }

-- The table of the footprints.
abbrev pub footprint : Action → Footprint
footprint (Input n) = record none { binds = n ∷ [] }
footprint (Load n file) = record none { binds = n ∷ []; loads = true }
footprint (Output n index) = record none { binds = n ∷ [] }
footprint (Lit n literal) = record none { binds = n ∷ []; variables = unsigned_abs literal ∷ [] }
footprint (Constant n value) = record none { binds = n ∷ [] }
footprint (Binary operation n a b) = record none { uses = a ∷ b ∷ []; binds = n ∷ [] }
footprint (Not n a) = record none { uses = a ∷ []; binds = n ∷ [] }
footprint (Given n a literal) =
    record none { uses = a ∷ []; binds = n ∷ []; variables = unsigned_abs literal ∷ [] }
footprint (Forget n a x) = record none { uses = a ∷ []; binds = n ∷ []; variables = x ∷ [] }
footprint (Drop a) = record none { uses = a ∷ []; frees = a ∷ [] }
footprint (Same a b) = record none { uses = a ∷ b ∷ [] }
footprint (Size a) = record none { uses = a ∷ [] }
footprint (Value a bits) = record none { uses = a ∷ [] }
footprint (Write names file) = record none { uses = names; writes = file ∷ [] }
footprint (Vtree file) = record none { writes = file ∷ [] }
footprint action = none

-- ---- what earlier commands leave

-- a number is in a list
abbrev pub has : List ℕ → ℕ → Bool
has numbers n = list_any (λ m. m == n) numbers

-- the names that commands leave bound: those before a command without the one that it frees, and the one that it binds
abbrev pub bound : List Command → List ℕ
bound earlier = fold (λ names c. (footprint c.action).binds
    ++ filter (λ n. not (has (footprint c.action).frees n)) names) [] earlier

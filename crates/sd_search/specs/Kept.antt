-- What a search keeps: the held roots with their functions, and all that does not belong to the vtree and the nodes.
use Rattle.std.specs.Prelude.{◌≡◌, ℕ, Bool, List, Some, None}
use Rattle.std.specs.FinMap.{get}
use Rattle.sd_model.specs.Tree.{leaves}
use Rattle.sd_model.specs.Diagram.{Diagram, meaning}
use Rattle.sd_vtree.specs.Numbered.{plain_tree}
use Rattle.sd_manager.specs.Table.{Table}
use Rattle.sd_manager.specs.Shown.{ShowsCanonical}
use Rattle.sd_manager.specs.Making.{IsPastBound}
use Rattle.sd_search.specs.declared.error.SearchError.{SearchError}
use Rattle.sd_search.specs.declared.error.SearchError.TheVariants.{ArenaFull, OutOfMemory}

-- a code shows one function in both tables, each time by a canonical diagram
pub record StaysShown (old new : Table) (c : ℕ) : Type 0 where
  pub before : Diagram
  pub after : Diagram
  pub shown : ShowsCanonical old c before
  pub shown_now : ShowsCanonical new c after
  pub same : (a : List Bool) → meaning after a ≡ meaning before a

-- Each held root keeps its node and its function; the variables, the loose runs and the bound are as before; no move is
-- going on.
pub record KeepsRoots (old new : Table) : Type 0 where
  pub variables : leaves (plain_tree new.vtree) ≡ leaves (plain_tree old.vtree)
  pub roots : new.roots ≡ old.roots
  pub functions : (root c : ℕ) → get old.roots root ≡ Some c → StaysShown old new c
  pub loose : new.loose ≡ old.loose
  pub bound : new.bound ≡ old.bound
  pub no_move : new.moving ≡ None

-- the arena's rule: a full arena is answered only so, or memory ran out
abbrev pub IsSearchRefusal : Table → SearchError → Type 0
IsSearchRefusal t (ArenaFull elements) = IsPastBound t elements
IsSearchRefusal t OutOfMemory = Unit {0}

-- What a move leaves, and when it is refused.
use Rattle.std.specs.Prelude.{◌≡◌, ◌≢◌, ℕ, ◌+◌, ◌≤◌, ◌<◌, Bool, List, Some, None}
use Rattle.std.specs.List.{AllZip}
use Rattle.std.specs.FinMap.{get}
use Rattle.sd_model.specs.declared.trees.Move.{Move}
use Rattle.sd_model.specs.Moves.{inverse_move}
use Rattle.sd_model.specs.Size.{size_of}
use Rattle.sd_model.specs.Diagram.{Diagram, meaning}
use Rattle.sd_model.specs.Canonical.{IsCanonical}
use Rattle.sd_vtree.specs.Numbered.{Numbered, plain_tree}
use Rattle.sd_vtree.specs.NumberedMoves.{moved_number}
use Rattle.sd_manager.specs.Table.{Table}
use Rattle.sd_manager.specs.Shown.{ShowsCanonical}
use Rattle.sd_manager.specs.Making.{IsPastBound}
use Rattle.sd_manager.specs.Moving.{IsLater}
use Rattle.sd_laws.specs.Turned.{lower_of}
use Rattle.sd_sweep.specs.Reached.{IsReached, AreHeldDiagrams}
use Rattle.sd_move.specs.declared.error.MoveError.{MoveError}
use Rattle.sd_move.specs.declared.error.MoveError.TheVariants.{NotMovable, OverMost, ArenaFull, OutOfMemory}
use Rattle.sd_move.specs.Journal.{Journal, CanUndo, back, starts_of, without_runs}

-- the second diagram is canonical for the vtree and has the value of the first one
pub record HasMoved (tree : Numbered) (d e : Diagram) : Type 0 where
  pub canonical : IsCanonical (plain_tree tree) 0 e
  pub same : (a : List Bool) → meaning e a ≡ meaning d a

-- n is the size that all held diagrams have together once the vtree is moved; it does not depend on how that is done
pub record HasSizeAfter (t : Table) (kind : Move) (place n : ℕ) : Type 0 where
  pub tree : Numbered
  pub turned : moved_number kind t.vtree place ≡ Some tree
  pub before : List Diagram
  pub held : AreHeldDiagrams t before
  pub after : List Diagram
  pub each : AllZip (HasMoved tree) before after
  pub size : size_of after ≡ n

-- the move is defined at the place
abbrev pub IsMovable : Table → Move → ℕ → Type 0
IsMovable t kind place = (tree : Numbered) × (moved_number kind t.vtree place ≡ Some tree)

-- a node shows one function in both tables
pub record StaysFunction (old new : Table) (n : ℕ) : Type 0 where
  pub before : Diagram
  pub after : Diagram
  pub shown : ShowsCanonical old (2050 + n) before
  pub moved : ShowsCanonical new (2050 + n) after
  pub same : (a : List Bool) → meaning after a ≡ meaning before a

-- The vtree was moved at the place. Each node under a held root or a loose run keeps its number and its function, and
-- its key too where it stood at neither of the two nodes; the journal has the runs that are loose beside those from
-- before, and leads back; the epoch is a later one.
pub record IsMoved (old new : Table) (kind : Move) (place : ℕ) (j : Journal) : Type 0 where
  pub vtree : moved_number kind old.vtree place ≡ Some new.vtree
  pub function : (n : ℕ) (k : ℕ × List (ℕ × ℕ)) → get old.linked n ≡ Some k → IsReached old n → StaysFunction old new n
  pub outside : (n : ℕ) (k : ℕ × List (ℕ × ℕ)) → get old.linked n ≡ Some k → IsReached old n → k.0 ≢ place →
      Some k.0 ≢ lower_of kind old.vtree place → get new.linked n ≡ Some k
  pub roots : new.roots ≡ old.roots
  pub loose : without_runs new.loose (starts_of j.named) ≡ old.loose
  pub bound : new.bound ≡ old.bound
  pub extent : old.extent ≤ new.extent
  pub records : old.records ≤ new.records
  pub later : IsLater old new
  pub no_move : new.moving ≡ None
  pub made : j.kind ≡ kind
  pub upper : j.upper ≡ place
  pub lower : j.lower ≡ lower_of kind old.vtree place
  pub can_undo : CanUndo j new
  pub before : (n : ℕ) (k : ℕ × List (ℕ × ℕ)) → get old.linked n ≡ Some k → IsReached old n → back j new n ≡ Some k
  -- the inverse move gives the vtree from before
  pub turns_back : moved_number (inverse_move j.kind) new.vtree j.upper ≡ Some old.vtree

-- Why a move was refused: the vtree cannot be moved so at the place; the size of all held diagrams after the whole move
-- passes the limit; or, where it can be moved, the arena was full by its rule, or memory ran out.
abbrev pub IsMoveRefusal : Table → Table → Move → ℕ → ℕ → MoveError → Type 0
IsMoveRefusal old new kind place most NotMovable = moved_number kind old.vtree place ≡ None
IsMoveRefusal old new kind place most (OverMost size limit) =
    (limit ≡ most) × (most < size) × HasSizeAfter old kind place size
IsMoveRefusal old new kind place most (ArenaFull elements) = IsMovable old kind place × IsPastBound new elements
IsMoveRefusal old new kind place most OutOfMemory = IsMovable old kind place

-- ---- for the contracts of private functions

-- A move that can be made was refused on its way: the arena was full by its rule, or memory ran out.
abbrev pub IsRefusedOnTheWay : Table → MoveError → Type 0
IsRefusedOnTheWay new NotMovable = ⊥
IsRefusedOnTheWay new (OverMost size limit) = ⊥
IsRefusedOnTheWay new (ArenaFull elements) = IsPastBound new elements
IsRefusedOnTheWay new OutOfMemory = Unit {0}

-- The steps of a walk over a table, for the contracts of private functions.
use Rattle.std.specs.Prelude.{nat_lt, if◌then◌else◌}
use Rattle.std.specs.Prelude.{◌≡◌, ℕ, ◌^◌, ◌<◌, ◌≤◌, List, ◌∷◌, ◌++◌, map, Option, Some, None}
use Rattle.std.specs.List.{AllByRecursion}
use Rattle.sd_model.specs.declared.trees.Side.{Side}
use Rattle.sd_model.specs.declared.trees.Side.TheVariants.{Left, Right}
use Rattle.sd_model.specs.Expression.{Expression}
use Rattle.sd_model.specs.Size.{HasSize}
use Rattle.sd_model.specs.Moves.{moved}
use Rattle.sd_model.specs.Tree.{Tree, leaves}
use Rattle.sd_vtree.specs.Numbered.{Numbered, plain_tree}
use Rattle.sd_manager.specs.Table.{Table}
use Rattle.sd_manager.specs.Making.{IsPastBound}
use Rattle.sd_sweep.specs.Reached.{KeepsReached}
use Rattle.sd_move.specs.Journal.{Journal}
use Rattle.sd_move.specs.Moves.{IsMoved}
use Rattle.sd_move.specs.declared.error.MoveError.{MoveError}
use Rattle.sd_move.specs.declared.error.MoveError.TheVariants.{NotMovable, OverMost, ArenaFull, OutOfMemory}
use Rattle.sd_compile.specs.Total.{AreHeldFormulas}
use Rattle.sd_search.specs.Search.{WalkMove, swap, rotate, swap_child, walk_moves, subtree_at, State}
use Rattle.sd_search.specs.Search.{LeadThrough, LeadWithin}
use Rattle.sd_search.specs.Paths.{IsAtPath, KeepsAlong}
use Rattle.sd_search.specs.declared.error.SearchError.{SearchError}
use Rattle.sd_search.specs.declared.error.SearchError.TheVariants as stops
use Rattle.sd_search.specs.declared.steps.Step.{Step}
use Rattle.sd_search.specs.declared.steps.Step.TheVariants.{Swap, Rotate, SwapChild}

-- the move for which a step stands
abbrev pub move_of : Step → WalkMove
move_of Swap = swap
move_of Rotate = rotate
move_of (SwapChild side) = swap_child side

-- the step was made at the node, or at its child, and its journal leads back
pub record HasStepped (old new : Table) (step : WalkMove) (place : ℕ) (j : Journal) : Type 0 where
  pub at : ℕ
  pub is : IsMoved old new step.kind at j
  pub variables : leaves (plain_tree new.vtree) ≡ leaves (plain_tree old.vtree)
  pub led : (path : List Side) → IsAtPath old.vtree path place →
      moved step.kind (plain_tree old.vtree) (path ++ step.below) ≡ Some (plain_tree new.vtree)
  pub along : (path : List Side) → IsAtPath old.vtree path place → KeepsAlong old.vtree new.vtree path

-- the child on a side, of two
abbrev pub child_on : Side → ℕ × ℕ → ℕ
child_on Left children = children.0
child_on Right children = children.1

-- the size of the formulas after the step passes a limit
pub record PassesMost (old : Table) (step : WalkMove) (place size most : ℕ) : Type 0 where
  pub passes : most < size
  pub tree : Tree
  pub led : (path : List Side) → IsAtPath old.vtree path place →
      moved step.kind (plain_tree old.vtree) (path ++ step.below) ≡ Some tree
  pub sized : (fs : List Expression) → AreHeldFormulas old fs → HasSize fs tree size

-- why a step was not made
abbrev pub IsStepRefusal : Table → Table → WalkMove → ℕ → ℕ → MoveError → Type 0
IsStepRefusal old new step place most NotMovable =
    (path : List Side) → IsAtPath old.vtree path place →
    moved step.kind (plain_tree old.vtree) (path ++ step.below) ≡ None
IsStepRefusal old new step place most (OverMost size limit) = PassesMost old step place size most
IsStepRefusal old new step place most (ArenaFull elements) = IsPastBound new elements
IsStepRefusal old new step place most OutOfMemory = Unit {0}

-- the moves can be made one after the other at the node with a number
pub record CanGoOn (t : Numbered) (place : ℕ) (moves : List WalkMove) : Type 0 where
  pub path : List Side
  pub here : IsAtPath t path place
  pub trees : List Tree
  pub through : LeadThrough (plain_tree t) path moves trees

-- n is the size of the formulas that the roots hold, whatever formulas stand for their functions
abbrev pub IsSizeOfHeld : Table → ℕ → Type 0
IsSizeOfHeld t n = (fs : List Expression) → AreHeldFormulas t fs → HasSize fs (plain_tree t.vtree) n

-- the first one of least size, with those before and behind it
pub record IsFirstLeast (states : List State) (least : State) : Type 0 where
  pub before : List State
  pub behind : List State
  pub parts : states ≡ before ++ least ∷ behind
  pub larger : AllByRecursion (λ s. least.size < s.size) before
  pub not_smaller : AllByRecursion (λ s. least.size ≤ s.size) behind

-- Of these states the first of least size is this one, where it is less than the least size so far; none is less where
-- none is named.
abbrev pub Finds : List State → ℕ → Option ℕ → Tree → Type 0
Finds states least None u = AllByRecursion (λ s. least ≤ s.size) states
Finds states least (Some size) u = IsFirstLeast states (record { tree = u; size = size }) × (size < least)

-- the moves lead through states within a bound, of which this is found
pub record IsAhead (fs : List Expression) (bound : ℕ) (t : Tree) (path : List Side) (moves : List WalkMove) (least : ℕ)
    (found : Option ℕ) (u : Tree) : Type 0 where
  pub states : List State
  pub through : LeadWithin fs bound t path moves states
  pub finds : Finds states least found u

-- the error with which a walk is broken off where a step is refused; at the bound it only ends
abbrev pub stop_of_move : MoveError → Option SearchError
stop_of_move NotMovable = None
stop_of_move (OverMost size limit) = None
stop_of_move (ArenaFull elements) = Some (stops.ArenaFull elements)
stop_of_move OutOfMemory = Some stops.OutOfMemory

-- a size that is told is a number of 32 bits
abbrev pub HasSmallSize : MoveError → Type 0
HasSmallSize (OverMost size limit) = size < 2 ^ 32
HasSmallSize _ = Unit {0}

-- the least size from a state on, by that of the later ones
abbrev pub best_of : Option ℕ → ℕ → ℕ → Option ℕ
best_of (Some size) here least = Some size
best_of None here least = if nat_lt here least then Some here else None

-- the bound of a walk as a number of 32 bits: a size is never more than the last one
abbrev pub IsCapped : ℕ → ℕ → Type 0
IsCapped most bound = (most ≤ bound) × ((n : ℕ) → n < 2 ^ 32 → most < n → bound < n)

-- these are the steps of a walk at the node
abbrev pub AreStepsAt : Numbered → ℕ → List Step → Type 0
AreStepsAt t place steps =
    (path : List Side) → IsAtPath t path place →
    (here : Tree) × (subtree_at (plain_tree t) path ≡ Some here) × (map move_of steps ≡ walk_moves here)

-- where nothing is found all is gone back
abbrev pub GoesBackAtNone : Option ℕ → Table → Table → Type 0
GoesBackAtNone None old new = KeepsReached old new
GoesBackAtNone (Some size) old new = Unit {0}

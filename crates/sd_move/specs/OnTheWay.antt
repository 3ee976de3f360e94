-- What a move asks at its begin, and what its end and its way back ask once the vtree is turned, for the contracts of
-- private functions.
use Rattle.std.specs.Prelude.{◌≡◌, ◌⊎◌, ℕ, ◌≤◌, List, Option, Some, None}
use Rattle.std.specs.Option.{IsSome}
use Rattle.std.specs.FinMap.{get}
use Rattle.sd_model.specs.declared.trees.Move.{Move}
use Rattle.sd_vtree.specs.NumberedMoves.{moved_number}
use Rattle.sd_runs.specs.Arena.{IsMember}
use Rattle.sd_laws.specs.Turned.{lower_of}
use Rattle.sd_laws.specs.Values.{Valuation}
use Rattle.sd_manager.specs.Table.{Table, key_at}
use Rattle.sd_manager.specs.Valid.{IsTable}
use Rattle.sd_manager.specs.Moving.{next_epoch}
use Rattle.sd_sweep.specs.Reached.{IsReached}
use Rattle.sd_move.specs.Journal.{Named}
use Rattle.sd_move.specs.Moves.{IsMovable}
use Rattle.sd_move.specs.Moving.{Progress, MoveInProgress}
use Rattle.sd_move.specs.Recorded.{AreRecorded}

-- A move of this kind at x, whose lower node this is, is on its way from the table m0, in which no move was going on:
-- the vtree is turned, no node of m0 was discarded, and the detached nodes stand at x. The entries tell what was
-- changed.
pub record IsOnTheWay (m0 m : Table) (kind : Move) (x : ℕ) (lower : Option ℕ) (named : List Named) : Type 0 where
  pub first : IsTable m0
  pub no_move : m0.moving ≡ None
  pub progress : Progress
  pub values : Valuation
  pub going : MoveInProgress m0 m x progress values
  pub kept_all : (n : ℕ) → ¬ IsMember n progress.discarded
  pub moved : moved_number kind m0.vtree x ≡ Some m.vtree
  pub lower_is : lower_of kind m0.vtree x ≡ lower
  pub recorded : AreRecorded m0 m x lower named
  pub waiting : (n : ℕ) (k : ℕ × List (ℕ × ℕ)) → get m.detached n ≡ Some k → k.0 ≡ x
  pub epoch : m.epoch ≡ next_epoch m0.epoch
  pub bound : m.bound ≡ m0.bound
  pub extent : m0.extent ≤ m.extent
  pub records : m0.records ≤ m.records
  -- a node has the mark that it had in m0, and a new one the mark 0
  pub marks : (n q : ℕ) → IsSome (key_at m n) → get m.marks n ≡ Some q →
      (IsSome (get m0.linked n) × (get m0.marks n ≡ Some q)) ⊎ (q ≡ 0)

-- each node of the table is under a held root or a loose run
abbrev pub AreAllReached : Table → Type 0
AreAllReached t = (n : ℕ) → IsSome (get t.linked n) → IsReached t n

-- The move of the kind can be made at the place and turns this lower node, or it cannot be made.
abbrev pub IsLowerFound : Table → Move → ℕ → Option ℕ → Type 0
IsLowerFound t kind place None = moved_number kind t.vtree place ≡ None
IsLowerFound t kind place (Some lower) = IsMovable t kind place × (lower_of kind t.vtree place ≡ Some lower)

-- What the entries of a move say while it goes on, for the contracts of private functions.
use Rattle.std.specs.Prelude.{◌≡◌, ◌⊎◌, ℕ, List, map, Option, Some, None}
use Rattle.std.specs.List.{AllByRecursion}
use Rattle.std.specs.Option.{IsSome}
use Rattle.std.specs.FinMap.{get}
use Rattle.sd_model.specs.Tree.{AreDistinct}
use Rattle.sd_manager.specs.Table.{Table, key_at}
use Rattle.sd_move.specs.Journal.{Named, journal_entry, key_before, HasLooseRun, starts_of, without_runs}

-- The entry is of a node that was linked in m0 at one of the two places of the move, and is linked at one of them now.
-- With the entry's place and run put back it has its key of m0. It got another list at the upper place alone.
pub record IsRecorded (m0 m : Table) (upper : ℕ) (lower : Option ℕ) (e : Named) : Type 0 where
  pub place : ℕ
  pub list : List (ℕ × ℕ)
  pub former : List (ℕ × ℕ)
  pub linked : get m.linked e.number ≡ Some (place, list)
  pub here : (place ≡ upper) ⊎ (Some place ≡ lower)
  pub was : get m0.linked e.number ≡ Some (e.place, former)
  pub before : (e.place ≡ upper) ⊎ (Some e.place ≡ lower)
  pub back : key_before m e.number e.place e.run ≡ Some (e.place, former)
  pub run : HasLooseRun m e
  pub rewritten : IsSome e.run → (place ≡ upper) × (e.place ≡ upper)

-- The entries made so far tell all that a move which began at m0 changed in its nodes: each is right, no number and no
-- run is there twice, a node of m0 that is not named has its key, linked or detached, and the loose runs are those of
-- m0 and the entries'.
pub record AreRecorded (m0 m : Table) (upper : ℕ) (lower : Option ℕ) (named : List Named) : Type 0 where
  pub entries : AllByRecursion (IsRecorded m0 m upper lower) named
  pub numbers_once : AreDistinct (map (λ (e : Named). e.number) named)
  pub runs_once : AreDistinct (starts_of named)
  pub unnamed : (n : ℕ) (key : ℕ × List (ℕ × ℕ)) → journal_entry named n ≡ None → get m0.linked n ≡ Some key →
      key_at m n ≡ Some key
  pub loose : without_runs m.loose (starts_of named) ≡ m0.loose

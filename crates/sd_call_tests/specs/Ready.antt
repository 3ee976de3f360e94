-- Managers before anything is held, and those whose vtree can be moved.
use Rattle.std.specs.Prelude.{◌≡◌, ℕ, ◌+◌, List, Some, None}
use Rattle.std.specs.Option.{IsSome}
use Rattle.std.specs.FinMap.{empty, get}
use Rattle.sd_cache.specs.Entries.{Answers}
use Rattle.sd_manager.specs.Marking.{AreUnmarked}
use Rattle.sd_manager.specs.Table.{Table}
use Rattle.sd_apply.specs.Serving.{Serves}

-- no move is going on, no node is marked, the cache serves the manager, and no root is held
pub record IsFresh (t : Table) (c : Answers) : Type 0 where
  pub no_move : t.moving ≡ None
  pub unmarked : AreUnmarked t
  pub serves : Serves c t
  pub no_roots : t.roots ≡ empty

-- the same where two roots are held
pub record IsReady (t : Table) (c : Answers) (first second : ℕ) : Type 0 where
  pub no_move : t.moving ≡ None
  pub unmarked : AreUnmarked t
  pub serves : Serves c t
  pub first_held : IsSome (get t.roots first)
  pub second_held : IsSome (get t.roots second)

-- the only node at a vtree node is the one that this root holds
abbrev pub IsAlone : Table → ℕ → ℕ → Type 0
IsAlone t root place = (n : ℕ) (list : List (ℕ × ℕ)) → get t.linked n ≡ Some (place, list) →
    get t.roots root ≡ Some (2050 + n)

-- Which of the kept answers are right when nodes were taken away.
use Rattle.std.specs.Prelude.{◌≡◌, ◌⊎◌, ℕ, ◌-◌, ◌<◌, ◌≤◌, length, Contains, Some, slice_get}
use Rattle.std.specs.Option.{IsSome}
use Rattle.std.specs.FinMap.{get}
use Rattle.sd_laws.specs.Shown.{Keeps}
use Rattle.sd_cache.specs.Entries.{Call, Entries, blank}
use Rattle.sd_manager.specs.Table.{Table}
use Rattle.sd_manager.specs.Moving.{IsLater}

-- Each node of the new table is one of the old table, with its key, under the same vtree. Where anything changed, the
-- epoch is a later one.
pub record OnlyTakesAway (old new : Table) : Type 0 where
  pub vtree : new.vtree ≡ old.vtree
  pub nodes : Keeps (get new.linked) (get old.linked)
  pub epoch : old.epoch ≤ new.epoch
  pub changed : (new ≡ old) ⊎ IsLater old new

-- ---- for the contracts of private functions

-- the code is of a constant, a literal or a linked node
abbrev pub IsStanding : Table → ℕ → Type 0
IsStanding t c = 2050 ≤ c → IsSome (get t.linked (c - 2050))

-- both numbers of an entry and its answer are so
pub record Survives (t : Table) (e : Call × ℕ) : Type 0 where
  pub first : IsStanding t e.0.a
  pub second : IsStanding t e.0.b
  pub answer : IsStanding t e.1

-- Each entry is blank or one of those before. The first ones, up to this index, survive.
pub record AreSifted (t : Table) (before after : Entries) (index : ℕ) : Type 0 where
  pub count : length after ≡ length before
  pub each : (k : ℕ) (e : Call × ℕ) → slice_get after k ≡ Some e →
      (e ≡ blank) ⊎ (Contains before e × (k < index → Survives t e))

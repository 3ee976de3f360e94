-- A linked node that nothing uses, and what taking it away does to a manager.
use Rattle.std.specs.Prelude.{◌≡◌, ℕ, ◌+◌, List, length, Some}
use Rattle.std.specs.Option.{IsSome}
use Rattle.std.specs.FinMap.{get, remove}
use Rattle.sd_manager.specs.Table.{Table, uses_of}
use Rattle.sd_manager.specs.Moving.{with_free, next_epoch}

-- the number is that of a linked node that no list, no loose run and no root uses
pub record IsIdle (t : Table) (n : ℕ) : Type 0 where
  pub linked : IsSome (get t.linked n)
  pub unused : uses_of t (2050 + n) ≡ 0

-- the table without a linked node of this list, at the next epoch
abbrev pub retired : Table → ℕ → List (ℕ × ℕ) → Table
retired t n list =
    record (with_free t (length list)) {
      linked = remove t.linked n;
      marks = remove t.marks n;
      epoch = next_epoch t.epoch;
    }

-- A linked node was taken away with its mark, its run is free, and the epoch is the next one. Nothing else changed.
pub record IsRetired (old new : Table) (n : ℕ) : Type 0 where
  pub place : ℕ
  pub list : List (ℕ × ℕ)
  pub was : get old.linked n ≡ Some (place, list)
  pub is : new ≡ retired old n list

-- some were taken away so, one after the other, and nothing used any when its turn came
pub data AreRetired (old : Table) : Table → Type 0 where
  none_retired : AreRetired old old
  one_more : {t new : Table} {n : ℕ} → AreRetired old t → IsIdle t n → IsRetired t new n → AreRetired old new

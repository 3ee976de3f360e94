-- Groups that stand one after another in one list, with the indices where they end.
use Rattle.std.specs.Prelude.{ℕ, zero, suc, ◌-◌, ◌≤◌, List, [], ◌∷◌, slice_range, ℤ}
use Rattle.std.specs.Coded.{le_prop}
use mathlib.Core.HLevel.{×_prop}
use Rattle.sd_model.specs.Expression.{Group}
use Rattle.sd_formula.specs.declared.flat.End.{End}

-- ends that rise, from an index to at most another
abbrev pub AreEnds : ℕ → List End → ℕ → Type 0
AreEnds from [] total = from ≤ total
AreEnds from (end ∷ ends) total = (from ≤ end.index) × AreEnds end.index ends total

-- a fact with one proof at most, as a field of facts asks
pub AreEnds_prop : (from : ℕ) (ends : List End) (total : ℕ) → IsProp (AreEnds from ends total)
AreEnds_prop from [] total = le_prop
AreEnds_prop from (end ∷ ends) total = ×_prop le_prop (AreEnds_prop end.index ends total)

-- where the group after the last begins
abbrev pub last_end : ℕ → List End → ℕ
last_end from [] = from
last_end from (end ∷ ends) = last_end end.index ends

-- where the group of a number begins, counted from 0
abbrev pub start_at : ℕ → List End → ℕ → ℕ
start_at from ends zero = from
start_at from [] (suc i) = from
start_at from (end ∷ ends) (suc i) = start_at end.index ends i

-- the groups
abbrev pub cut : ℕ → List End → List ℤ → List Group
cut from [] literals = []
cut from (end ∷ ends) literals =
    record { exclusive = end.exclusive; literals = slice_range literals from end.index }
    ∷ cut end.index ends literals

-- an end, without so many literals before it
abbrev pub end_without : ℕ → End → End
end_without before end = record { index = end.index - before; exclusive = end.exclusive }

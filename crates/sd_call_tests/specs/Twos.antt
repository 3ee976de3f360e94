-- Runs of two elements, of which three are given and taken again.
use Rattle.std.specs.Prelude.{◌≡◌, ℕ, List, [], ◌∷◌, Some}
use Rattle.std.specs.FinMap.{get}
use Rattle.sd_runs.specs.Arena.{Arena}

-- the elements of each of them
abbrev pub two : List (ℕ × ℕ)
two = (1, 2) ∷ (3, 4) ∷ []

-- three live runs start here, at three places
pub record AreThree (a : Arena) (first second third : ℕ) : Type 0 where
  pub first_live : get a.live first ≡ Some two
  pub second_live : get a.live second ≡ Some two
  pub third_live : get a.live third ≡ Some two
  pub second_other : ¬ (second ≡ first)
  pub third_other : ¬ (third ≡ first)
  pub third_beside : ¬ (third ≡ second)

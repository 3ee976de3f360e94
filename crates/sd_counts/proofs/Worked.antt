-- Worked rows: two nodes, of which a root holds the second, whose list has the first.
use Rattle.std.proofs.Common.{◌≡◌, ℕ, zero, suc, true, false, List, [], ◌∷◌, length, refl, arith}
use Rattle.sd_counts.specs.Right.{sum_counted, IsReached, reached_held, reached_below}
use Rattle.sd_counts.specs.Uses.{uses_in}

abbrev lists : ℕ → List (ℕ × ℕ)
lists zero = (2, 4) ∷ (3, 5) ∷ []
lists (suc zero) = (6, 2050) ∷ (7, 1) ∷ (8, 2050) ∷ []
lists (suc (suc n)) = []

abbrev held : ℕ → ℕ
held zero = 0
held (suc zero) = 1
held (suc (suc n)) = 0

-- the first stands twice in the list of the second
uses_twice : uses_in 2050 (lists 1) ≡ 2
uses_twice = refl

uses_none : uses_in 2051 (lists 1) ≡ 0
uses_none = refl

-- both are counted, or the second alone
total_both : sum_counted (λ m. length (lists m)) (true ∷ true ∷ []) ≡ 5
total_both = refl

total_second : sum_counted (λ m. length (lists m)) (false ∷ true ∷ []) ≡ 3
total_second = refl

-- both are reached
second_reached : IsReached lists held 1
second_reached = reached_held (omega arith)

first_reached : IsReached lists held 0
first_reached = reached_below second_reached (omega arith)

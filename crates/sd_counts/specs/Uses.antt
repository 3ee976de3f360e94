-- How often codes stand in lists of pairs of codes.
use Rattle.std.specs.Prelude.{ℕ, ◌+◌, ◌-◌, ◌<◌, ◌≤◌, List, ◌==◌, if◌then◌else◌}
use Rattle.std.specs.List.{AllByRecursion, sum_by}

-- 1 where the codes are equal
abbrev pub counts_one : ℕ → ℕ → ℕ
counts_one c code = if code == c then 1 else 0

-- how often a code is one of two
abbrev pub uses_of_pair : ℕ → ℕ × ℕ → ℕ
uses_of_pair c e = counts_one c e.0 + counts_one c e.1

-- how often a code stands in a list of pairs
abbrev pub uses_in : ℕ → List (ℕ × ℕ) → ℕ
uses_in c list = sum_by (uses_of_pair c) list

-- The code is of a constant or of a literal, or that of a number below `size`. The code of the number n is 2050 + n.
abbrev pub IsWithin : ℕ → ℕ → Type 0
IsWithin size code = 2050 ≤ code → code - 2050 < size

-- both codes of each pair are so
abbrev pub AreWithin : ℕ → List (ℕ × ℕ) → Type 0
AreWithin size list = AllByRecursion (λ (e : ℕ × ℕ). IsWithin size e.0 × IsWithin size e.1) list

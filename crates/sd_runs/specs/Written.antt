-- A list written over a part of the elements.
use Rattle.std.specs.Prelude.{ℕ, List, ◌++◌, length, take, drop}

-- the elements with this list from this index on
abbrev pub put : ℕ → List (ℕ × ℕ) → List (ℕ × ℕ) → List (ℕ × ℕ)
put s xs ys = take s xs ++ (ys ++ drop (length ys) (drop s xs))

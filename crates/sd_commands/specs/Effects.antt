-- What a command does outside: it writes a file or prints a line.
use Rattle.std.specs.Prelude.{ℕ, List}

-- a file is written whole with these bytes, or a line is printed
pub data Effect : Type 0 where
  Write : (file bytes : List ℕ) → Effect
  Print : (line : List ℕ) → Effect

-- Literals as DIMACS has them, and their codes.
use Rattle.std.specs.Prelude.{ℕ, ◌+◌, ◌-◌, ◌*◌, ◌/◌, ◌%◌, ◌≤◌, Bool, true, false, ◌==◌, ℤ, pos, negsuc}

-- the literal of a variable, as DIMACS has it: x, or -x for the negation
abbrev pub literal_of : ℕ → Bool → ℤ
literal_of x true = pos x
literal_of x false = negsuc (x - 1)

-- the literal with a code: 2x is x, and 2x + 1 is -x
abbrev pub literal_at : ℕ → ℤ
literal_at c = literal_of (c / 2) (c % 2 == 0)

-- the code of a literal
abbrev pub code_of_literal : ℤ → ℕ
code_of_literal (pos x) = 2 * x
code_of_literal (negsuc i) = 2 * (i + 1) + 1

-- it is a literal of one of the variables 1 to n
abbrev pub IsLiteralTo : ℕ → ℤ → Type 0
IsLiteralTo n (pos x) = (1 ≤ x) × (x ≤ n)
IsLiteralTo n (negsuc i) = i + 1 ≤ n

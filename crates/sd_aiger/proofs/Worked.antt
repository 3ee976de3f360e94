-- Worked texts of AIGER, with their circuits or their first faults.
use Rattle.std.proofs.Common.{◌≡◌, ℕ, [], ◌∷◌, refl, Ok, Err}
use Rattle.std.specs.Prelude.{codes}
use Rattle.sd_model.specs.Circuit.{AndLine}
use Rattle.sd_model.specs.Text.{number_text}
use Rattle.sd_aiger.specs.Reads.{aiger}

-- an and-line as it is written
abbrev line : ℕ → ℕ → ℕ → AndLine
line defined first second = record { defined = defined; first = first; second = second }

-- ---- circuits

-- the conjunction of two inputs
conjunction : aiger (codes "aag 3 2 0 1 1\n2\n4\n6\n6 2 4\n")
    ≡ Ok (record { variables = 3; inputs = 2 ∷ 4 ∷ []; outputs = 6 ∷ []; ands = line 6 2 4 ∷ [] })
unfolding aiger
conjunction = refl

-- two outputs, inputs in another order, and what is not read behind the last and-line
with_symbols : aiger (codes "aag 3 2 0 2 1\n4\n2\n6\n7\n6 2 4\ni0 x\nc\nby hand")
    ≡ Ok (record { variables = 3; inputs = 4 ∷ 2 ∷ []; outputs = 6 ∷ 7 ∷ []; ands = line 6 2 4 ∷ [] })
unfolding aiger
with_symbols = refl

-- constants as outputs, and separators before the first word
constants : aiger (codes " \taag 1 1 0 3 0\r\n 2\n0\n1\n 03 \n")
    ≡ Ok (record { variables = 1; inputs = 2 ∷ []; outputs = 0 ∷ 1 ∷ 3 ∷ []; ands = [] })
unfolding aiger
constants = refl

-- an and-line before the one that it uses
later_gate : aiger (codes "aag 4 2 0 1 2\n2\n4\n8\n8 6 3\n6 2 4\n")
    ≡ Ok (record { variables = 4; inputs = 2 ∷ 4 ∷ []; outputs = 8 ∷ []; ands = line 8 6 3 ∷ line 6 2 4 ∷ [] })
unfolding aiger
later_gate = refl

-- ---- faults of the first line

no_line : aiger [] ≡ Err (codes ": no header")
unfolding aiger
no_line = refl

-- a comment or a blank line before the header is itself the first line
comment_first : aiger (codes "c made by hand\naag 1 1 0 1 0\n2\n2\n") ≡ Err (codes ": no header")
unfolding aiger
comment_first = refl

blank_first : aiger (codes "\naag 1 1 0 1 0\n2\n2\n") ≡ Err (codes ": no header")
unfolding aiger
blank_first = refl

-- the binary format
binary : aiger (codes "aig 3 2 0 1 1\n6\n") ≡ Err (codes ": no header")
unfolding aiger
binary = refl

-- further numbers, as AIGER 1.9 has them
six_numbers : aiger (codes "aag 1 1 0 1 0 0\n2\n2\n") ≡ Err (codes ": line 1: bad header")
unfolding aiger number_text
six_numbers = refl

no_input : aiger (codes "aag 1 0 0 1 0\n0\n") ≡ Err (codes ": variables out of range: 0")
unfolding aiger number_text
no_input = refl

one_latch : aiger (codes "aag 2 1 1 1 0\n2\n4 2\n4\n") ≡ Err (codes ": latches: 1")
unfolding aiger number_text
one_latch = refl

no_output : aiger (codes "aag 1 1 0 0 0\n2\n") ≡ Err (codes ": outputs out of range: 0")
unfolding aiger number_text
no_output = refl

too_few_variables : aiger (codes "aag 2 2 0 1 1\n2\n4\n6\n6 2 4\n") ≡ Err (codes ": index out of range: 2")
unfolding aiger number_text
too_few_variables = refl

-- ---- faults of the lines behind it

-- it is tested before any line is read
lines_missing : aiger (codes "aag 3 2 0 1 1\nx\n4\n6\n") ≡ Err (codes ": 4 stated, 3 found")
unfolding aiger number_text
lines_missing = refl

two_words : aiger (codes "aag 3 2 0 1 1\n2 4\n4\n6\n6 2 4\n") ≡ Err (codes ": line 2: bad line")
unfolding aiger number_text
two_words = refl

past_the_last : aiger (codes "aag 3 2 0 1 1\n2\n4\n8\n6 2 4\n") ≡ Err (codes ": line 4: literal out of range")
unfolding aiger number_text
past_the_last = refl

input_twice : aiger (codes "aag 3 2 0 1 1\n2\n2\n6\n6 2 4\n") ≡ Err (codes ": line 3: bad definition")
unfolding aiger number_text
input_twice = refl

input_defined : aiger (codes "aag 3 2 0 1 1\n2\n4\n6\n4 2 6\n") ≡ Err (codes ": line 5: bad definition")
unfolding aiger number_text
input_defined = refl

odd_input : aiger (codes "aag 1 1 0 1 0\n1\n2\n") ≡ Err (codes ": line 2: bad definition")
unfolding aiger number_text
odd_input = refl

-- ---- faults of the circuit

undefined_output : aiger (codes "aag 2 1 0 1 0\n2\n4\n") ≡ Err (codes ": line 3: undefined literal")
unfolding aiger number_text
undefined_output = refl

undefined_side : aiger (codes "aag 3 1 0 1 1\n2\n6\n6 2 5\n") ≡ Err (codes ": line 4: undefined literal")
unfolding aiger number_text
undefined_side = refl

on_itself : aiger (codes "aag 2 1 0 1 1\n2\n4\n4 4 2\n") ≡ Err (codes ": line 4: cycle")
unfolding aiger number_text
on_itself = refl

-- the first and-line only leads into the cycle of the other two, and no output needs them
into_a_cycle : aiger (codes "aag 4 1 0 1 3\n2\n2\n4 2 6\n6 8 2\n8 2 7\n") ≡ Err (codes ": line 5: cycle")
unfolding aiger number_text
into_a_cycle = refl

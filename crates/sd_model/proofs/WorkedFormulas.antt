-- Worked formulas and their values, by computation.
use Rattle.std.proofs.Common.{◌≡◌, Bool, true, false, List, [], ◌∷◌, refl}
use Rattle.std.specs.Prelude.{ℤ, pos, negsuc}
use Rattle.sd_model.specs.Expression.{Expression, Cnf, Dnf, OfFile, FileNode, FileLiteral}
use Rattle.sd_model.specs.Expression.{FileDecomposition, Conditioned, expression_value}

-- a file whose decomposition is not compressed: (1 and 2) or (not 1 and 2)
abbrev uncompressed : List FileNode
uncompressed =
    FileLiteral (pos 1) ∷ FileLiteral (negsuc 0) ∷ FileLiteral (pos 2) ∷ FileDecomposition ((0, 2) ∷ (1, 2) ∷ []) ∷ []

-- its value is that of the literal 2
value_of_uncompressed : (b c : Bool) → expression_value (OfFile uncompressed) (b ∷ c ∷ []) ≡ c
value_of_uncompressed true true = refl
value_of_uncompressed true false = refl
value_of_uncompressed false true = refl
value_of_uncompressed false false = refl

-- (1 and 2) or (3 and 4)
abbrev terms : Expression
terms = Dnf ((pos 1 ∷ pos 2 ∷ []) ∷ (pos 3 ∷ pos 4 ∷ []) ∷ [])

-- true and true and false and false
abbrev first_two : List Bool
first_two = true ∷ true ∷ false ∷ false ∷ []

value_of_terms : expression_value terms first_two ≡ true
value_of_terms = refl

-- where 1 is given false, the same assignment makes them false
value_of_conditioned : expression_value (Conditioned terms (negsuc 0)) first_two ≡ false
value_of_conditioned = refl

-- ---- exclusive groups

-- literals as an exclusive group, the only one of its formula
abbrev parity : List ℤ → Expression
parity literals = Cnf (record { exclusive = true; literals = literals } ∷ [])

-- it is true where an odd number of its literals hold: one of three here, and three of three
value_of_one : expression_value (parity (pos 1 ∷ negsuc 1 ∷ pos 3 ∷ [])) first_two ≡ true
value_of_one = refl

value_of_three : expression_value (parity (pos 1 ∷ negsuc 2 ∷ pos 2 ∷ [])) first_two ≡ true
value_of_three = refl

-- two of two are an even number, also where one literal is written twice, and so is none of none
value_of_two : expression_value (parity (pos 1 ∷ pos 2 ∷ [])) first_two ≡ false
value_of_two = refl

value_of_repeated : (b : Bool) → expression_value (parity (pos 1 ∷ pos 1 ∷ [])) (b ∷ []) ≡ false
value_of_repeated true = refl
value_of_repeated false = refl

value_of_empty : (a : List Bool) → expression_value (parity []) a ≡ false
value_of_empty a = refl

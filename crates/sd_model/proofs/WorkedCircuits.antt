-- Worked circuits and the values of their outputs, by computation.
use Rattle.std.proofs.Common.{◌≡◌, ℕ, Bool, true, false, not, ◌&&◌, ◌||◌, [], ◌∷◌, refl}
use Rattle.sd_model.specs.Circuit.{Circuit, AndLine, circuit_output}
use Rattle.sd_model.specs.Expression.{OutputOf, Negated, expression_value, combine}
use Rattle.sd_model.specs.declared.trees.Operation.TheVariants.{Xor}

-- an and-line as it is written
abbrev line : ℕ → ℕ → ℕ → AndLine
line defined first second = record { defined = defined; first = first; second = second }

-- three variables and two inputs: the conjunction of the inputs, and its negation
abbrev conjunction : Circuit
conjunction = record { variables = 3; inputs = 2 ∷ 4 ∷ []; outputs = 6 ∷ 7 ∷ []; ands = line 6 2 4 ∷ [] }

value_of_conjunction : (b c : Bool) → expression_value (OutputOf conjunction 0) (b ∷ c ∷ []) ≡ (b && c)
unfolding circuit_output
value_of_conjunction true true = refl
value_of_conjunction true false = refl
value_of_conjunction false true = refl
value_of_conjunction false false = refl

-- the second output is not the first: its literal is negated
value_of_negated : (b c : Bool) → expression_value (OutputOf conjunction 1) (b ∷ c ∷ []) ≡ not (b && c)
unfolding circuit_output
value_of_negated true true = refl
value_of_negated true false = refl
value_of_negated false true = refl
value_of_negated false false = refl

-- the disjunction, with negated inputs and a negated output
abbrev disjunction : Circuit
disjunction = record { variables = 3; inputs = 2 ∷ 4 ∷ []; outputs = 7 ∷ []; ands = line 6 3 5 ∷ [] }

value_of_disjunction : (b c : Bool) → expression_value (OutputOf disjunction 0) (b ∷ c ∷ []) ≡ (b || c)
unfolding circuit_output
value_of_disjunction true true = refl
value_of_disjunction true false = refl
value_of_disjunction false true = refl
value_of_disjunction false false = refl

-- the inputs in another order than their variables: the first input, and not the second
abbrev difference : Circuit
difference = record { variables = 3; inputs = 4 ∷ 2 ∷ []; outputs = 6 ∷ []; ands = line 6 3 4 ∷ [] }

value_of_difference : (b c : Bool) → expression_value (OutputOf difference 0) (b ∷ c ∷ []) ≡ (b && not c)
unfolding circuit_output
value_of_difference true true = refl
value_of_difference true false = refl
value_of_difference false true = refl
value_of_difference false false = refl

-- the exclusive or by three and-lines, of which the first names what the others define
abbrev exclusive : Circuit
exclusive = record {
  variables = 5;
  inputs = 2 ∷ 4 ∷ [];
  outputs = 10 ∷ [];
  ands = line 10 7 9 ∷ line 6 2 4 ∷ line 8 3 5 ∷ [];
}

value_of_exclusive : (b c : Bool) → expression_value (OutputOf exclusive 0) (b ∷ c ∷ []) ≡ combine Xor b c
unfolding circuit_output
value_of_exclusive true true = refl
value_of_exclusive true false = refl
value_of_exclusive false true = refl
value_of_exclusive false false = refl

-- three inputs and no and-line: an input, one that is negated, and the two constants
abbrev plain : Circuit
plain = record { variables = 3; inputs = 2 ∷ 4 ∷ 6 ∷ []; outputs = 4 ∷ 7 ∷ 0 ∷ 1 ∷ []; ands = [] }

value_of_input : (b : Bool) → expression_value (OutputOf plain 0) (true ∷ b ∷ false ∷ []) ≡ b
unfolding circuit_output
value_of_input true = refl
value_of_input false = refl

value_of_negated_input : (b : Bool) → expression_value (OutputOf plain 1) (true ∷ true ∷ b ∷ []) ≡ not b
unfolding circuit_output
value_of_negated_input true = refl
value_of_negated_input false = refl

value_of_false : (b c d : Bool) → expression_value (OutputOf plain 2) (b ∷ c ∷ d ∷ []) ≡ false
unfolding circuit_output
value_of_false true true true = refl
value_of_false true true false = refl
value_of_false true false true = refl
value_of_false true false false = refl
value_of_false false true true = refl
value_of_false false true false = refl
value_of_false false false true = refl
value_of_false false false false = refl

value_of_true : (b c d : Bool) → expression_value (OutputOf plain 3) (b ∷ c ∷ d ∷ []) ≡ true
unfolding circuit_output
value_of_true true true true = refl
value_of_true true true false = refl
value_of_true true false true = refl
value_of_true true false false = refl
value_of_true false true true = refl
value_of_true false true false = refl
value_of_true false false true = refl
value_of_true false false false = refl

-- Circuits of conjunctions and negations, as texts of AIGER write them, and the value of an output.
use Rattle.std.specs.Prelude.{ℕ, zero, suc, ◌/◌, ◌%◌, ◌==◌, Bool, true, false, not, ◌&&◌, ◌||◌, if◌then◌else◌}
use Rattle.std.specs.Prelude.{List, [], ◌∷◌, slice_index_or}
use Rattle.std.specs.Bool.{beq}
use Rattle.std.specs.List.{list_all, flat_map, enumerate_from}
use Rattle.sd_model.specs.Assignment.{value_in}

-- an and-line: what it defines is the conjunction of two literals
pub record AndLine : Type 0 where
  pub defined : ℕ
  pub first : ℕ
  pub second : ℕ

-- A circuit is the lines of its text, with the and-lines in any order. Its own variables are 1 to a number, and a
-- literal is written as in the text: 0 is false, 1 is true, 2 * n is the variable n, and 2 * n + 1 its negation.
pub record Circuit : Type 0 where
  pub variables : ℕ
  pub inputs : List ℕ
  pub outputs : List ℕ
  pub ands : List AndLine

-- a literal is true where the circuit's variables have these values; the variable 0 is false
abbrev pub wire_holds : List Bool → ℕ → Bool
wire_holds values literal =
    if literal % 2 == 1 then not (value_in values (literal / 2)) else value_in values (literal / 2)

-- each input has the value that its number, counted from 1, has in the assignment
abbrev pub inputs_agree : List Bool → List Bool → List ℕ → Bool
inputs_agree values assignment inputs = list_all
    (λ (number, input). beq (wire_holds values input) (value_in assignment number))
    (enumerate_from 1 inputs)

-- what an and-line defines has the value of the conjunction
abbrev pub is_conjunction : List Bool → AndLine → Bool
is_conjunction values line = beq (wire_holds values line.defined)
    (wire_holds values line.first && wire_holds values line.second)

-- the values of the circuit's variables are a valuation of its text under an assignment of the inputs
abbrev pub is_valuation : Circuit → List Bool → List Bool → Bool
is_valuation circuit assignment values =
    inputs_agree values assignment circuit.inputs && list_all (is_conjunction values) circuit.ands

-- all lists of n truth values
abbrev pub all_lists : ℕ → List (List Bool)
all_lists zero = [] ∷ []
all_lists (suc n) = flat_map (λ values. (false ∷ values) ∷ (true ∷ values) ∷ []) (all_lists n)

-- the literal of the output of a number, counted from 0
abbrev pub output_literal : Circuit → ℕ → ℕ
output_literal circuit output = slice_index_or circuit.outputs output 0

-- an output is true in every valuation of the text under an assignment of the inputs
unfoldable pub circuit_output : Circuit → ℕ → List Bool → Bool
circuit_output circuit output assignment = list_all (λ values.
    not (is_valuation circuit assignment values) || wire_holds values (output_literal circuit output))
    (all_lists circuit.variables)

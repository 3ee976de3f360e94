-- How a circuit is kept in vectors.
use Rattle.std.specs.Prelude.{◌≡◌, ◌≢◌, ◌⊎◌, ℕ, ◌+◌, ◌<◌, ◌≤◌, List, length, slice_index_or}
use Rattle.sd_model.specs.Circuit.{Circuit, AndLine}
use Rattle.sd_circuit.specs.Order.{variable_of, defined_at, IsClosed, IsOrdered}
use Rattle.sd_circuit.specs.Circuits.{OrderedCircuit}

-- the variable of an input, counted from 0
abbrev pub input_variable : Circuit → ℕ → ℕ
input_variable text i = variable_of (slice_index_or text.inputs i 0)

-- the variable that a gate defines
abbrev pub gate_variable : Circuit → List ℕ → ℕ → ℕ
gate_variable text order k = defined_at text.ands (slice_index_or order k 0)

-- a literal is a constant, or its variable is that of an input or of one of so many first gates
abbrev pub IsTold : Circuit → List ℕ → ℕ → ℕ → Type 0
IsTold text order gates literal = (variable_of literal ≡ 0)
    ⊎ (((i : ℕ) × (i < length text.inputs) × (variable_of literal ≡ input_variable text i))
    ⊎ ((k : ℕ) × (k < gates) × (variable_of literal ≡ gate_variable text order k)))

-- what defines each variable: the number of an input, counted from 1, or one more than all inputs and a gate's number
pub record AreOrigins (c : OrderedCircuit) (origins : List ℕ) : Type 0 where
  pub each : (x : ℕ) → 1 ≤ x → x ≤ c.text.variables → x < length origins
  pub of_input : (i : ℕ) → i < length c.text.inputs
      → slice_index_or origins (input_variable c.text i) 0 ≡ i + 1
  pub of_gate : (k : ℕ) → k < length c.order
      → slice_index_or origins (gate_variable c.text c.order k) 0 ≡ length c.text.inputs + k + 1

-- the vectors hold a circuit within the limits, with an order of its gates
pub record HoldsCircuit (c : OrderedCircuit) (origins : List ℕ) : Type 0 where
  pub closed : IsClosed c.text
  pub ordered : IsOrdered c.text.ands c.order
  pub variables : c.text.variables ≤ 2000000
  pub inputs : length c.text.inputs ≤ 1024
  pub outputs : length c.text.outputs ≤ 1024
  pub fits : length c.text.inputs + length c.text.ands ≤ c.text.variables
  pub filled : AreOrigins c origins

-- inputs and and-lines in an order, each of which defines a variable of its own
pub record DefineVariables (variables : ℕ) (inputs : List ℕ) (ands : List AndLine) (order : List ℕ) : Type 0 where
  pub inside : (k : ℕ) → k < length order → slice_index_or order k 0 < length ands
  pub input_within : (i : ℕ) → i < length inputs → variable_of (slice_index_or inputs i 0) ≤ variables
  pub input_once : (i j : ℕ) → i < j → j < length inputs
      → variable_of (slice_index_or inputs i 0) ≢ variable_of (slice_index_or inputs j 0)
  pub gate_within : (k : ℕ) → k < length order → defined_at ands (slice_index_or order k 0) ≤ variables
  pub gate_once : (j k : ℕ) → j < k → k < length order
      → defined_at ands (slice_index_or order j 0) ≢ defined_at ands (slice_index_or order k 0)
  pub apart : (i k : ℕ) → i < length inputs → k < length order
      → variable_of (slice_index_or inputs i 0) ≢ defined_at ands (slice_index_or order k 0)

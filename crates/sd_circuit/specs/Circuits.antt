-- A circuit with an order of its gates: its wires, and their values.
use Rattle.std.specs.Prelude.{ℕ, ◌+◌, ◌-◌, ◌<◌, ◌≤◌, Bool, true, false, not, ◌&&◌}
use Rattle.std.specs.Prelude.{List, [], ◌∷◌, length, map, replicate, slice_index_or}
use Rattle.sd_model.specs.Assignment.{value_in, with_value}
use Rattle.sd_model.specs.Circuit.{Circuit, AndLine, wire_holds}
use Rattle.sd_circuit.specs.Order.{line_at, variable_of}
use Rattle.sd_circuit.specs.declared.wire.Wire.{Wire}
use Rattle.sd_circuit.specs.declared.wire.Wire.TheVariants.{Constant, Input, Gate}

-- The lists of a circuit's text, and its and-lines in an order in which each stands behind those that define its right
-- sides: the places that they have in the text, counted from 0. Gate k is the and-line at place k of the order.
pub record OrderedCircuit : Type 0 where
  pub text : Circuit
  pub order : List ℕ

-- the lists of a text
abbrev pub text_of : ℕ → List ℕ → List ℕ → List AndLine → Circuit
text_of variables inputs outputs ands =
    record { variables = variables; inputs = inputs; outputs = outputs; ands = ands }

-- the and-line that a gate is
abbrev pub gate_line : OrderedCircuit → ℕ → AndLine
gate_line c gate = line_at c.text.ands (slice_index_or c.order gate 0)

-- a literal of a variable, or the negation of that one
abbrev pub signed_literal : Bool → ℕ → ℕ
signed_literal true literal = literal
signed_literal false literal = literal + 1

-- the literal that the text writes for a wire
abbrev pub literal_of : OrderedCircuit → Wire → ℕ
literal_of c (Constant true) = 1
literal_of c (Constant false) = 0
literal_of c (Input variable positive) = signed_literal positive (slice_index_or c.text.inputs (variable - 1) 0)
literal_of c (Gate index positive) = signed_literal positive ((gate_line c index).defined)

-- a wire is a constant, an input, or one of so many first gates
abbrev pub IsWireWithin : OrderedCircuit → ℕ → Wire → Type 0
IsWireWithin c gates (Constant value) = Unit {0}
IsWireWithin c gates (Input variable positive) = (1 ≤ variable) × (variable ≤ length c.text.inputs)
IsWireWithin c gates (Gate index positive) = index < gates

-- a value, or its negation
abbrev pub signed_value : Bool → Bool → Bool
signed_value true value = value
signed_value false value = not value

-- the value of a wire under an assignment of the inputs, where the gates have these values
abbrev pub wire_value : List Bool → List Bool → Wire → Bool
wire_value assignment gates (Constant value) = value
wire_value assignment gates (Input variable positive) = signed_value positive (value_in assignment variable)
wire_value assignment gates (Gate index positive) = signed_value positive (slice_index_or gates index false)

-- values of the text's variables, with those of the inputs, whose numbers begin at this one
abbrev pub with_inputs : List Bool → ℕ → List ℕ → List Bool → List Bool
with_inputs assignment number [] values = values
with_inputs assignment number (input ∷ inputs) values =
    with_inputs assignment (number + 1) inputs (with_value values (variable_of input) (value_in assignment number))

-- values of the text's variables, with the one that an and-line defines
abbrev pub with_line : AndLine → List Bool → List Bool
with_line line values =
    with_value values (variable_of line.defined) (wire_holds values line.first && wire_holds values line.second)

-- the same with those of the and-lines at these places, one after another
abbrev pub with_gates : Circuit → List ℕ → List Bool → List Bool
with_gates text [] values = values
with_gates text (place ∷ places) values = with_gates text places (with_line (line_at text.ands place) values)

-- the value of each of the text's variables under an assignment of the inputs: first those of the inputs, then those
-- of the gates in their order
unfoldable pub variable_values : OrderedCircuit → List Bool → List Bool
variable_values c assignment = with_gates c.text c.order
    (with_inputs assignment 1 c.text.inputs (replicate c.text.variables false))

-- the value of each gate under an assignment of the inputs
unfoldable pub gate_values : OrderedCircuit → List Bool → List Bool
gate_values c assignment =
    map (λ place. wire_holds (variable_values c assignment) (line_at c.text.ands place).defined) c.order

-- How the reader goes on, for the contracts of its private functions.
use Rattle.std.specs.Prelude.{◌≡◌, ◌≢◌, ℕ, ◌+◌, ◌≤◌, ◌<◌, ◌^◌, ◌%◌, ◌==◌, Bool, false, ◌||◌, nat_lt, if◌then◌else◌}
use Rattle.std.specs.Prelude.{List, [], ◌∷◌, ◌++◌, length, slice_index_or, Result, Ok}
use Rattle.std.specs.List.{list_any}
use Rattle.sd_base.specs.Lines.{TextLine}
use Rattle.sd_base.specs.Reading.{◌>>=◌, ◌>>◌}
use Rattle.sd_model.specs.Circuit.{Circuit, AndLine}
use Rattle.sd_circuit.specs.Order.{variable_of, definitions, line_at}
use Rattle.sd_aiger.specs.declared.header.Header as code
use Rattle.sd_aiger.specs.declared.body.Body.{Body}
use Rattle.sd_aiger.specs.Reads.{Header, literal_of, input_of, and_of, all_defined, no_cycle}

-- what a first line states
abbrev pub header_view : code.Header → Header
header_view h = record {
  variables = h.variables;
  inputs = h.inputs;
  latches = h.latches;
  outputs = h.outputs;
  ands = h.ands;
}

-- numbers of at most 18 digits
pub record AreSmall (h : Header) : Type 0 where
  pub inputs : h.inputs < 10 ^ 18
  pub ands : h.ands < 10 ^ 18

-- the numbers are in range
pub record AreInRange (h : Header) : Type 0 where
  pub variables : h.variables ≤ 2000000
  pub inputs : h.inputs ≤ 1024
  pub outputs : h.outputs ≤ 1024
  pub sum : h.inputs + h.ands ≤ h.variables

-- ---- the lines that were read

-- the lists of the lines so far
abbrev pub body_view : Body → Circuit
body_view b = record {
  variables = b.variables;
  inputs = b.inputs.items;
  outputs = b.outputs.items;
  ands = b.ands.items;
}

-- no line behind a header was read
abbrev pub no_lines : ℕ → Circuit
no_lines m = record { variables = m; inputs = []; outputs = []; ands = [] }

-- one more input line
abbrev pub more_inputs : Circuit → TextLine → Result Circuit (List ℕ)
more_inputs c line = do
  literal ← input_of c.variables (definitions c) line
  Ok (record c { inputs = c.inputs ++ literal ∷ [] })

-- one more output line
abbrev pub more_outputs : Circuit → TextLine → Result Circuit (List ℕ)
more_outputs c line = do
  literal ← literal_of c.variables line
  Ok (record c { outputs = c.outputs ++ literal ∷ [] })

-- one more and-line
abbrev pub more_ands : Circuit → TextLine → Result Circuit (List ℕ)
more_ands c line = do
  gate ← and_of c.variables c.inputs c.ands line
  Ok (record c { ands = c.ands ++ gate ∷ [] })

-- one more line: an input or an output or an and-line, where that many are not there yet
abbrev pub line_read : Header → Circuit → TextLine → Result Circuit (List ℕ)
line_read h c line =
    if nat_lt (length c.inputs) h.inputs then more_inputs c line
    else (if nat_lt (length c.outputs) h.outputs then more_outputs c line
    else (if nat_lt (length c.ands) h.ands then more_ands c line
    else Ok c))

-- what the definitions of lines are: each is the positive literal of a variable of its own, up to m
pub record AreDefinitions (m : ℕ) (definitions : List ℕ) : Type 0 where
  pub positive : (k : ℕ) → k < length definitions → slice_index_or definitions k 0 % 2 ≡ 0
  pub above : (k : ℕ) → k < length definitions → 2 ≤ slice_index_or definitions k 0
  pub within : (k : ℕ) → k < length definitions → variable_of (slice_index_or definitions k 0) ≤ m
  pub once : (j k : ℕ) → j < k → k < length definitions
      → variable_of (slice_index_or definitions j 0) ≢ variable_of (slice_index_or definitions k 0)

-- what the lists of all lines are that a header states
pub record IsRead (h : Header) (c : Circuit) : Type 0 where
  pub variables : c.variables ≡ h.variables
  pub inputs : length c.inputs ≡ h.inputs
  pub outputs : length c.outputs ≡ h.outputs
  pub ands : length c.ands ≡ h.ands
  pub definitions : AreDefinitions c.variables (definitions c)
  pub output : (k : ℕ) → k < length c.outputs → variable_of (slice_index_or c.outputs k 0) ≤ c.variables
  pub first : (k : ℕ) → k < length c.ands → variable_of (line_at c.ands k).first ≤ c.variables
  pub second : (k : ℕ) → k < length c.ands → variable_of (line_at c.ands k).second ≤ c.variables

-- ---- which variables lines define

-- the mark of a literal's variable
abbrev pub is_marked : List Bool → ℕ → Bool
is_marked marks literal = slice_index_or marks (variable_of literal) false

-- a literal is a constant, or its variable has a mark
abbrev pub is_known : List Bool → ℕ → Bool
is_known marks literal = nat_lt literal 2 || is_marked marks literal

-- there is a mark for each variable up to m, which tells whether one of the definitions is of it
pub record AreMarked (m : ℕ) (definitions : List ℕ) (marks : List Bool) : Type 0 where
  pub size : length marks ≡ m + 1
  pub each : (v : ℕ) → v ≤ m
      → slice_index_or marks v false ≡ list_any (λ definition. variable_of definition == v) definitions

-- the marks of lines that were read
abbrev pub IsMarked : Body → Type 0
IsMarked b = AreMarked b.variables (definitions (body_view b)) b.marks.items

-- an and-line of three numbers
abbrev pub triple_view : ℕ × ℕ × ℕ → AndLine
triple_view p = record { defined = p.0; first = p.1; second = p.2 }

-- ---- the circuit of what was read

-- the circuit, where no and-line lies on a cycle
abbrev pub without_cycle : Header → Circuit → Result Circuit (List ℕ)
without_cycle h c = do
  no_cycle h c
  Ok c

-- the circuit of what was read, where all is defined and no and-line lies on a cycle
abbrev pub finished : Header → Circuit → Result Circuit (List ℕ)
finished h c = do
  all_defined h c
  without_cycle h c

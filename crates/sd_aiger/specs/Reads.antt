-- The circuit that a text of AIGER stands for, or the text of its first fault, behind the name of the file.
use Rattle.std.specs.Prelude.{◌≡◌, ℕ, ◌+◌, ◌*◌, ◌%◌, Bool, not, ◌&&◌, ◌||◌, ◌==◌, nat_lt, codes, bytes_eq}
use Rattle.std.specs.Prelude.{List, [], ◌∷◌, ◌++◌, map, length, take, drop, position, find}
use Rattle.std.specs.Prelude.{Option, Some, None, ok_or, Result, Ok, Err}
use Rattle.std.specs.List.{list_any, range_with_len}
use Rattle.sd_base.specs.FaultTexts.{at_line, counts}
use Rattle.sd_base.specs.Lines.{TextLine, numbered_lines}
use Rattle.sd_base.specs.Numbers.{is_within, natural_value}
use Rattle.sd_base.specs.Reading.{◌>>=◌, ◌>>◌, fault_if, fault_for, each, each_after}
use Rattle.sd_model.specs.Circuit.{AndLine, Circuit}
use Rattle.sd_model.specs.Text.{number_text}
use Rattle.sd_circuit.specs.Order.{variable_of, definitions, is_on_cycle}
use Rattle.sd_aiger.specs.declared.fault.AigerFault.{AigerFault}
use Rattle.sd_aiger.specs.declared.fault.AigerFault.TheVariants as fault

-- ---- the first line

-- the numbers of the first line: the greatest variable, and how many inputs, latches, outputs and and-lines there are
pub record Header : Type 0 where
  pub variables : ℕ
  pub inputs : ℕ
  pub latches : ℕ
  pub outputs : ℕ
  pub ands : ℕ

-- a header, where all five numbers are there
abbrev pub header_with : Option ℕ → Option ℕ → Option ℕ → Option ℕ → Option ℕ → Option Header
header_with (Some m) (Some i) (Some l) (Some o) (Some a) =
    Some (record { variables = m; inputs = i; latches = l; outputs = o; ands = a })
header_with m i l o a = None

-- the header of five naturals
abbrev pub header_in : List (List ℕ) → Option Header
header_in (m ∷ i ∷ l ∷ o ∷ a ∷ []) =
    header_with (natural_value m) (natural_value i) (natural_value l) (natural_value o) (natural_value a)
header_in words = None

-- the header of a line's words: aag, and five naturals
abbrev pub header_of : List (List ℕ) → Result Header (List ℕ)
header_of [] = Err (codes ": no header")
header_of (word ∷ words) = do
  fault_if (not (bytes_eq word (codes "aag"))) (codes ": no header")
  ok_or (header_in words) (at_line 1 (codes ": bad header"))

-- There are 1 to 1,024 inputs and outputs, no latch, and at most 2,000,000 variables: at least as many as inputs and
-- and-lines.
abbrev pub in_range : Header → Result (Unit {0}) (List ℕ)
in_range h = do
  fault_if (not (is_within 1 1024 h.inputs)) (codes ": variables out of range: " ++ number_text h.inputs)
  fault_if (not (h.latches == 0)) (codes ": latches: " ++ number_text h.latches)
  fault_if (not (is_within 1 1024 h.outputs)) (codes ": outputs out of range: " ++ number_text h.outputs)
  fault_if (nat_lt 2000000 h.variables || nat_lt h.variables (h.inputs + h.ands))
      (codes ": index out of range: " ++ number_text h.variables)

-- the header of a line's words, where its numbers are in range
abbrev pub header_in_range : List (List ℕ) → Result Header (List ℕ)
header_in_range words = do
  header ← header_of words
  in_range header
  Ok header

-- how many lines the header states behind itself
abbrev pub stated_lines : Header → ℕ
stated_lines h = h.inputs + h.outputs + h.ands

-- ---- a line behind it, over the variables 1 to m

-- the literal of one natural
abbrev pub literal_in : List (List ℕ) → Option ℕ
literal_in (word ∷ []) = natural_value word
literal_in words = None

-- an and-line, where all three literals are there
abbrev pub and_with : Option ℕ → Option ℕ → Option ℕ → Option AndLine
and_with (Some defined) (Some first) (Some second) =
    Some (record { defined = defined; first = first; second = second })
and_with defined first second = None

-- the and-line of three naturals
abbrev pub and_in : List (List ℕ) → Option AndLine
and_in (defined ∷ first ∷ second ∷ []) =
    and_with (natural_value defined) (natural_value first) (natural_value second)
and_in words = None

-- the greatest literal is the negation of the variable m
abbrev pub past_last : ℕ → ℕ → Bool
past_last m literal = nat_lt (2 * m + 1) literal

-- the literal of a line, which is one natural
abbrev pub literal_of : ℕ → TextLine → Result ℕ (List ℕ)
literal_of m line = do
  literal ← ok_or (literal_in line.words) (at_line line.number (codes ": bad line"))
  fault_if (past_last m literal) (at_line line.number (codes ": literal out of range"))
  Ok literal

-- the three literals of a line, which is three naturals
abbrev pub gate_of : ℕ → TextLine → Result AndLine (List ℕ)
gate_of m line = do
  gate ← ok_or (and_in line.words) (at_line line.number (codes ": bad line"))
  fault_if (past_last m gate.defined || past_last m gate.first || past_last m gate.second)
      (at_line line.number (codes ": literal out of range"))
  Ok gate

-- one of these definitions is of the literal's variable
abbrev pub is_among : List ℕ → ℕ → Bool
is_among definitions literal =
    list_any (λ definition. variable_of definition == variable_of literal) definitions

-- What a line defines is a variable, so the literal is even and not 0, and none that an earlier line defines.
abbrev pub is_no_definition : List ℕ → ℕ → Bool
is_no_definition earlier literal = literal % 2 == 1 || literal == 0 || is_among earlier literal

-- the literal of an input line behind earlier ones
abbrev pub input_of : ℕ → List ℕ → TextLine → Result ℕ (List ℕ)
input_of m earlier line = do
  literal ← literal_of m line
  fault_if (is_no_definition earlier literal) (at_line line.number (codes ": bad definition"))
  Ok literal

-- the and-line behind the input lines and earlier and-lines
abbrev pub and_of : ℕ → List ℕ → List AndLine → TextLine → Result AndLine (List ℕ)
and_of m inputs earlier line = do
  gate ← gate_of m line
  fault_if (is_no_definition (inputs ++ map (λ line. line.defined) earlier) gate.defined)
      (at_line line.number (codes ": bad definition"))
  Ok gate

-- ---- the text

-- The lines behind the header: the inputs, then the outputs, then the and-lines. What follows them is not read.
abbrev pub circuit_of : Header → List TextLine → Result Circuit (List ℕ)
circuit_of h lines = do
  fault_if (nat_lt (length lines) (stated_lines h)) (counts (stated_lines h) (length lines))
  inputs ← each_after (input_of h.variables) [] (take h.inputs lines)
  outputs ← each (literal_of h.variables) (take h.outputs (drop h.inputs lines))
  ands ← each_after (and_of h.variables inputs) [] (take h.ands (drop (h.inputs + h.outputs) lines))
  Ok (record { variables = h.variables; inputs = inputs; outputs = outputs; ands = ands })

-- a literal is a constant, or a line defines its variable
abbrev pub is_defined : Circuit → ℕ → Bool
is_defined c literal = nat_lt literal 2 || is_among (definitions c) literal

-- Each output and each right side is defined. Places count from 0 and lines from 1, so the first input has the line 2.
abbrev pub all_defined : Header → Circuit → Result (Unit {0}) (List ℕ)
all_defined h c = do
  fault_for (λ place. at_line (2 + h.inputs + place) (codes ": undefined literal"))
      (position (λ output. not (is_defined c output)) c.outputs)
  fault_for (λ place. at_line (2 + h.inputs + h.outputs + place) (codes ": undefined literal"))
      (position (λ line. not (is_defined c line.first && is_defined c line.second)) c.ands)

-- no and-line lies on a cycle
abbrev pub no_cycle : Header → Circuit → Result (Unit {0}) (List ℕ)
no_cycle h c = fault_for (λ place. at_line (2 + h.inputs + h.outputs + place) (codes ": cycle"))
    (find (is_on_cycle c.ands) (range_with_len 0 (length c.ands)))

-- the circuit of lines, of which the first is the header
abbrev pub circuit_of_lines : List TextLine → Result Circuit (List ℕ)
circuit_of_lines [] = Err (codes ": no header")
circuit_of_lines (first ∷ lines) = do
  header ← header_in_range first.words
  circuit ← circuit_of header lines
  all_defined header circuit
  no_cycle header circuit
  Ok circuit

-- the circuit of a text, or the text of its first fault
unfoldable pub aiger : List ℕ → Result Circuit (List ℕ)
aiger bytes = circuit_of_lines (numbered_lines bytes)

-- ---- what a reader answers

-- the text of a fault, after the file's name
abbrev pub aiger_fault_text : AigerFault → List ℕ
aiger_fault_text fault.NoHeader = codes ": no header"
aiger_fault_text (fault.BadHeader n) = at_line n (codes ": bad header")
aiger_fault_text (fault.VariablesRange n) = codes ": variables out of range: " ++ number_text n
aiger_fault_text (fault.Latches n) = codes ": latches: " ++ number_text n
aiger_fault_text (fault.OutputsRange n) = codes ": outputs out of range: " ++ number_text n
aiger_fault_text (fault.IndexRange n) = codes ": index out of range: " ++ number_text n
aiger_fault_text (fault.CountDiffers s f) = counts s f
aiger_fault_text (fault.BadLine n) = at_line n (codes ": bad line")
aiger_fault_text (fault.LiteralRange n) = at_line n (codes ": literal out of range")
aiger_fault_text (fault.BadDefinition n) = at_line n (codes ": bad definition")
aiger_fault_text (fault.Undefined n) = at_line n (codes ": undefined literal")
aiger_fault_text (fault.Cycle n) = at_line n (codes ": cycle")
aiger_fault_text fault.OutOfMemory = []

-- a reading has the text of this fault; OutOfMemory says nothing of it
abbrev pub Fails : {Y : Type 0} → AigerFault → Result Y (List ℕ) → Type 0
Fails fault.OutOfMemory reading = Unit {0}
Fails found reading = reading ≡ Err (aiger_fault_text found)

-- The answer, as view sees it, is what the reading gives, unless memory ran out.
abbrev pub Gives : {X Y : Type 0} → (X → Y) → Result X AigerFault → Result Y (List ℕ) → Type 0
Gives view (Ok x) reading = reading ≡ Ok (view x)
Gives view (Err e) reading = Fails e reading

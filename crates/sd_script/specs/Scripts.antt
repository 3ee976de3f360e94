-- The commands that the text of a script stands for, or the text of its first fault, behind the name of the file.
use Rattle.std.specs.Prelude.{◌≡◌, ℕ, ◌-◌, ◌*◌, ◌==◌, Bool, true, not, ◌&&◌, nat_le, nat_lt, if◌then◌else◌}
use Rattle.std.specs.Prelude.{List, [], ◌∷◌, ◌++◌, codes, flat_map, count_by, ok_or, Result, Ok, Err}
use Rattle.std.specs.List.{list_any, list_all}
use Rattle.sd_base.specs.Lines.{TextLine, numbered_lines, is_content}
use Rattle.sd_base.specs.Reading.{◌>>=◌, ◌>>◌, fault_if, each_to}
use Rattle.sd_script.specs.declared.command.Action.{Action}
use Rattle.sd_script.specs.declared.command.Action.TheVariants.{Input, Output, Turn, Minimise, Limit}
use Rattle.sd_script.specs.declared.command.Command.{Command}
use Rattle.sd_script.specs.declared.fault.ScriptFault.{ScriptFault}
use Rattle.sd_script.specs.declared.fault.ScriptFault.TheVariants.{OutOfMemory}
use Rattle.sd_base.specs.FaultTexts.{at_line}
use Rattle.sd_script.specs.Faults.{script_fault_text}
use Rattle.sd_script.specs.Footprints.{footprint, has, bound}
pub use Rattle.sd_script.specs.Forms.{is_within}
pub use Rattle.sd_script.specs.Table.{Script, empty, see_all}
unfoldable pub use Rattle.sd_script.specs.Table.{see, number_of_word, command_of}

-- ---- a command after earlier ones, over the variables 1 to v and a circuit of o outputs, or a formula where o is 0

-- an output is one of the circuit's, a place is a position of the vtree, there are 1 to 100 rounds, and a limit is
-- 1 to 268,435,456
abbrev pub numbers_fit : ℕ → ℕ → Action → Bool
numbers_fit v o (Output n index) = nat_lt index o
numbers_fit v o (Turn kind p) = nat_le p (2 * v - 2)
numbers_fit v o (Minimise rounds) = is_within 1 100 rounds
numbers_fit v o (Limit k) = is_within 1 268435456 k
numbers_fit v o action = true

-- a formula is there for a command that binds it; a circuit has none
abbrev pub formula_fits : ℕ → Action → Bool
formula_fits o (Input n) = o == 0
formula_fits o action = true

-- a literal is of a variable, and what is forgotten is a variable
abbrev pub literals_fit : ℕ → Action → Bool
literals_fit v action = list_all (is_within 1 v) (footprint action).variables

-- the tests of a command, in their order, each with the text of its fault
abbrev pub checked : ℕ → ℕ → List Command → ℕ → Action → Result (Unit {0}) (List ℕ)
checked v o earlier line action = let said = footprint action in do
  fault_if (not (list_all (has (bound earlier)) said.uses)) (at_line line (codes ": name unknown"))
  fault_if (list_any (has (bound earlier)) said.binds) (at_line line (codes ": name taken"))
  fault_if (not (literals_fit v action)) (at_line line (codes ": literal out of range"))
  fault_if (not (numbers_fit v o action)) (at_line line (codes ": number out of range"))
  fault_if (list_any (has (flat_map (λ c. (footprint c.action).writes) earlier)) said.writes)
      (at_line line (codes ": file named twice"))
  fault_if (said.loads && nat_le 64 (count_by (λ c. (footprint c.action).loads) earlier))
      (at_line line (codes ": too many loads"))
  fault_if (not (formula_fits o action)) (at_line line (codes ": no formula"))
  Ok tt

-- a script with a command behind the others
abbrev pub with_command : ℕ → Action → Script → Script
with_command line action s =
    record s { commands = s.commands ++ record { line = line; action = action } ∷ [] }

-- the same, where the command has no fault
abbrev pub with_action : ℕ → ℕ → ℕ → Action → Script → Result Script (List ℕ)
with_action v o line action s = do
  checked v o s.commands line action
  Ok (with_command line action s)

-- a script with the command of a line behind the others
abbrev pub with_line : ℕ → ℕ → Script → TextLine → Result Script (List ℕ)
with_line v o s line = do
  (action, seen) ← ok_or (command_of v s line.words) (at_line line.number (codes ": bad line"))
  with_action v o line.number action seen

-- ---- the lines of a text

-- a script after one more line: blank lines and comments, which begin with # (byte 35), say nothing
abbrev pub after_line : ℕ → ℕ → Script → TextLine → Result Script (List ℕ)
after_line v o script line = do
  fault_if (nat_lt 100000 line.number) (codes ": too many lines")
  if is_content 35 line then with_line v o script line else Ok script

-- a script after more lines
abbrev pub after_lines : ℕ → ℕ → Script → List TextLine → Result Script (List ℕ)
after_lines v o = each_to (after_line v o)

-- The script that a text stands for over the variables 1 to v and a circuit of o outputs (0 for a formula), or the
-- fault of the first line that has one, as the line of the end tells it after the file's name.
unfoldable pub script_of : ℕ → ℕ → List ℕ → Result Script (List ℕ)
script_of v o bytes = after_lines v o empty (numbered_lines bytes)

-- ---- what a reader answers

-- a reading has the text of this fault; OutOfMemory says nothing of it
abbrev pub Fails : {Y : Type 0} → ScriptFault → Result Y (List ℕ) → Type 0
Fails OutOfMemory reading = Unit {0}
Fails fault reading = reading ≡ Err (script_fault_text fault)

-- The answer, as view sees it, is what the reading gives, unless memory ran out.
abbrev pub Gives : {X Y : Type 0} → (X → Y) → Result X ScriptFault → Result Y (List ℕ) → Type 0
Gives view (Ok x) reading = reading ≡ Ok (view x)
Gives view (Err e) reading = Fails e reading

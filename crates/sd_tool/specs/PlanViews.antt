-- What contracts see of a plan of the code.
use Rattle.std.specs.Prelude.{◌≡◌, ℕ, ◌≤◌, List, [], ◌∷◌, ◌++◌, length, Option, Some, None}
use Rattle.std.specs.Option.{option_to_list}
use Rattle.sd_model.specs.Tree.{leaves}
use Rattle.sd_vtree.specs.Numbered.{plain_tree}
use Rattle.sd_commands.specs.Commands.{State}
use Rattle.sd_commands.specs.Fits.{AllFit}
use Rattle.sd_commands.specs.Standing.{Represents, start, root_count}
use Rattle.sd_commands.specs.declared.command.NumberedCommand.{NumberedCommand}
use Rattle.sd_commands.specs.declared.command.RunCommand.TheVariants as commands
use Rattle.sd_commands.specs.declared.state.RunState.{RunState}
use Rattle.sd_tool.specs.inside.Readings.{in_lines, search_of}
use Rattle.sd_tool.specs.inside.Plans.{Plan}
use Rattle.sd_tool.specs.declared.plan.Opening.{Opening}
use Rattle.sd_tool.specs.declared.plan.Opening.TheVariants.{Nothing, Parts, Choice}
use Rattle.sd_tool.specs.declared.plan.RunPlan.{RunPlan}

-- the state without a name over the code's vtree and circuit, with its limit, slack and number for searches
abbrev pub start_of : RunState → State
start_of state = record (start (plain_tree state.manager.vtree) state.limit state.slack state.every) {
  circuit = state.shared.circuit.text;
}

-- the lines that workers do, before the others: those of a choice stand in the first line, and its input does too
abbrev pub opening_commands : Opening → List NumberedCommand
opening_commands Nothing = []
opening_commands (Parts count) = in_lines 1 (commands.InputByParts 0 count ∷ [])
opening_commands (Choice rounds) =
    record { line = 1; command = commands.Choose rounds } ∷ in_lines 1 (commands.Input 0 ∷ search_of rounds)

-- the names that they leave bound
abbrev pub opened_names : Opening → List ℕ
opened_names Nothing = []
opened_names opening = 0 ∷ []

-- the formula, the state without names, and all lines in a row: the one that tells of a generated formula, those of the
-- opening, and the others
abbrev pub plan_of : RunPlan → Plan
plan_of plan = record {
  input = plan.formula;
  start = start_of plan.state;
  commands = option_to_list plan.told ++ opening_commands plan.opening ++ plan.commands.items;
}

-- the line tells of a generated formula, if it is there
abbrev pub IsTold : Option NumberedCommand → Type 0
IsTold None = Unit {0}
IsTold (Some line) = (variables groups : ℕ) × (line.command ≡ commands.Generated variables groups)

-- there are 1 to 64 parts, and a choice begins with neither a circuit nor searches behind groups
abbrev pub CanOpen : State → Opening → Type 0
CanOpen state Nothing = Unit {0}
CanOpen state (Parts count) = (1 ≤ count) × (count ≤ 64)
CanOpen state (Choice rounds) = state ≡ start state.tree state.limit state.slack None

-- The plan can be carried out: the code represents the state without names, over the formula's variables, there are 1
-- to 16 workers, and behind the opening each command can be done after those before it; there are at most 100,000.
pub record IsReady (plan : RunPlan) : Type 0 where
  pub represents : Represents plan.state (start_of plan.state)
  pub variables : leaves (plain_tree plan.state.manager.vtree) ≡ plan.formula.variables
  pub roots : root_count plan.state ≡ 0
  pub told : IsTold plan.told
  pub opens : CanOpen (start_of plan.state) plan.opening
  pub workers : (1 ≤ plan.workers) × (plan.workers ≤ 16)
  pub fit : AllFit plan.formula.variables (length plan.state.shared.circuit.text.outputs)
      (opened_names plan.opening) plan.commands.items
  pub within_limit : length plan.commands.items ≤ 100000

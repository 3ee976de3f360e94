-- Segments of the commands of a run, which follow one another, for the contracts of private functions.
use Rattle.std.specs.Prelude.{◌≡◌, ℕ, List, [], length, Option, Result, Ok, Err, unwrap_or}
use Rattle.sd_base.specs.Asked.{Request}
use Rattle.sd_model.specs.Tree.{leaves}
use Rattle.sd_formula.specs.Dimacs.{Groups}
use Rattle.sd_vtree.specs.Numbered.{plain_tree}
use Rattle.sd_manager.specs.Table.{Table}
use Rattle.sd_commands.specs.Effects.{Effect}
use Rattle.sd_commands.specs.Commands.{State, Steps}
use Rattle.sd_commands.specs.Fits.{AllFit}
use Rattle.sd_commands.specs.Opening.{IsOpeningStopped, IsStoppedByParts}
use Rattle.sd_commands.specs.Standing.{Represents, IsAsBefore, names_of}
use Rattle.sd_commands.specs.declared.command.NumberedCommand.{NumberedCommand}
use Rattle.sd_commands.specs.declared.command.RunCommand.TheVariants as commands
use Rattle.sd_commands.specs.declared.error.CommandError.{CommandError}
use Rattle.sd_commands.specs.declared.state.RunState.{RunState}
use Rattle.sd_tool.specs.Devices.{Faults}
use Rattle.sd_tool.specs.Effects.{Contents}
use Rattle.sd_tool.specs.PlanViews.{CanOpen}
use Rattle.sd_tool.specs.Stops.{RunsToEnd, stop_of}
use Rattle.sd_tool.specs.inside.Asks.{writings}
use Rattle.sd_tool.specs.inside.Course.{after_effects}
use Rattle.sd_tool.specs.inside.Plans.{Plan}
use Rattle.sd_tool.specs.declared.execution.Stages.{Stages}
use Rattle.sd_tool.specs.declared.plan.Opening.{Opening}
use Rattle.sd_tool.specs.declared.plan.RunPlan.{RunPlan}
use Rattle.sd_tool.specs.declared.stop.Halt.{Halt}
use Rattle.sd_tool.specs.declared.stop.Stop.{Stop}

-- these commands, from a state on
abbrev pub segment : Groups → State → List NumberedCommand → Plan
segment input state commands = record { input = input; start = state; commands = commands }

-- All commands of the plan are done, one after another up to this state, and what they ask for outside is done.
pub record AreDone (asks : List Request → Type 0) (plan : Plan) (state : State) (old new : Contents) : Type 0 where
  pub effects : List Effect
  pub steps : Steps plan.input plan.start plan.commands effects state
  pub asked : asks (writings effects)
  pub leaves : new ≡ after_effects effects old

-- the same, and the code represents the state after them
abbrev pub DoesAll : (List Request → Type 0) → Plan → RunState → Contents → Contents → Type 0
DoesAll asks plan code old new = (state : State) × AreDone asks plan state old new × Represents code state

-- the manager of a halt: its own, or else that of the state
abbrev pub refuser : Halt → Table → Table
refuser halt manager = unwrap_or halt.manager manager

-- The code does all commands of the plan, or the run ends among them, at this halt.
abbrev pub RunsSegment : (List Request → Type 0) → Plan → RunState → Result (Unit {0}) Halt → Contents → Contents
    → Faults → Faults → Type 0
RunsSegment asks plan code (Ok done) old new before now = DoesAll asks plan code old new
RunsSegment asks plan code (Err halt) old new before now =
    RunsToEnd asks plan (refuser halt code.manager) (Err halt.stop) old new before now

-- the result without the manager of a halt
abbrev pub stop_result : Result (Unit {0}) Halt → Result (Unit {0}) Stop
stop_result (Ok done) = Ok done
stop_result (Err halt) = Err halt.stop

-- The code represents this state, over the variables of the input, and each of the commands can be done in it, after
-- those before it.
pub record CanRun (input : Groups) (code : RunState) (seen : State) (commands : List NumberedCommand) : Type 0 where
  pub represents : Represents code seen
  pub variables : leaves (plain_tree code.manager.vtree) ≡ input.variables
  pub fit : AllFit input.variables (length seen.circuit.outputs) (names_of seen) commands

-- The code represents this state, over the variables of the input, no name is bound, and the opening can be done.
pub record CanBegin (input : Groups) (code : RunState) (seen : State) (opening : Opening) : Type 0 where
  pub represents : Represents code seen
  pub variables : leaves (plain_tree code.manager.vtree) ≡ input.variables
  pub none : seen.names ≡ []
  pub opens : CanOpen seen opening

-- an input is not bound by so many parts in this state, at this halt, and the code is as it was
pub record StopsByParts (input : Groups) (seen : State) (count : ℕ) (old new : RunState) (halt : Halt) : Type 0 where
  pub error : CommandError
  pub stopped : IsStoppedByParts input seen (commands.InputByParts 0 count) new.manager error halt.manager
  pub is : halt.stop ≡ stop_of 1 error
  pub same : IsAsBefore old new

-- no start is chosen in this state, at this halt
pub record StopsChoosing (input : Groups) (seen : State) (rounds : Option ℕ) (halt : Halt) : Type 0 where
  pub error : CommandError
  pub stopped : IsOpeningStopped input seen (commands.Choose rounds) error halt.manager
  pub is : halt.stop ≡ stop_of 1 error

-- the plan of these stages
abbrev pub plan_in : Groups → RunState → Stages → RunPlan
plan_in formula state stages = record {
  formula = formula;
  state = state;
  told = stages.told;
  opening = stages.opening;
  workers = stages.workers;
  commands = stages.commands;
}

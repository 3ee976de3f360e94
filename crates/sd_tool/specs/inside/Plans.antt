-- What commands begin with, as one value, for the contracts of private functions and for proofs.
use Rattle.std.specs.Prelude.{List, ◌++◌}
use Rattle.sd_model.specs.Circuit.{Circuit}
use Rattle.sd_model.specs.Tree.{Tree}
use Rattle.sd_formula.specs.Dimacs.{Groups}
use Rattle.sd_words.specs.declared.jobs.Job.{Job}
use Rattle.sd_commands.specs.Commands.{State}
use Rattle.sd_commands.specs.declared.command.NumberedCommand.{NumberedCommand}
use Rattle.sd_tool.specs.Readings.{Point, Stands, announcement, choice, first_state}

-- the input, the first state, and all commands
pub record Plan : Type 0 where
  pub input : Groups
  pub start : State
  pub commands : List NumberedCommand

-- the point before all of them
abbrev pub point_of : Plan → Point
point_of plan = Stands plan.input plan.start plan.commands

-- what commands begin with: the formula, the job's first state over the circuit and the tree, and its opening lines
abbrev pub plan_for : Job → Groups → Circuit → Tree → List NumberedCommand → Plan
plan_for job formula circuit tree commands = record {
  input = formula;
  start = first_state job tree circuit;
  commands = announcement job.input formula ++ (choice job ++ commands);
}

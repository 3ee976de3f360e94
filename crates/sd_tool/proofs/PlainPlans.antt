-- The plan of a plain job: its formula is compiled whole, over the start tree of the words.
use Rattle.std.proofs.Common.{◌≡◌, ℕ, Bool, false, List, [], ◌∷◌, ◌++◌, Option, None, ap, ◌∙◌}
use Rattle.std.specs.Option.{option_map_or}
use Rattle.std.specs.Prelude.{if◌then◌else◌}
use Rattle.sd_model.specs.Tree.{Tree}
use Rattle.sd_formula.specs.Dimacs.{Groups}
use Rattle.sd_words.specs.declared.jobs.Job.{Job}
use Rattle.sd_commands.specs.Commands.{no_circuit}
use Rattle.sd_commands.specs.Standing.{start}
use Rattle.sd_commands.specs.declared.command.NumberedCommand.{NumberedCommand}
use Rattle.sd_commands.specs.declared.command.RunCommand.TheVariants as commands
use Rattle.sd_tool.specs.Readings.{announcement, choice, default_of}
use Rattle.sd_tool.specs.Written.{IsPlainJob}
use Rattle.sd_tool.specs.inside.Plans.{Plan, plan_for}
use Rattle.sd_tool.specs.inside.Readings.{in_lines, for_file, search_of}

-- its commands: two to five lines
abbrev pub stated : Job → List NumberedCommand
stated job = in_lines 1 (commands.Input 0 ∷ search_of job.minimise ++ for_file commands.WriteVtree job.out_vtree
    ++ for_file (commands.Write (0 ∷ [])) job.out_sdd ++ commands.Size 0 ∷ [])

-- the plan of a formula and a tree, where no start is chosen
abbrev pub formula_plan : Job → Groups → Tree → List NumberedCommand → Plan
formula_plan job formula tree commands = record {
  input = formula;
  start = start tree job.limit job.slack job.every;
  commands = announcement job.input formula ++ commands;
}

-- the plan of a plain job
abbrev pub plain_plan : Job → Groups → Tree → Plan
plain_plan job formula tree = formula_plan job formula tree (stated job)

pub formula_plan_is : (job : Job) (formula : Groups) (tree : Tree) (cs : List NumberedCommand) → choice job ≡ []
    → plan_for job formula no_circuit tree cs ≡ formula_plan job formula tree cs
formula_plan_is job formula tree cs none =
    ap (λ (chosen : List NumberedCommand). record {
      input = formula;
      start = start tree job.limit job.slack job.every;
      commands = announcement job.input formula ++ (chosen ++ cs);
    }) none

-- no start is chosen
no_choice_of : (job : Job) → job.portfolio ≡ false → choice job ≡ []
no_choice_of job is =
    ap (λ (b : Bool). if b then record { line = 1; command = commands.Choose job.minimise } ∷ [] else []) is

-- and the formula is compiled whole
stated_is : (job : Job) → job.parts ≡ None → default_of job 0 ≡ stated job
stated_is job is =
    ap (λ (parts : Option ℕ). in_lines 1 (option_map_or (commands.InputByParts 0) parts (commands.Input 0)
    ∷ search_of job.minimise ++ for_file commands.WriteVtree job.out_vtree
    ++ for_file (commands.Write (0 ∷ [])) job.out_sdd ++ commands.Size 0 ∷ [])) is

-- so its plan is that one
pub plain_is : (job : Job) (formula : Groups) (tree : Tree) → IsPlainJob job
    → plan_for job formula no_circuit tree (default_of job 0) ≡ plain_plan job formula tree
plain_is job formula tree plain =
    formula_plan_is job formula tree (default_of job 0) (no_choice_of job plain.settled)
    ∙ ap (formula_plan job formula tree) (stated_is job plain.whole)

-- How the answers of parts are joined and bound to a name, for the contracts of private functions.
use Rattle.std.specs.Prelude.{◌≡◌, ◌≤◌, List, [], ◌∷◌, length, Option, Some, None, Result, Ok, Err}
use Rattle.std.specs.List.{AllZip}
use Rattle.sd_formula.specs.Dimacs.{Groups}
use Rattle.sd_vtree.specs.Numbered.{plain_tree}
use Rattle.sd_manager.specs.Table.{Table}
use Rattle.sd_compile.specs.declared.error.CompileError.{CompileError}
use Rattle.sd_records.specs.Records.{FlatDiagram}
use Rattle.sd_parts.specs.Work.{AnswersPart, parts_of}
use Rattle.sd_parts.specs.declared.part.PartAnswer.{PartAnswer}
use Rattle.sd_starts.specs.Deciding.{kept_at}
use Rattle.sd_commands.specs.Commands.{State, OverLimit, Step}
use Rattle.sd_commands.specs.Standing.{StopsAt, error_of_compiling}
use Rattle.sd_commands.specs.declared.command.RunCommand.{RunCommand}
use Rattle.sd_commands.specs.declared.error.CommandError.{CommandError}
use Rattle.sd_commands.specs.declared.error.CommandError.TheVariants as errors
use Rattle.sd_commands.specs.declared.state.RunState.{RunState}

-- the answers of 1 to 64 parts of the input at the tree and under the limit of the state, whose arenas have the whole
-- bound
pub record AreWholeAnswers (input : Groups) (code : RunState) (answers : List PartAnswer)
    : Type 0 where
  pub at_least_one : 1 ≤ length answers
  pub at_most : length answers ≤ 64
  pub each : AllZip AnswersPart (parts_of input (plain_tree code.manager.vtree) code.limit
      2147483647 (length answers)) answers

-- the manager of a part that was refused, if its arena was full; where the part was compiled, this other one
abbrev pub manager_or : Result FlatDiagram CompileError → Table → Option Table → Option Table
manager_or (Ok records) m other = other
manager_or (Err e) m other = kept_at e m

-- the manager of the first part that was refused, if its arena was full
abbrev pub refusing_manager : List PartAnswer → Option Table
refusing_manager [] = None
refusing_manager (a ∷ answers) = manager_or a.outcome a.manager (refusing_manager answers)

-- the step of a refusal that tells of a limit
abbrev pub PassesAt : Groups → State → RunCommand → CommandError → Type 0
PassesAt input seen command (errors.OverLimit group size limit) =
    Step input seen command (OverLimit group size limit)
PassesAt input seen command (errors.ArenaFull elements) = Unit {0}
PassesAt input seen command errors.NotMovable = ⊥
PassesAt input seen command errors.OutOfMemory = Unit {0}

-- Why the answers of parts are not joined and bound, by the first refusal among them: where there is none, as the
-- command stops with the state's manager, and else as the refusal says.
abbrev pub IsJoinStopped : Groups → State → RunCommand → Option CompileError → Table → CommandError
    → Type 0
IsJoinStopped input seen command None own error = StopsAt input seen command own error
IsJoinStopped input seen command (Some refusal) own error =
    (error ≡ error_of_compiling refusal) × PassesAt input seen command error

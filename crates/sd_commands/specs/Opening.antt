-- The opening of a run by workers: an input that is bound by parts, and a start that is chosen.
use Rattle.std.specs.Prelude.{◌≡◌, ℕ, [], ◌∷◌, Option, Some, None}
use Rattle.sd_model.specs.Tree.{Tree}
use Rattle.sd_formula.specs.Dimacs.{Groups}
use Rattle.sd_vtree.specs.Numbered.{plain_tree}
use Rattle.sd_manager.specs.Table.{Table}
use Rattle.sd_starts.specs.Starts.{IsFirstFull}
use Rattle.sd_starts.specs.declared.start.Settings.{Settings}
use Rattle.sd_search.specs.declared.searching.Outcome.{Outcome as SearchOutcome}
use Rattle.sd_commands.specs.Commands.{State, Done, NotMovable, OverLimit, Step, MayFill, search_line}
use Rattle.sd_commands.specs.Standing.{Represents, HoldsNames, IsFilled, IsTreeLeft, StepsTo, StopsAt}
use Rattle.sd_commands.specs.Standing.{start, effect_of}
use Rattle.sd_commands.specs.declared.command.RunCommand.{RunCommand}
use Rattle.sd_commands.specs.declared.command.RunCommand.TheVariants as commands
use Rattle.sd_commands.specs.declared.command.Effect.{Effect as CodeEffect}
use Rattle.sd_commands.specs.declared.command.Effect.TheVariants.{PrintLine}
use Rattle.sd_commands.specs.declared.error.CommandError.{CommandError}
use Rattle.sd_commands.specs.declared.error.CommandError.TheVariants as errors
use Rattle.sd_commands.specs.declared.opening.Opened.{Opened}
use Rattle.sd_commands.specs.declared.state.RunState.{RunState}

-- ---- where it stops

-- The arena of a manager beside the state's was full, where the command may need one. It holds nothing, over a tree
-- that the command may leave.
pub record IsFullBeside (input : Groups) (seen : State) (command : RunCommand) (elements : ℕ)
    (m : Table)
    : Type 0 where
  pub may_fill : MayFill seen command
  pub filled : IsFilled elements m
  pub tree : IsTreeLeft input seen command (plain_tree m.vtree)
  pub nothing : HoldsNames m []

-- such a manager is handed back with the error that tells of its arena, and with no other
abbrev pub IsHandedBack : Groups → State → RunCommand → CommandError → Table → Type 0
IsHandedBack input seen command (errors.ArenaFull elements) m =
    IsFullBeside input seen command elements m
IsHandedBack input seen command (errors.OverLimit group size limit) m = ⊥
IsHandedBack input seen command errors.NotMovable m = ⊥
IsHandedBack input seen command errors.OutOfMemory m = ⊥

-- Why an input is not bound by parts: as the command stops with the state's manager, or since the arena of a part was
-- full, whose manager is handed back.
abbrev pub IsStoppedByParts : Groups → State → RunCommand → Table → CommandError → Option Table
    → Type 0
IsStoppedByParts input seen command own error None = StopsAt input seen command own error
IsStoppedByParts input seen command own error (Some m) = IsHandedBack input seen command error m

-- the command stops, and not since an arena was full
abbrev pub StopsWithRoom : Groups → State → RunCommand → CommandError → Type 0
StopsWithRoom input seen command (errors.OverLimit group size limit) =
    Step input seen command (OverLimit group size limit)
StopsWithRoom input seen command (errors.ArenaFull elements) = ⊥
StopsWithRoom input seen command errors.NotMovable = Step input seen command NotMovable
StopsWithRoom input seen command errors.OutOfMemory = Unit {0}

-- Why a run is not opened: the command stops, and where an arena was full its manager is handed back.
abbrev pub IsOpeningStopped : Groups → State → RunCommand → CommandError → Option Table → Type 0
IsOpeningStopped input seen command error None = StopsWithRoom input seen command error
IsOpeningStopped input seen command error (Some m) = IsHandedBack input seen command error m

-- a manager that a choice hands back is that of a start whose arena was full, where the work at each start before it
-- may have had room
abbrev pub IsOfFirstFull : Groups → Settings → CommandError → Option Table → Type 0
IsOfFirstFull input settings (errors.ArenaFull elements) (Some m) =
    IsFirstFull input settings elements m
IsOfFirstFull input settings error manager = Unit {0}

-- ---- a run that is opened by a choice

-- the state at the start of a run over a tree, with these settings
abbrev pub start_at : Tree → Settings → State
start_at tree settings = start tree settings.limit settings.slack None

-- behind the input a search follows, where one is asked for
abbrev pub FollowsInput : Groups → State → Option ℕ → RunState → Option CodeEffect → Type 0
FollowsInput input state None code effect = (effect ≡ None) × Represents code state
FollowsInput input state (Some rounds) code effect =
    StepsTo input state (commands.Minimise rounds) code effect

-- In this state a start is chosen, with a line that tells it, the input is bound to the name 0, and then a search is
-- done, where one is asked for. The code represents the state behind them.
pub record OpensChosen (input : Groups) (seen : State) (rounds : Option ℕ) (opened : Opened)
    : Type 0 where
  pub chosen : State
  pub bound : State
  pub choose : Step input seen (commands.Choose rounds) (Done chosen (effect_of opened.told ∷ []))
  pub bind : Step input chosen (commands.Input 0) (Done bound [])
  pub search : FollowsInput input bound rounds opened.state opened.searched

-- the line of a search that was done, as an effect
abbrev pub told_search : Option SearchOutcome → Option CodeEffect
told_search None = None
told_search (Some found) = Some (PrintLine (search_line found.before found.after found.rounds))

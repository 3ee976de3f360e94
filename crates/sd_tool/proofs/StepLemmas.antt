-- One command of a run, and what is done outside.
use Rattle.std.proofs.Common.{◌≡◌, ℕ, ◌+◌, ◌<◌, ◌≤◌, Option, Err, List, [], ◌∷◌, ◌++◌, length, drop}
use Rattle.std.proofs.Common.{get_or, refl, sym, ap, subst, ◌∙◌, arith, add-one}
use Rattle.std.proofs.lemmas.List.{append-nil}
use Rattle.std.proofs.lemmas.List.Concat.{flat_map-append}
use Rattle.std.proofs.Math.Seq.{drop-cons}
use Rattle.sd_base.specs.Asked.{Request}
use Rattle.sd_base.specs.Faults.{Rose}
use Rattle.sd_base.specs.Files.{Files}
use Rattle.sd_formula.specs.Dimacs.{Groups}
use Rattle.sd_manager.specs.Table.{Table}
use Rattle.sd_commands.specs.Effects.{Effect, Write, Print}
use Rattle.sd_commands.specs.Commands.{State, Done, Step}
use Rattle.sd_vtree.specs.Numbered.{plain_tree}
use Rattle.sd_commands.specs.Standing.{StopsAt, IsTreeLeft, HoldsNames, effects_of}
use Rattle.sd_commands.specs.declared.command.Effect.{Effect as CodeEffect}
use Rattle.sd_commands.specs.declared.command.NumberedCommand.{NumberedCommand}
use Rattle.sd_commands.specs.declared.command.RunCommand.{RunCommand}
use Rattle.sd_commands.specs.declared.error.CommandError.{CommandError}
use Rattle.sd_commands.specs.declared.error.CommandError.TheVariants as errors
use Rattle.sd_tool.specs.Effects.{Contents, after_effect}
use Rattle.sd_tool.specs.Course.{asked_by}
use Rattle.sd_tool.specs.Ends.{Unwritable, OutOfMemory as NoMemory, ArenaFull as NoRoom, OverLimit as Passes}
use Rattle.sd_tool.specs.Ends.{NotMovable as StaysPut}
use Rattle.sd_tool.specs.Devices.{Faults, HasReason}
use Rattle.sd_tool.specs.inside.Devices.{NotFewer}
use Rattle.sd_tool.specs.inside.Asks.{writings}
use Rattle.sd_tool.specs.inside.Course.{IsAtCommand, after_effects}
use Rattle.sd_tool.specs.inside.Segments.{segment, AreDone}
use Rattle.sd_tool.specs.Stops.{FailsAt, RunsToEnd, stop_of}
use Rattle.sd_tool.specs.declared.stop.Stop.{Stop}
use Rattle.sd_tool.proofs.Fronts.{does_part}

-- the contents after two lists of effects
pub after_append : (first others : List Effect) (old : Contents)
    → after_effects (first ++ others) old ≡ after_effects others (after_effects first old)
after_append [] others old = refl
after_append (effect ∷ first) others old = after_append first others (after_effect effect old)

-- the writings of two lists of effects
pub writings_append : (first others : List Effect) → writings (first ++ others) ≡ writings first ++ writings others
writings_append first others = flat_map-append asked_by first others

-- counts that do not fall twice do not fall
pub no_fewer : (first mid last : Faults) → NotFewer first mid → NotFewer mid last → NotFewer first last
no_fewer first mid last a b = record {
  read = omega (arith, a.read, b.read);
  write = omega (arith, a.write, b.write);
  print = omega (arith, a.print, b.print);
}

-- a later count that rose, rose since the start
rose_since : (first mid last : ℕ) → first ≤ mid → Rose mid last → Rose first last
rose_since first mid last later rose = omega arith

-- so a device fault of a later command has its cause in the whole run
pub cause_since : (effect : Effect) (files others : Option Files) (first mid last : Faults) → NotFewer first mid
    → HasReason (Unwritable effect) files mid last → HasReason (Unwritable effect) others first last
cause_since (Write file bytes) files others first mid last fewer rose =
    rose_since first.write mid.write last.write fewer.write rose
cause_since (Print line) files others first mid last fewer rose =
    rose_since first.print mid.print last.print fewer.print rose

-- the command stands at this place
pub record IsNext (commands : List NumberedCommand) (index : ℕ) (command : NumberedCommand) : Type 0 where
  pub within : index < length commands
  pub is : command ≡ get_or commands index command

-- the commands from the index on are this one and those after it
pub left_at : (commands : List NumberedCommand) (index : ℕ) (command : NumberedCommand) → IsNext commands index command
    → drop index commands ≡ command ∷ drop (index + 1) commands
left_at commands index command next =
    drop-cons commands index command next.within
    ∙ ap (λ n. get_or commands index command ∷ drop n commands) (sym (add-one index))
    ∙ ap (λ c. c ∷ drop (index + 1) commands) (sym next.is)

-- ---- one command

-- the command in hand is the only one
at_one : (input : Groups) (state : State) (c : NumberedCommand)
    → IsAtCommand (segment input state (c ∷ [])) [] state c
at_one input state c = record { left = []; reaches = record { done = []; in_order = refl; steps = (refl, refl) } }

-- it is done with this effect
pub one_done : {asks : List Request → Type 0} (input : Groups) (state next : State) (c : NumberedCommand)
    (asked : Option CodeEffect) (old new : Contents) → Step input state c.command (Done next (effects_of asked))
    → new ≡ after_effects (effects_of asked) old → asks (writings (effects_of asked))
    → AreDone asks (segment input state (c ∷ [])) next old new
one_done input state next c asked old new step does asked_so = record {
  effects = effects_of asked;
  steps = (next, effects_of asked, [], step, (refl, refl), sym (append-nil (effects_of asked)));
  asked = asked_so;
  leaves = does;
}

-- its effect fails
pub one_fails : {asks : List Request → Type 0} (input : Groups) (state next : State) (c : NumberedCommand)
    (asked : Option CodeEffect) (t : Table) (stop : Stop) (old new : Contents) (before now : Faults)
    → Step input state c.command (Done next (effects_of asked)) → FailsAt stop (effects_of asked) old new before now
    → asks (writings (effects_of asked)) → RunsToEnd asks (segment input state (c ∷ [])) t (Err stop) old new before now
one_fails {asks = asks} input state next c asked t stop old new before now step fails asks_so = record {
  end = Unwritable fails.effect;
  at = fails.at;
  effects = [];
  ends = (
    state,
    c,
    at_one input state c,
    (next, subst (λ (l : List Effect). Step input state c.command (Done next l)) fails.one step),
  );
  asked = subst (λ (l : List Effect). asks (writings l)) fails.one asks_so;
  full_at = tt;
  leaves = does_part fails.effect old new fails.part;
  reason = fails.reason;
}

-- where an arena was full, the manager that refused has a tree that the command may leave, and holds the names
abbrev pub LeavesAt : Groups → State → RunCommand → Table → CommandError → Type 0
LeavesAt input state command t (errors.ArenaFull n) =
    IsTreeLeft input state command (plain_tree t.vtree) × HoldsNames t state.names
LeavesAt input state command t error = Unit {0}

-- it stops
pub one_stops : {asks : List Request → Type 0} (input : Groups) (state : State) (c : NumberedCommand) (t : Table)
    (error : CommandError) (old new : Contents) (before now : Faults) → asks [] → new ≡ old
    → StopsAt input state c.command t error → LeavesAt input state c.command t error
    → RunsToEnd asks (segment input state (c ∷ [])) t (Err (stop_of c.line error)) old new before now
one_stops input state c t (errors.OverLimit group size limit) old new before now none same stops left = record {
  end = Passes c.line group size limit;
  at = record { status = refl; text = refl; stopped = λ e. cc };
  effects = [];
  ends = (state, c, at_one input state c, refl, stops);
  asked = none;
  full_at = tt;
  leaves = same;
  reason = tt;
}
one_stops input state c t errors.NotMovable old new before now none same stops left = record {
  end = StaysPut c.line;
  at = record { status = refl; text = refl; stopped = λ e. cc };
  effects = [];
  ends = (state, c, at_one input state c, refl, stops);
  asked = none;
  full_at = tt;
  leaves = same;
  reason = tt;
}
one_stops input state c t (errors.ArenaFull n) old new before now none same stops left = record {
  end = NoRoom n;
  at = record { status = refl; text = refl; stopped = λ e. cc };
  effects = [];
  ends = (state, c, at_one input state c, stops.0);
  asked = none;
  full_at = (
    stops.1,
    record {
      state = state;
      next = c;
      at = at_one input state c;
      needs = stops.0;
      left = left.0;
      holds = left.1;
    },
  );
  leaves = same;
  reason = tt;
}
one_stops input state c t errors.OutOfMemory old new before now none same stops left =
    let at = at_one input state c in record {
      end = NoMemory;
      at = record { status = refl; text = refl; stopped = λ e. cc };
      effects = [];
      ends = (state, c ∷ at.left, at.reaches);
      asked = none;
      full_at = tt;
      leaves = same;
      reason = tt;
    }

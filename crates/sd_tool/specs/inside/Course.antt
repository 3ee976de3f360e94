-- Where a run may go by its readings and then by its plan, without what it asks, for the contracts of private functions
-- and for proofs.
use Rattle.std.specs.Prelude.{◌≡◌, ◌⊎◌, ℕ, List, [], ◌∷◌, ◌++◌, fold, Option}
use Rattle.sd_base.specs.Files.{Files}
use Rattle.sd_commands.specs.Effects.{Effect}
use Rattle.sd_commands.specs.Commands.{State, Done, OverLimit as PassesLimit, NotMovable as Unmoved, Step, Steps}
use Rattle.sd_commands.specs.Commands.{MayFill}
use Rattle.sd_commands.specs.declared.command.NumberedCommand.{NumberedCommand}
use Rattle.sd_tool.specs.Effects.{Contents, after_effect, DoesPart}
use Rattle.sd_tool.specs.Ends.{End, Finished, Refused, Unreadable, Unwritable, OutOfMemory, ArenaFull, OverLimit}
use Rattle.sd_tool.specs.Ends.{NotMovable}
use Rattle.sd_tool.specs.Readings.{Point, Refuses, Reads, Stands, IsText, reading_of}
use Rattle.sd_tool.specs.inside.Plans.{Plan, point_of}

-- the contents after these effects, in order
abbrev pub after_effects : List Effect → Contents → Contents
after_effects effects contents = fold (λ before effect. after_effect effect before) contents effects

-- what an end leaves of these contents: where the effect in hand fails, with a part of it
abbrev pub EndLeaves : End → Contents → Contents → Type 0
EndLeaves (Unwritable effect) old new = DoesPart effect old new
EndLeaves end old new = new ≡ old

-- ---- the commands of a plan

-- The first commands of a plan are done with these effects, and the others are left.
pub record Reaches (plan : Plan) (effects : List Effect) (state : State) (left : List NumberedCommand) : Type 0 where
  pub done : List NumberedCommand
  pub in_order : done ++ left ≡ plan.commands
  pub steps : Steps plan.input plan.start done effects state

-- the same, and there is a next command
pub record IsAtCommand (plan : Plan) (effects : List Effect) (state : State) (next : NumberedCommand) : Type 0 where
  pub left : List NumberedCommand
  pub reaches : Reaches plan effects state (next ∷ left)

-- The run ends among its commands, after these effects: all are done, the effect of the next fails, for want of
-- memory, at a full arena, which the next may need, or where the next is refused since the total size passes the limit
-- or its place is not movable.
abbrev pub EndsAmong : Plan → List Effect → End → Type 0
EndsAmong plan effects Finished = (state : State) × Reaches plan effects state []
EndsAmong plan effects (Unwritable effect) =
    (state : State) × (next : NumberedCommand) × IsAtCommand plan effects state next
    × ((then_on : State) × Step plan.input state next.command (Done then_on (effect ∷ [])))
EndsAmong plan effects OutOfMemory = (state : State) × (left : List NumberedCommand) × Reaches plan effects state left
EndsAmong plan effects (ArenaFull elements) =
    (state : State) × (next : NumberedCommand) × IsAtCommand plan effects state next × MayFill state next.command
EndsAmong plan effects (OverLimit line group size limit) =
    (state : State) × (next : NumberedCommand) × IsAtCommand plan effects state next × (next.line ≡ line)
    × Step plan.input state next.command (PassesLimit group size limit)
EndsAmong plan effects (NotMovable line) =
    (state : State) × (next : NumberedCommand) × IsAtCommand plan effects state next × (next.line ≡ line)
    × Step plan.input state next.command Unmoved
EndsAmong plan effects end = ⊥

-- ---- the whole run

-- over these files, the readings come to this point
abbrev pub ReadsTo : Option Files → Point → Point → Type 0
ReadsTo files (Refuses answer) point = point ≡ Refuses answer
ReadsTo files (Stands input state left) point = point ≡ Stands input state left
ReadsTo files (Reads file next) point =
    (point ≡ Reads file next) ⊎ ((text : Option (List ℕ)) × IsText files file text × ReadsTo files (next text) point)

-- The run ends at its readings, before any command: refused, at a file that it asks for, or out of memory.
abbrev pub EndsReading : Option Files → Point → End → Type 0
EndsReading files reading (Refused answer) = ReadsTo files reading (Refuses answer)
EndsReading files reading (Unreadable file) = (next : _) × ReadsTo files reading (Reads file next)
EndsReading files reading OutOfMemory = Unit {0}
EndsReading files reading end = ⊥

-- After these effects, a run with these words over these files may come to this end.
abbrev pub MayEnd : List (List ℕ) → Option Files → List Effect → End → Type 0
MayEnd words files effects end =
    (EndsReading files (reading_of words) end × (effects ≡ []))
    ⊎ ((plan : Plan) × ReadsTo files (reading_of words) (point_of plan) × EndsAmong plan effects end)

-- the ends to which the words and the files alone lead
abbrev pub IsOwn : End → Type 0
IsOwn Finished = Unit {0}
IsOwn (Refused answer) = Unit {0}
IsOwn (OverLimit line group size limit) = Unit {0}
IsOwn (NotMovable line) = Unit {0}
IsOwn end = ⊥

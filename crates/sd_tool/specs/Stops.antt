-- What the stops and the effects of the code say, for the contracts of its private functions.
use Rattle.std.specs.Prelude.{Bool, true, false, ◌≡◌, ◌≢◌, ◌⊎◌, ℕ, ◌≤◌, List, [], ◌∷◌, ◌++◌, length, Option, Some}
use Rattle.std.specs.Prelude.{None, Result, Ok, Err, codes}
use Rattle.sd_base.specs.Asked.{Request}
use Rattle.sd_base.specs.Faults.{Rose}
use Rattle.sd_base.specs.Files.{Files, Lacks}
use Rattle.sd_base.specs.Shelf.{Hand, Reading}
use Rattle.sd_manager.specs.Table.{Table}
use Rattle.sd_commands.specs.Effects.{Effect, Write, Print}
use Rattle.sd_commands.specs.Standing.{IsFilled}
use Rattle.sd_commands.specs.declared.error.CommandError.{CommandError}
use Rattle.sd_commands.specs.declared.error.CommandError.TheVariants as errors
use Rattle.sd_tool.specs.Effects.{Contents}
use Rattle.sd_tool.specs.Readings.{Point, Refuses}
use Rattle.sd_tool.specs.Refusals.{refusal_answer}
use Rattle.sd_tool.specs.Ends.{End, Finished, Refused, Unreadable, Unwritable, OutOfMemory as NoMemory}
use Rattle.sd_tool.specs.Ends.{ArenaFull as NoRoom, OverLimit, NotMovable, status_of, text_of}
use Rattle.sd_tool.specs.Devices.{HasReason, Faults}
use Rattle.sd_tool.specs.inside.Asks.{ComesTo, AsksLast, BreaksOff, GoesTo, begun, writings}
use Rattle.sd_tool.specs.inside.Course.{EndLeaves, EndsAmong, after_effects}
use Rattle.sd_tool.specs.inside.Devices.{LeavesPart}
use Rattle.sd_tool.specs.inside.Kept.{HoldsAt, KeepsOf}
use Rattle.sd_tool.specs.inside.Plans.{Plan}
use Rattle.sd_tool.specs.Theorem.{HasFinished}
use Rattle.sd_tool.specs.declared.stop.Stop.{Stop}
use Rattle.sd_tool.specs.declared.stop.Stop.TheVariants as stops

-- the end that a stop stands for, as far as its status and its line go
abbrev pub end_of : Stop → End
end_of (stops.Refused refusal) = Refused (refusal_answer refusal)
end_of (stops.ReadFault file) = Unreadable file
end_of (stops.WriteFault file) = Unwritable (Write file [])
end_of stops.OutputFault = Unwritable (Print [])
end_of stops.OutOfMemory = NoMemory
end_of (stops.ArenaFull elements) = NoRoom elements
end_of (stops.NotMovable line) = NotMovable line
end_of (stops.OverLimit line group size limit) = OverLimit line group size limit

-- the status of a stop
abbrev pub stop_status : Stop → ℕ
stop_status stop = status_of (end_of stop)

-- the text of a stop's line
abbrev pub stop_text : Stop → List ℕ
stop_text stop = text_of (end_of stop)

-- the stop at a command of this line that is not done
abbrev pub stop_of : ℕ → CommandError → Stop
stop_of line (errors.OverLimit group size limit) = stops.OverLimit line group size limit
stop_of line errors.NotMovable = stops.NotMovable line
stop_of line (errors.ArenaFull elements) = stops.ArenaFull elements
stop_of line errors.OutOfMemory = stops.OutOfMemory

-- the stop has the status and the text of this end
pub record StandsFor (stop : Stop) (end : End) : Type 0 where
  pub status : stop_status stop ≡ status_of end
  pub text : stop_text stop ≡ text_of end
  pub stopped : end ≢ Finished

-- all commands are done at Ok, and an Err is a stop at this end
abbrev pub IsEnd : Result (Unit {0}) Stop → End → Type 0
IsEnd (Ok done) end = end ≡ Finished
IsEnd (Err stop) end = StandsFor stop end

-- the arena was full
abbrev pub is_full : Stop → Bool
is_full (stops.ArenaFull elements) = true
is_full stop = false

-- at a full arena the manager is the one that refused, as it was at the command in hand
abbrev pub IsFullAt : Plan → List Effect → End → Table → Type 0
IsFullAt plan effects (NoRoom elements) t = IsFilled elements t × HoldsAt plan effects t
IsFullAt plan effects end t = Unit {0}

-- the readings stop so, and ask for no more
abbrev pub StopsReading : (List Request → Type 0) → Stop → Option Files → Point → ℕ → ℕ → Type 0
StopsReading asks (stops.Refused refusal) files reading before now =
    ComesTo asks files reading (Refuses (refusal_answer refusal))
StopsReading asks (stops.ReadFault file) files reading before now =
    AsksLast asks files reading file × (Lacks files file ⊎ Rose before now)
StopsReading asks stops.OutOfMemory files reading before now = BreaksOff asks files reading
StopsReading asks stop files reading before now = ⊥

-- the commands come to an end, with the result of the code and this manager, and ask for their writings alone
pub record RunsToEnd (asks : List Request → Type 0) (plan : Plan) (t : Table) (result : Result (Unit {0}) Stop)
    (old new : Contents) (before now : Faults) : Type 0 where
  pub end : End
  pub at : IsEnd result end
  pub effects : List Effect
  pub ends : EndsAmong plan effects end
  pub asked : asks (writings (begun effects end))
  pub full_at : IsFullAt plan effects end t
  pub leaves : EndLeaves end (after_effects effects old) new
  pub reason : HasReason end old.files before now

-- the same, with what is kept
pub record PlanEnds (asks : List Request → Type 0) (plan : Plan) (kept : Option Table)
    (result : Result (Unit {0}) Stop) (old new : Contents) (before now : Faults) : Type 0 where
  pub end : End
  pub at : IsEnd result end
  pub effects : List Effect
  pub ends : EndsAmong plan effects end
  pub asked : asks (writings (begun effects end))
  pub keeps : KeepsOf plan effects end kept
  pub leaves : EndLeaves end (after_effects effects old) new
  pub reason : HasReason end old.files before now

-- the one effect failed, after a part of it
pub record FailsAt (stop : Stop) (effects : List Effect) (old new : Contents) (before now : Faults) : Type 0 where
  pub effect : Effect
  pub one : effects ≡ effect ∷ []
  pub at : StandsFor stop (Unwritable effect)
  pub part : LeavesPart effect old new
  pub reason : HasReason (Unwritable effect) old.files before now

-- the readings and the commands come to an end, with the result of the code and what is kept
pub record RunEnds (asks : List Request → Type 0) (words : List (List ℕ)) (kept : Option Table)
    (result : Result (Unit {0}) Stop) (old new : Contents) (before now : Faults) : Type 0 where
  pub end : End
  pub at : IsEnd result end
  pub effects : List Effect
  pub goes : GoesTo asks words old.files effects end kept
  pub leaves : EndLeaves end (after_effects effects old) new
  pub reason : HasReason end old.files before now

-- ---- the readings, step by step

-- The readings go on from a file with its text: what was read at Ok leads to the next point, and an Err is the stop
-- there. No more is asked of the shelf than they ask.
abbrev pub LeadsTo : {A : Type 0} → (List Request → Type 0) → Option Files → Point → (A → Point) → Result A Stop → ℕ
    → ℕ → Type 0
LeadsTo asks files reading next (Ok read) before now = ComesTo asks files reading (next read)
LeadsTo asks files reading next (Err stop) before now = StopsReading asks stop files reading before now

-- bytes that were read are not too long
abbrev pub IsShort : Option (List ℕ) → Type 0
IsShort None = Unit {0}
IsShort (Some bytes) = length bytes ≤ 67108864

-- the stop at the refusal of a file that is too long, of this status, or at OutOfMemory
abbrev pub IsLongStop : ℕ → List ℕ → Stop → Type 0
IsLongStop status file (stops.Refused refusal) =
    (refusal_answer refusal ≡ (status, file ++ codes ": too long")) × ((status ≡ 2) ⊎ (status ≡ 3))
IsLongStop status file stops.OutOfMemory = Unit {0}
IsLongStop status file stop = ⊥

-- The answer, as view sees it, is what the reading gives. Where it has a fault the refusal has this status and, behind
-- the name of the file, the text of the fault; or memory ran out.
abbrev pub GivesText : {X Y : Type 0} → (X → Y) → ℕ → List ℕ → Result Y (List ℕ) → Result X Stop → Type 0
GivesText view status file reading (Ok x) = reading ≡ Ok (view x)
GivesText view status file reading (Err (stops.Refused refusal)) =
    (text : List ℕ) × (reading ≡ Err text) × (refusal_answer refusal ≡ (status, file ++ text))
GivesText view status file reading (Err stops.OutOfMemory) = Unit {0}
GivesText view status file reading (Err stop) = ⊥

-- ---- what the shelf tells as unfinished, before and afterwards

-- what it told before at Ok, and at a stop what its status lets pass
abbrev pub LeavesFinished : {A : Type 0} → Result A Stop → Hand → Hand → Type 0
LeavesFinished (Ok done) old new = new ≡ old
LeavesFinished (Err stop) old new = HasFinished (stop_status stop) old new

-- what it told before, or the `finish` of this file, where it is too long
abbrev pub LeavesRead : List ℕ → Option (List ℕ) → Hand → Hand → Type 0
LeavesRead file None old new = (new ≡ old) ⊎ (new ≡ Reading file 67108865)
LeavesRead file (Some bytes) old new = new ≡ old

-- the same of a reading that may stop
abbrev pub LeavesText : List ℕ → Result (Option (List ℕ)) Stop → Hand → Hand → Type 0
LeavesText file (Ok text) old new = LeavesRead file text old new
LeavesText file (Err stop) old new = HasFinished (stop_status stop) old new

-- The course of a run: it goes from point to point, by the files that it reads and the commands that it does, and ends
-- at the last one.
use Rattle.std.specs.Prelude.{◌≡◌, ℕ, List, [], ◌∷◌, ◌++◌, map, flat_map, Option}
use Rattle.sd_base.specs.Asked.{Request, ToRead, ToWrite}
use Rattle.sd_base.specs.Files.{Files}
use Rattle.sd_commands.specs.Effects.{Effect, Write, Print}
use Rattle.sd_commands.specs.Commands.{State, Done, OverLimit as PassesLimit, NotMovable as Unmoved, Step, MayFill}
use Rattle.sd_tool.specs.Devices.{Seen}
use Rattle.sd_tool.specs.Effects.{after, DoesPart}
use Rattle.sd_tool.specs.Readings.{Point, Refuses, Reads, Stands, IsText, reading_of}
use Rattle.sd_tool.specs.Ends.{End, Finished, Refused, Unreadable, Unwritable, OutOfMemory, ArenaFull, OverLimit}
use Rattle.sd_tool.specs.Ends.{NotMovable, status_of}

-- Over these files a run goes from one point to another: it reads files of these names, in order, and then commands are
-- done, each with its effects.
abbrev pub Goes : Option Files → Point → List (List ℕ) → List (List Effect) → Point → Type 0
Goes files from [] [] to = to ≡ from
Goes files (Reads file next) (name ∷ names) effects to =
    (text : Option (List ℕ)) × (name ≡ file) × IsText files file text × Goes files (next text) names effects to
Goes files (Stands input state (next ∷ left)) [] (first ∷ others) to =
    (mid : State) × Step input state next.command (Done mid first) × Goes files (Stands input mid left) [] others to
Goes files from names effects to = ⊥

-- what an effect asks of the shelf
abbrev pub asked_by : Effect → List Request
asked_by (Write file bytes) = ToWrite file ∷ []
asked_by (Print line) = []

-- The table of ends: at which point a run may end how, and what it asks of the shelf there. A refusal is the end. The
-- file that is next is asked for, and not read. Where no command is left, all is done. At a command its effect fails,
-- the arena is full, which the command may need in this state, or it is refused, since the total size passes the limit
-- or its place is not movable. Memory may run out at each point, and just behind a request to read.
abbrev pub EndsAt : Point → End → List Request → Type 0
EndsAt (Refuses answer) (Refused found) [] = found ≡ answer
EndsAt (Reads file next) (Unreadable name) begun = (name ≡ file) × (begun ≡ ToRead file ∷ [])
EndsAt (Reads file next) OutOfMemory (request ∷ []) = request ≡ ToRead file
EndsAt (Stands input state []) Finished [] = Unit {0}
EndsAt (Stands input state (next ∷ left)) (Unwritable effect) begun =
    (begun ≡ asked_by effect) × ((mid : State) × Step input state next.command (Done mid (effect ∷ [])))
EndsAt (Stands input state (next ∷ left)) (ArenaFull elements) [] = MayFill state next.command
EndsAt (Stands input state (next ∷ left)) (OverLimit line group size limit) [] =
    (line ≡ next.line) × Step input state next.command (PassesLimit group size limit)
EndsAt (Stands input state (next ∷ left)) (NotMovable line) [] =
    (line ≡ next.line) × Step input state next.command Unmoved
EndsAt point OutOfMemory [] = Unit {0}
EndsAt point end begun = ⊥

-- A course of a run with these words over these files: the names of the files that it reads, the effects of each
-- command that it does, the point that it comes to, how it ends there, and what it asks for there.
pub record Course (words : List (List ℕ)) (files : Option Files) : Type 0 where
  pub names : List (List ℕ)
  pub effects : List (List Effect)
  pub point : Point
  pub end : End
  pub begun : List Request
  pub goes : Goes files (reading_of words) names effects point
  pub ends : EndsAt point end begun

-- what stands outside after these effects; where the effect in hand fails, with a part of it
abbrev pub Leaves : List (List Effect) → End → Seen → Type 0
Leaves effects (Unwritable effect) seen = DoesPart effect (after effects seen.old.contents) seen.new.contents
Leaves effects end seen = seen.new.contents ≡ after effects seen.old.contents

-- A run of this status took a course of which this holds, and asked of the shelf just what that asks, in this order: to
-- read its files, to write those of its effects, and what is asked at its end.
abbrev pub Went : (words : List (List ℕ)) → ℕ → (seen : Seen) → (Course words seen.old.contents.files → Type 0) → Type 0
Went words status seen holds = (course : Course words seen.old.contents.files) × (status ≡ status_of course.end)
    × seen.asked (map ToRead course.names ++ flat_map (flat_map asked_by) course.effects ++ course.begun) × holds course

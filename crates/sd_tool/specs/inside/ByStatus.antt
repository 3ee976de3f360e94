-- What the clauses of `run` say status by status, and its course with a name for each part.
use Rattle.std.specs.Prelude.{◌≡◌, ◌⊎◌, ℕ, List, Option, Some, None}
use Rattle.sd_manager.specs.Table.{Table}
use Rattle.sd_commands.specs.Effects.{Effect}
use Rattle.sd_commands.specs.Standing.{IsFilled}
use Rattle.sd_tool.specs.Effects.{DoesPart}
use Rattle.sd_tool.specs.Readings.{Refuses, Reads, reading_of}
use Rattle.sd_tool.specs.inside.Asks.{GoesTo}
use Rattle.sd_tool.specs.inside.Course.{EndLeaves, ReadsTo, MayEnd, after_effects}
use Rattle.sd_tool.specs.inside.Kept.{HoldsAt}
use Rattle.sd_tool.specs.inside.Plans.{Plan, point_of}
use Rattle.sd_tool.specs.Ends.{End, Finished, Refused, Unreadable, Unwritable, OutOfMemory, ArenaFull, OverLimit}
use Rattle.sd_tool.specs.Ends.{NotMovable, status_of}
use Rattle.sd_tool.specs.Devices.{Moment, Seen, HasReason, WritesEndLine}

-- How the run went: what it did and how it ended, where the words and the files lead; what was asked of the shelf, the
-- status, the files and what was printed, the reason, what is kept and the line are those of this one course.
pub record IsOneCourse (words : List (List ℕ)) (status : ℕ) (kept : Option Table) (seen : Seen) : Type 0 where
  pub effects : List Effect
  pub end : End
  pub goes : GoesTo seen.asked words seen.old.contents.files effects end kept
  pub status_is : status ≡ status_of end
  pub leaves : EndLeaves end (after_effects effects seen.old.contents) seen.new.contents
  pub reason : HasReason end seen.old.contents.files seen.old.faults seen.new.faults
  pub line : WritesEndLine end seen.old seen.new

-- What was done outside: at status 0 all effects of the run, at 1, 2 and 5 none, at 4, 7 and 8 those of the first
-- commands, at 3 none or those of the first commands, at 6 those before the effect in hand, and a part of that one.
pub record EffectsByStatus (words : List (List ℕ)) (status : ℕ) (old new : Moment) : Type 0 where
  pub all : status ≡ 0 → (effects : List Effect)
      × MayEnd words old.contents.files effects Finished × (new.contents ≡ after_effects effects old.contents)
  pub none : (status ≡ 1) ⊎ (status ≡ 2) ⊎ (status ≡ 5) → new.contents ≡ old.contents
  pub script : status ≡ 3 →
      ((answer : ℕ × List ℕ) × ReadsTo old.contents.files (reading_of words) (Refuses answer)
      × (new.contents ≡ old.contents))
      ⊎ ((effects : List Effect) × (line : ℕ) × MayEnd words old.contents.files effects (NotMovable line)
      × (new.contents ≡ after_effects effects old.contents))
  pub first : status ≡ 7 → (effects : List Effect)
      × MayEnd words old.contents.files effects OutOfMemory × (new.contents ≡ after_effects effects old.contents)
  pub full : status ≡ 8 → (effects : List Effect) × (elements : ℕ)
      × MayEnd words old.contents.files effects (ArenaFull elements)
      × (new.contents ≡ after_effects effects old.contents)
  pub over : status ≡ 4 → (effects : List Effect) × (line : ℕ) × (group : Option ℕ) × (size limit : ℕ)
      × MayEnd words old.contents.files effects (OverLimit line group size limit)
      × (new.contents ≡ after_effects effects old.contents)
  pub in_hand : status ≡ 6 → (effects : List Effect) × (effect : Effect)
      × MayEnd words old.contents.files effects (Unwritable effect)
      × DoesPart effect (after_effects effects old.contents) new.contents

-- The words or a text were refused; the line says why.
pub record IsRefused (words : List (List ℕ)) (status : ℕ) (old new : Moment) : Type 0 where
  pub answer : ℕ × List ℕ
  pub status_is : status ≡ answer.0
  pub led : ReadsTo old.contents.files (reading_of words) (Refuses answer)
  pub line : WritesEndLine (Refused answer) old new

-- An input file was asked for and not read; the line names it.
pub record CouldNotRead (words : List (List ℕ)) (old new : Moment) : Type 0 where
  pub file : List ℕ
  pub asked : (next : _) × ReadsTo old.contents.files (reading_of words) (Reads file next)
  pub cause : HasReason (Unreadable file) old.contents.files old.faults new.faults
  pub line : WritesEndLine (Unreadable file) old new

-- An effect of the run was in hand and failed; the line names it.
pub record CouldNotWrite (words : List (List ℕ)) (old new : Moment) : Type 0 where
  pub effects : List Effect
  pub effect : Effect
  pub in_hand : MayEnd words old.contents.files effects (Unwritable effect)
  pub cause : HasReason (Unwritable effect) old.contents.files old.faults new.faults
  pub line : WritesEndLine (Unwritable effect) old new

-- The arena was full: all readings were accepted, the command in hand is one that may need the arena, and the manager
-- that refused is kept, whose bound the number passes; its vtree is the run's tree at that command, or at a search the
-- one after the walks that were finished, and its roots hold the diagrams of the names that are bound there. The line
-- has the number.
pub record WasFull (words : List (List ℕ)) (kept : Option Table) (old new : Moment) : Type 0 where
  pub elements : ℕ
  pub effects : List Effect
  pub in_hand : MayEnd words old.contents.files effects (ArenaFull elements)
  pub manager : Table
  pub is_kept : kept ≡ Some manager
  pub filled : IsFilled elements manager
  pub plan : Plan
  pub led : ReadsTo old.contents.files (reading_of words) (point_of plan)
  pub holds : HoldsAt plan effects manager
  pub line : WritesEndLine (ArenaFull elements) old new

-- The total size passed the limit: all readings were accepted, and the next command has this line and is refused in the
-- state after those before it, with this group, size and limit. The line tells them.
pub record PassedLimit (words : List (List ℕ)) (old new : Moment) : Type 0 where
  pub at_line : ℕ
  pub group : Option ℕ
  pub size : ℕ
  pub limit : ℕ
  pub effects : List Effect
  pub in_hand : MayEnd words old.contents.files effects (OverLimit at_line group size limit)
  pub line : WritesEndLine (OverLimit at_line group size limit) old new

-- A place was not movable: all readings were accepted, and the next command has this line and cannot be done in the
-- state after those before it. The line tells it.
pub record WasNotMovable (words : List (List ℕ)) (old new : Moment) : Type 0 where
  pub at_line : ℕ
  pub effects : List Effect
  pub in_hand : MayEnd words old.contents.files effects (NotMovable at_line)
  pub line : WritesEndLine (NotMovable at_line) old new

-- When each status comes, and that a manager is kept at 8 alone. That a refusal comes wherever it may is the other
-- half, in `IsComplete` and `IsCourse` of `Theorem`.
pub record EndByStatus (words : List (List ℕ)) (status : ℕ) (kept : Option Table) (old new : Moment) : Type 0 where
  pub one_of : (status ≡ 0) ⊎ (status ≡ 1) ⊎ (status ≡ 2) ⊎ (status ≡ 3) ⊎ (status ≡ 4) ⊎ (status ≡ 5)
      ⊎ (status ≡ 6) ⊎ (status ≡ 7) ⊎ (status ≡ 8)
  pub refused : (status ≡ 1) ⊎ (status ≡ 2) → IsRefused words status old new
  pub script : status ≡ 3 → IsRefused words status old new ⊎ WasNotMovable words old new
  pub over_limit : status ≡ 4 → PassedLimit words old new
  pub read_fault : status ≡ 5 → CouldNotRead words old new
  pub write_fault : status ≡ 6 → CouldNotWrite words old new
  pub arena_full : status ≡ 8 → WasFull words kept old new
  pub none_kept : ¬ (status ≡ 8) → kept ≡ None

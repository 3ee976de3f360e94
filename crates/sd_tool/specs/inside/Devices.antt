-- The contents and the counts of a shelf and a sink, and the parts that they have written, for the contracts of private
-- functions.
use Rattle.std.specs.Prelude.{◌≡◌, ◌⊎◌, ℕ, ◌≤◌, List, Option}
use Rattle.sd_base.specs.Faults.{Rose}
use Rattle.sd_base.specs.Files.{Files, WritesPart}
use Rattle.sd_base.specs.Sink.{told_then, AppendsPart}
use Rattle.sd_commands.specs.Effects.{Effect, Write, Print}
use Rattle.sd_tool.specs.Devices.{Faults}
use Rattle.sd_tool.specs.Effects.{Contents}

-- the contents of this shelf and this `out`
abbrev pub contents : {F O : Type 0} → (F → Option Files) → (O → Option (List ℕ)) → F → O → Contents
contents files written shelf out = record { files = files shelf; printed = written out }

-- their counts
abbrev pub faults : {F O : Type 0} → (F → ℕ) → (F → ℕ) → (O → ℕ) → F → O → Faults
faults read write print shelf out = record { read = read shelf; write = write shelf; print = print out }

-- no count has fallen
pub record NotFewer (before now : Faults) : Type 0 where
  pub read : before.read ≤ now.read
  pub write : before.write ≤ now.write
  pub print : before.print ≤ now.print

-- no count rose
pub record NoneRose (before now : Faults) : Type 0 where
  pub read : ¬ (Rose before.read now.read)
  pub write : ¬ (Rose before.write now.write)
  pub print : ¬ (Rose before.print now.print)

-- the file of the effect is unchanged or holds a prefix of its bytes, or a prefix of its line was printed
abbrev pub LeavesPart : Effect → Contents → Contents → Type 0
LeavesPart (Write file bytes) old new = WritesPart old.files file bytes new.files × (new.printed ≡ old.printed)
LeavesPart (Print line) old new = AppendsPart old.printed line new.printed × (new.files ≡ old.files)

-- the line was appended, or a prefix of it where the sink has failed
abbrev pub AppendsLine : List ℕ → Option (List ℕ) → Option (List ℕ) → ℕ → ℕ → Type 0
AppendsLine line old new before now = (new ≡ told_then old line) ⊎ (AppendsPart old line new × Rose before now)

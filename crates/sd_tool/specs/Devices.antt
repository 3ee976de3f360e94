-- The devices of a run at a moment: the files, what was printed, what stands on `err`, and the counts of their faults.
use Rattle.std.specs.Prelude.{◌≡◌, ◌⊎◌, ℕ, List, [], ◌∷◌, ◌++◌, codes, take, Option}
use Rattle.sd_base.specs.Asked.{Request, Adds}
use Rattle.sd_base.specs.Faults.{Rose}
use Rattle.sd_base.specs.Files.{Files, Lacks}
use Rattle.sd_base.specs.Sink.{told_then}
use Rattle.sd_base.specs.declared.shelf.Shelf as shelves
use Rattle.sd_base.specs.declared.sink.Sink as sinks
use Rattle.sd_commands.specs.Effects.{Write, Print}
use Rattle.sd_tool.specs.Effects.{Contents}
use Rattle.sd_tool.specs.Ends.{End, Finished, Unreadable, Unwritable, answer_of}

-- how often each device has failed
pub record Faults : Type 0 where
  pub read : ℕ
  pub write : ℕ
  pub print : ℕ

-- the devices at a moment
pub record Moment : Type 0 where
  pub contents : Contents
  pub errors : Option (List ℕ)
  pub faults : Faults
  pub err_faults : ℕ

-- what a run shows: the devices before it and after it, and what it asks of the shelf
pub record Seen : Type 1 where
  pub old : Moment
  pub new : Moment
  pub asked : List Request → Type 0

-- the moment of this shelf, this `out` and this `err`, by what they tell and count
abbrev pub moment : {F O E : Type 0} → shelves.Ghosts F → sinks.Ghosts O → sinks.Ghosts E → F → O → E → Moment
moment files prints errs shelf out err = record {
  contents = record { files = files.files shelf; printed = prints.written out };
  errors = errs.written err;
  faults = record { read = files.read_faults shelf; write = files.write_faults shelf; print = prints.faults out };
  err_faults = errs.faults err;
}

-- what a shelf, `out` and `err` show, before and after
abbrev pub seen : {F O E : Type 0} → shelves.Ghosts F → sinks.Ghosts O → sinks.Ghosts E → F → O → E → F → O → E → Seen
seen files prints errs shelf out err shelf' out' err' = record {
  old = moment files prints errs shelf out err;
  new = moment files prints errs shelf' out' err';
  asked = Adds files.asked shelf shelf';
}

-- neither the shelf nor `out` failed
pub record IsCalm (seen : Seen) : Type 0 where
  pub read : ¬ (Rose seen.old.faults.read seen.new.faults.read)
  pub write : ¬ (Rose seen.old.faults.write seen.new.faults.write)
  pub print : ¬ (Rose seen.old.faults.print seen.new.faults.print)

-- An end has its reason: at a device fault its count rose, or the shelf tells that there is no such file.
abbrev pub HasReason : End → Option Files → Faults → Faults → Type 0
HasReason (Unreadable file) files before now = Lacks files file ⊎ Rose before.read now.read
HasReason (Unwritable (Write file bytes)) files before now = Rose before.write now.write
HasReason (Unwritable (Print line)) files before now = Rose before.print now.print
HasReason end files before now = Unit {0}

-- This line was appended, or its first n bytes where the sink has failed.
abbrev pub WritesLine : List ℕ → Option (List ℕ) → Option (List ℕ) → ℕ → ℕ → Type 0
WritesLine line old new before now =
    (new ≡ told_then old line) ⊎ ((n : ℕ) × (new ≡ told_then old (take n line)) × Rose before now)

-- At the end of all commands `err` is unchanged; each other end has its one line there.
abbrev pub WritesEndLine : End → Moment → Moment → Type 0
WritesEndLine Finished old new = new.errors ≡ old.errors
WritesEndLine end old new = WritesLine (codes "sddc: " ++ (answer_of end).1 ++ 10 ∷ [])
    old.errors new.errors old.err_faults new.err_faults

-- What follows from the course of a run, without speaking of it: of runs without a script, of parts, starts, circuits
-- and checks, of a script of four lines, and of what is asked of the shelf. The functions of src/laws.rt state it; a
-- reader of `run` need believe none of it.
use Rattle.std.specs.Prelude.{◌≡◌, ◌⊎◌, ℕ, List, [], ◌++◌, codes, map, None, Option, Some, Ok, true}
use Rattle.sd_base.specs.Asked.{Request, ToRead, ToWrite}
use Rattle.sd_base.specs.declared.shelf.Shelf as shelves
use Rattle.sd_base.specs.declared.sink.Sink as sinks
use Rattle.sd_base.specs.Files.{Files}
use Rattle.sd_manager.specs.Table.{Table}
use Rattle.sd_words.specs.JobOf.{job_of, job_of_parsed}
use Rattle.sd_words.specs.Ordinary.{Setting, Spells, setting_of}
use Rattle.sd_tool.specs.Devices.{Seen, IsCalm, seen}
use Rattle.sd_tool.specs.Joined.{FourLines, WritesJoined}
use Rattle.sd_tool.specs.Theorem.{IsCourse}
use Rattle.sd_tool.specs.Written.{PlainRun, IsPlain, WritesInput, WritesJob, PassesAt, TellsGroup}
use Rattle.sd_tool.specs.Written.{WritesChoice, WritesOutputs, WritesParts, WritesVerdict}
use Rattle.sd_tool.specs.Readings.{reading_of}
use Rattle.sd_words.specs.declared.jobs.Job.{Job}
use Rattle.sd_words.specs.declared.jobs.InputWord.TheVariants as inputs
use Rattle.sd_words.specs.declared.jobs.TreeWord.TheVariants as trees

-- for all words, whatever the shelf and the sinks: what shows the course of a run has this property
abbrev pub FollowsCourse : {F O E : Type 0} → shelves.Ghosts F → sinks.Ghosts O → sinks.Ghosts E
    → (List (List ℕ) → ℕ → Seen → Type 0) → Type 0
FollowsCourse {F = F} {O = O} {E = E} files prints errs Holds =
    (words : List (List ℕ)) (status : ℕ) (kept : Option Table) (shelf shelf' : F) (out out' : O) (err err' : E)
    → IsCourse words status kept (seen files prints errs shelf out err shelf' out' err')
    → Holds words status (seen files prints errs shelf out err shelf' out' err')

-- written: at 0 a run of plain words, over told files, wrote the diagram of its formula, its vtree and its size
abbrev pub HasWritten : List (List ℕ) → ℕ → Seen → Type 0
HasWritten words status seen = status ≡ 0 → IsPlain words seen → (run : PlainRun words seen) × WritesInput run

-- the words have none of the options for a script, parts, a choice of the start, a circuit and a check
pub record ArePlain (settings : List Setting) : Type 0 where
  pub script : setting_of settings (codes "script") ≡ None
  pub parts : setting_of settings (codes "parts") ≡ None
  pub portfolio : setting_of settings (codes "portfolio") ≡ None
  pub aag : setting_of settings (codes "aag") ≡ None
  pub check : setting_of settings (codes "check") ≡ None

-- written: at 0 a run of ordinary words of this kind, over told files, wrote the same, of the job that has the values
-- of these words
abbrev pub HasWrittenValues : List (List ℕ) → ℕ → Seen → Type 0
HasWrittenValues words status seen = (settings : List Setting) (files : Files) → status ≡ 0 → Spells settings words
    → ArePlain settings → seen.old.contents.files ≡ Some files
    → WritesJob (job_of_parsed (setting_of settings)) files seen

-- there was no memory, or no room in the arena
abbrev pub LacksRoom : ℕ → Type 0
LacksRoom status = (status ≡ 7) ⊎ (status ≡ 8)

-- limited: of plain words, over told files, 4 comes only where the first groups pass the limit; where they do and
-- neither the shelf nor `out` fails, 4, 7 or 8 comes
abbrev pub HasLimit : List (List ℕ) → ℕ → Seen → Type 0
HasLimit words status seen = (run : PlainRun words seen) → (status ≡ 4 → TellsGroup run)
    × ((group size : ℕ) → PassesAt run group size → IsCalm seen → (status ≡ 4) ⊎ LacksRoom status)

-- done_or_over_limit: where the words are accepted and plain, and the told files read as a formula and a vtree, 0, 4,
-- 7 or 8 comes if neither the shelf nor `out` fails
abbrev pub IsDoneOrOverLimit : List (List ℕ) → ℕ → Seen → Type 0
IsDoneOrOverLimit words status seen = PlainRun words seen → IsCalm seen
    → (status ≡ 0) ⊎ (status ≡ 4) ⊎ LacksRoom status

-- workers: words whose jobs differ in the number of workers alone have one reading, and so one course
abbrev pub HaveOneReading : List (List ℕ) → List (List ℕ) → Type 0
HaveOneReading words others = (job : Job) (workers : ℕ) → job_of words ≡ Ok job
    → job_of others ≡ Ok (record job { workers = workers }) → reading_of words ≡ reading_of others

-- parted: at 0 a run in parts, over told files, wrote the diagram of its formula for its start tree, this vtree or the
-- one that the search found from it, and the size, as without parts
abbrev pub HasParted : List (List ℕ) → ℕ → Seen → Type 0
HasParted words status seen = (files : Files) (job : Job) (count : ℕ) → status ≡ 0
    → seen.old.contents.files ≡ Some files → job_of words ≡ Ok job → job.parts ≡ Some count
    → WritesParts job files seen

-- chosen: at 0 a run with a choice of the start, over told files, wrote the same for the tree of the chosen start
abbrev pub HasChosen : List (List ℕ) → ℕ → Seen → Type 0
HasChosen words status seen = (files : Files) (job : Job) → status ≡ 0
    → seen.old.contents.files ≡ Some files → job_of words ≡ Ok job → job.portfolio ≡ true
    → WritesChoice job files seen

-- checked: at 0 a check of a file over the vtree of another, both told, printed the verdict alone
abbrev pub HasChecked : List (List ℕ) → ℕ → Seen → Type 0
HasChecked words status seen = (files : Files) (job : Job) (file tree_file : List ℕ) → status ≡ 0
    → seen.old.contents.files ≡ Some files → job_of words ≡ Ok job → job.input ≡ inputs.Check file
    → job.tree ≡ trees.File tree_file → WritesVerdict file tree_file files seen

-- circuits: at 0 a run of a told circuit with a file for its outputs, and without a script, wrote there the diagrams of
-- the outputs
abbrev pub HasCircuits : List (List ℕ) → ℕ → Seen → Type 0
HasCircuits words status seen = (files : Files) (job : Job) (file out_sdd : List ℕ) → status ≡ 0
    → seen.old.contents.files ≡ Some files → job_of words ≡ Ok job → job.input ≡ inputs.Aag file
    → job.script ≡ None → job.out_sdd ≡ Some out_sdd → WritesOutputs job file out_sdd files seen

-- joined: over told files, a script of four lines (`FourLines`) wrote at 0 the diagram of two formulas, joined; where
-- neither the shelf nor `out` fails, 0, 4, 7 or 8 comes
abbrev pub HasJoined : List (List ℕ) → ℕ → Seen → Type 0
HasJoined words status seen = (run : FourLines words seen) → (status ≡ 0 → WritesJoined run)
    × (IsCalm seen → (status ≡ 0) ⊎ (status ≡ 4) ⊎ LacksRoom status)

-- only readings are asked for
abbrev pub ReadsAlone : (List Request → Type 0) → Type 0
ReadsAlone asks = (names : List (List ℕ)) × asks (map ToRead names)

-- no file is read after one is written
abbrev pub ReadsFirst : (List Request → Type 0) → Type 0
ReadsFirst asks = (names files : List (List ℕ)) × asks (map ToRead names ++ map ToWrite files)

-- asked: at 1 no file is asked for, at 2 and 5 none is written, and never is one read after another was written
abbrev pub HasAsked : List (List ℕ) → ℕ → Seen → Type 0
HasAsked words status seen = (status ≡ 1 → seen.asked [])
    × ((status ≡ 1) ⊎ (status ≡ 2) ⊎ (status ≡ 5) → ReadsAlone seen.asked) × ReadsFirst seen.asked

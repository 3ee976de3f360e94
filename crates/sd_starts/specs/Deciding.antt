-- Which of the answers of the three starts decides.
use Rattle.std.specs.Prelude.{◌≡◌, nat_lt, Bool, true, false, ◌&&◌, if◌then◌else◌, List, [], ◌∷◌}
use Rattle.std.specs.Prelude.{Option, Some, None, Result, Ok, Err, IfOk, MatchResult}
use Rattle.std.specs.List.{AllZip}
use Rattle.std.specs.declared.alloc.AllocError.{AllocError}
use Rattle.sd_formula.specs.Dimacs.{Groups}
use Rattle.sd_vtree.specs.Numbered.{plain_tree}
use Rattle.sd_manager.specs.Table.{Table}
use Rattle.sd_compile.specs.declared.error.CompileError.{CompileError}
use Rattle.sd_compile.specs.declared.error.CompileError.TheVariants as refused
use Rattle.sd_starts.specs.Starts.{AnswersStart, tree_of_start, IsEndAt, Ended as EndedAt, Passed as PassedAt}
use Rattle.sd_starts.specs.Starts.{HoldsAlone, IsSearchedTo, IsAtRest, IsFullStart}
use Rattle.sd_starts.specs.declared.start.Start.{Start}
use Rattle.sd_starts.specs.declared.start.Start.TheVariants.{Balanced, Right, Left}
use Rattle.sd_starts.specs.declared.start.Settings.{Settings}
use Rattle.sd_starts.specs.declared.work.Done.{Done}
use Rattle.sd_starts.specs.declared.work.StartAnswer.{StartAnswer}
use Rattle.sd_starts.specs.declared.choosing.Judged.{Judged}
use Rattle.sd_starts.specs.declared.choosing.Judged.TheVariants.{Stopped, Ended, Passed}
use Rattle.sd_starts.specs.declared.choosing.Chosen.{Chosen}
use Rattle.sd_starts.specs.declared.choosing.Refused.{Refused}

-- what the end of the work shows
abbrev pub judged_end : Result Done CompileError → Judged
judged_end (Ok done) = Ended done.size
judged_end (Err (refused.OverLimit group size limit)) = Passed
judged_end (Err (refused.ArenaFull elements)) = Stopped
judged_end (Err refused.OutOfMemory) = Stopped

-- what an answer shows
abbrev pub judged : Result StartAnswer AllocError → Judged
judged (Ok answer) = judged_end answer.end
judged (Err e) = Stopped

-- one ended with a lesser size than the other, or the other with none
abbrev pub is_less : Judged → Judged → Bool
is_less (Ended size) (Ended bound) = nat_lt size bound
is_less (Ended size) Stopped = true
is_less (Ended size) Passed = true
is_less Stopped other = false
is_less Passed other = false

-- room or memory lacked
abbrev pub is_stopped : Judged → Bool
is_stopped Stopped = true
is_stopped (Ended size) = false
is_stopped Passed = false

-- The start that decides: the first at which room or memory lacked; else the one with the least size, the first among
-- equals; else the balanced one.
abbrev pub decider : Judged → Judged → Judged → Start
decider balanced right left =
    if is_stopped balanced then Balanced
    else if is_stopped right then Right
    else if is_stopped left then Left
    else if is_less left balanced && is_less left right then Left
    else if is_less right balanced then Right
    else Balanced

-- the answers of the three starts, in their order
abbrev pub AnswerEach : Groups → Settings → List (Result StartAnswer AllocError) → Type 0
AnswerEach f settings answers =
    AllZip (λ start a. IfOk a (AnswersStart f settings start)) (Balanced ∷ Right ∷ Left ∷ []) answers

-- the formula is held over the tree that the search found from that of the start, and nothing else is
pub record IsHeldAt (f : Groups) (settings : Settings) (start : Start) (chosen : Chosen) : Type 0 where
  pub end : IsEndAt f settings (tree_of_start start f.variables) (EndedAt chosen.size)
  pub is : chosen.start ≡ start
  pub holds : HoldsAlone chosen.manager f chosen.root
  pub searched : IsSearchedTo f settings (tree_of_start start f.variables) chosen.search chosen.size
      (plain_tree chosen.manager.vtree)
  pub ready : IsAtRest chosen.manager chosen.cache

-- the manager that a refusal hands back: the one whose arena was full
abbrev pub kept_at : CompileError → Table → Option Table
kept_at (refused.OverLimit group size limit) m = None
kept_at (refused.ArenaFull elements) m = Some m
kept_at refused.OutOfMemory m = None

-- Why the start that decides was refused, where its answer shows this.
abbrev pub IsRefusedStart : Groups → Settings → Start → Judged → CompileError → Option Table → Type 0
IsRefusedStart f settings start shown (refused.OverLimit group size limit) manager =
    IsEndAt f settings (tree_of_start start f.variables) (PassedAt group size) × (limit ≡ settings.limit)
    × (manager ≡ None) × (shown ≡ Passed)
IsRefusedStart f settings start shown (refused.ArenaFull elements) manager =
    (m : Table) × (manager ≡ Some m) × IsFullStart f settings start elements m × (shown ≡ Stopped)
IsRefusedStart f settings start shown refused.OutOfMemory manager = (manager ≡ None) × (shown ≡ Stopped)

-- what the answer that decides comes to
abbrev pub Decides : Groups → Settings → Start → Judged → Result Chosen Refused → Type 0
Decides f settings start shown result = MatchResult result
    (λ chosen. IsHeldAt f settings start chosen × (shown ≡ Ended chosen.size))
    (λ refusal. IsRefusedStart f settings start shown refusal.error refusal.manager)

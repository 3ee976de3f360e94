-- What `run` promises, clause by clause, of the words, its status, and what the shelf, `out` and `err` show (`seen`).
-- The status of an end is `status_of` in Ends.antt; that of a refusal stands at its reading (`reads`, `reading_of`) in
-- Readings.antt. What follows for runs without a script, for a script of four lines and for the files that are asked
-- for is in Laws.antt.
use Rattle.std.specs.Prelude.{◌≡◌, ◌≢◌, ◌⊎◌, ◌↔◌, ℕ, ◌≤◌, List, Option, None}
use Rattle.std.specs.List.{AllZip}
use Rattle.sd_base.specs.Shelf.{Hand, Reading}
use Rattle.sd_model.specs.Expression.{Expression, AreOneFunction}
use Rattle.sd_model.specs.Tree.{Tree, leaves}
use Rattle.sd_manager.specs.Table.{Table}
use Rattle.sd_tool.specs.Course.{Course, Leaves, Went}
use Rattle.sd_tool.specs.Devices.{Seen, IsCalm, WritesEndLine}
use Rattle.sd_tool.specs.Ends.{status_of}
use Rattle.sd_tool.specs.KeptManager.{EndsSo}
use Rattle.sd_tool.specs.Texts.{WritesAt}

-- course: the effects, the end, what is kept and what is asked are those of one walk; `effects`, `line` and `ends` are
-- its parts
abbrev pub IsCourse : List (List ℕ) → ℕ → Option Table → Seen → Type 0
IsCourse words status kept seen = Went words status seen
    (λ course. Leaves course.effects course.end seen × EndsSo course.point course.end kept seen)

-- effects: outside stands what the run's effects leave, and at 6 a part of the one in hand; what a command writes for
-- roots is the text of their formulas' diagrams, compressed and trimmed for the vtree at its line (`Step`, `IsTextOf`)
abbrev pub HasEffects : List (List ℕ) → ℕ → Seen → Type 0
HasEffects words status seen = Went words status seen (λ course. Leaves course.effects course.end seen)

-- equal_texts: two texts that a run may write for one vtree are equal just if their formulas are, in order, one
-- function; `one` and `other` stop before a command that writes, as a course may before any, where memory runs out
abbrev pub HasEqualTexts : List (List ℕ) → Seen → Type 0
HasEqualTexts words seen = (one other : Course words seen.old.contents.files) (tree : Tree) (fs gs : List Expression)
    (a b : List ℕ) → WritesAt one.point tree fs a → WritesAt other.point tree gs b
    → (a ≡ b) ↔ AllZip (AreOneFunction (leaves tree)) fs gs

-- line: `err` has the one line of the end behind what stood there, or a prefix of it where `err` failed; at 0 none
abbrev pub HasLine : List (List ℕ) → ℕ → Seen → Type 0
HasLine words status seen = Went words status seen (λ course. WritesEndLine course.end seen.old seen.new)

-- ends: all is done, or there is a reason: a refusal, a passed limit, a place that is not movable, a failed device, or
-- a full arena, whose manager is kept, and at no other end one; out of memory (7) needs no reason
abbrev pub HasEnd : List (List ℕ) → ℕ → Option Table → Seen → Type 0
HasEnd words status kept seen = Went words status seen (λ course. EndsSo course.point course.end kept seen)

-- complete: where neither the shelf nor `out` fails, a run comes to the end of status 0 to 4 to which the words and
-- told files lead, with all its effects and its line; or there is no memory (7) or no room (8)
abbrev pub IsComplete : List (List ℕ) → ℕ → Seen → Type 0
IsComplete words status seen = IsCalm seen → seen.old.contents.files ≢ None
    → (own : Course words seen.old.contents.files) → status_of own.end ≤ 4 → (status ≡ 7) ⊎ (status ≡ 8)
    ⊎ ((status ≡ status_of own.end) × Leaves own.effects own.end seen × WritesEndLine own.end seen.old seen.new)

-- finished: at 0 to 4 the shelf tells no failed `finish` that it did not tell before; but at 2 and 3 it may tell that
-- of a file that is too long, of which no more is read than one byte past the limit
abbrev pub HasFinished : ℕ → Hand → Hand → Type 0
HasFinished status old new = status ≤ 4 → (new ≡ old)
    ⊎ (((status ≡ 2) ⊎ (status ≡ 3)) × (file : List ℕ) × (new ≡ Reading file 67108865))

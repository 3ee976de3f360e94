-- The counts as they are kept, and the two stacks of numbers that may have to be counted, or no longer.
use Rattle.std.specs.Prelude.{◌≡◌, ℕ, ◌+◌, ◌-◌, ◌<◌, ◌^◌, ◌*◌, Bool, true, false, ◌&&◌, not, List, length, map}
use Rattle.std.specs.Prelude.{◌≤◌, ◌++◌, get_or, replicate, slice_set}
use Rattle.std.specs.List.{count_by}
use Rattle.sd_runs.specs.Arena.{IsMember, HasNoCopies}
use Rattle.sd_unique.specs.Filed.{IsChain}
use Rattle.sd_counts.specs.Counts.{Counts}
use Rattle.sd_counts.specs.declared.count.Count.{Count}

-- ends a stack
abbrev pub no_number : ℕ
no_number = 2 ^ 32 - 1

-- what stands for a number past the last, or for one that was not written yet
abbrev pub blank : Count
blank = record { live = 0; next = 0; is_counted = false; is_queued = false }

-- what is kept for the numbers below `size`, of which the last ones were not written yet
abbrev pub with_blanks : List Count → ℕ → List Count
with_blanks written size = written ++ replicate (size - length written) blank

-- what is kept for a number
abbrev pub at : List Count → ℕ → Count
at counts n = get_or counts n blank

-- the counts that are seen
abbrev pub seen : List Count → ℕ → Counts
seen counts total =
    record {
      live = map (λ (c : Count). c.live) counts;
      counted = map (λ (c : Count). c.is_counted) counts;
      total = total;
    }

-- From `top` on the stack has just the numbers that are on it, each once.
pub record IsStack (next : ℕ → ℕ) (none top : ℕ) (on : ℕ → Bool) : Type 0 where
  pub list : List ℕ
  pub chain : IsChain next none top list
  pub once : HasNoCopies list
  pub has : (n : ℕ) → on n ≡ true → IsMember n list
  pub only : (n : ℕ) → IsMember n list → on n ≡ true

-- what follows a number on its stack
abbrev pub next_of : List Count → ℕ → ℕ
next_of counts n = (at counts n).next

-- a number may rise: it is queued, and not counted
abbrev pub rises : List Count → ℕ → Bool
rises counts n = (at counts n).is_queued && not (at counts n).is_counted

-- a number may fall: it is queued, and counted
abbrev pub falls : List Count → ℕ → Bool
falls counts n = (at counts n).is_queued && (at counts n).is_counted

-- a number is counted just where it is used
pub record IsSettledAt (c : Count) : Type 0 where
  pub used : c.is_counted ≡ true → 0 < c.live
  pub unused : c.is_counted ≡ false → c.live ≡ 0

-- Each number that is not settled stands on its stack.
pub record AreQueued (counts : List Count) (rising falling : ℕ) : Type 0 where
  pub fits : length counts < 2 ^ 32
  pub up : IsStack (next_of counts) no_number rising (rises counts)
  pub down : IsStack (next_of counts) no_number falling (falls counts)
  pub rest : (n : ℕ) → (at counts n).is_queued ≡ false → IsSettledAt (at counts n)

-- So it is with what is kept for the numbers below `size`, which has room, and of which these were written.
pub record AreKept (written : List Count) (size room rising falling : ℕ) : Type 0 where
  pub queued : AreQueued (with_blanks written size) rising falling
  pub inside : length written ≤ size
  pub fits : size ≤ room

-- The number was taken off its stack and settled; all else is as before.
pub record IsTaken (old new : List Count) (n : ℕ) : Type 0 where
  pub now : Count
  pub is : new ≡ slice_set old n now
  pub next : now.next ≡ next_of old n
  pub live : now.live ≡ (at old n).live
  pub off : now.is_queued ≡ false
  pub settled : IsSettledAt now

-- how many numbers are queued
abbrev pub queued_count : List Count → ℕ
queued_count counts = count_by (λ (c : Count). c.is_queued) counts

-- how many numbers are not counted
abbrev pub uncounted_count : List Bool → ℕ
uncounted_count counted = count_by not counted

-- how many numbers are counted
abbrev pub counted_count : List Bool → ℕ
counted_count counted = count_by (λ b. b) counted

-- what is left to do where numbers rise: each does so once
abbrev pub rising_work : List Count → ℕ
rising_work counts = uncounted_count (seen counts 0).counted * (length counts + 1) + queued_count counts

-- what is left to do where numbers fall: each does so once
abbrev pub falling_work : List Count → ℕ
falling_work counts = counted_count (seen counts 0).counted * (length counts + 1) + queued_count counts

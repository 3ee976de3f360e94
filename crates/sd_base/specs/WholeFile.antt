-- What a reading of a whole file answers.
use Rattle.std.specs.Prelude.{◌≡◌, ◌⊎◌, ℕ, ◌+◌, ◌<◌, ◌≤◌, List, length, Option, Result, Ok, Err}
use Rattle.sd_base.specs.Files.{Files, HasBytes}
use Rattle.sd_base.specs.Shelf.{Hand, NoFile, Reading, IsReading}
use Rattle.sd_base.specs.declared.read_whole.ReadError.{ReadError}
use Rattle.sd_base.specs.declared.read_whole.ReadError.TheVariants.{ReadFault, TooLong, OutOfMemory}

-- All bytes of a file, or that they are more than so many; memory may run out instead.
abbrev pub IsReadingOf : List ℕ → ℕ → Result (List ℕ) ReadError → Type 0
IsReadingOf bytes most (Ok read) = (read ≡ bytes) × (length bytes ≤ most)
IsReadingOf bytes most (Err ReadFault) = ⊥
IsReadingOf bytes most (Err TooLong) = most < length bytes
IsReadingOf bytes most (Err OutOfMemory) = Unit {0}

-- A fault leaves no file in hand; else the one that is read stays there.
abbrev pub IsHeldAfter : Result (Unit {0}) ReadError → Hand → Type 0
IsHeldAfter (Ok done) hand = IsReading hand
IsHeldAfter (Err ReadFault) hand = hand ≡ NoFile
IsHeldAfter (Err TooLong) hand = IsReading hand
IsHeldAfter (Err OutOfMemory) hand = IsReading hand

-- where it lies in the file then: at its end, or a byte past so many
abbrev pub IsPlacedAfter : List ℕ → ℕ → List ℕ → Result (Unit {0}) ReadError → Hand → Type 0
IsPlacedAfter name most bytes (Ok done) hand = hand ≡ Reading name (length bytes)
IsPlacedAfter name most bytes (Err ReadFault) hand = Unit {0}
IsPlacedAfter name most bytes (Err TooLong) hand = hand ≡ Reading name (most + 1)
IsPlacedAfter name most bytes (Err OutOfMemory) hand = Unit {0}

-- the named file was read to its end, and has at most so many bytes
pub record IsReadWhole (told : Option Files) (name : List ℕ) (most : ℕ) (hand : Hand) : Type 0 where
  pub bytes : List ℕ
  pub has : HasBytes told name bytes
  pub at_end : hand ≡ Reading name (length bytes)
  pub within : length bytes ≤ most

-- What the shelf tells as unfinished before and afterwards: it is changed only where the `finish` of this reading
-- failed, and then it says how far the file was read. So a failed `finish` is a fault only of a file read whole.
abbrev pub IsLeftUnfinished : Option Files → List ℕ → ℕ → Result (List ℕ) ReadError → Hand → Hand → Type 0
IsLeftUnfinished told name most (Ok read) old new = new ≡ old
IsLeftUnfinished told name most (Err ReadFault) old new = (new ≡ old) ⊎ IsReadWhole told name most new
IsLeftUnfinished told name most (Err TooLong) old new = (new ≡ old) ⊎ (new ≡ Reading name (most + 1))
IsLeftUnfinished told name most (Err OutOfMemory) old new = (new ≡ old) ⊎ IsReading new

-- What is in the hand of the real shelf, and what was when a `finish` last failed.
use Rattle.std.specs.Prelude.{ℕ, List, Option, Some, None}
use Rattle.sd_base.specs.Shelf.{Hand, NoFile, Reading, Writing}
use Rattle.sd_cli.specs.declared.file_shelf.InHand.{InHand}
use Rattle.sd_cli.specs.declared.file_shelf.InHand.TheVariants.{Nothing, Read, Write}

-- what is in hand, as contracts see it
abbrev pub hand_of : {F : Type 0} → InHand F → Hand
hand_of Nothing = NoFile
hand_of (Read file name offset) = Reading name offset
hand_of (Write file name) = Writing name

-- the file that was written when a `finish` last failed; no file before that
abbrev pub unfinished_of : Option (List ℕ) → Hand
unfinished_of None = NoFile
unfinished_of (Some name) = Writing name

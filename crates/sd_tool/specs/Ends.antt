-- How a run ends: its status, and its line on `err`.
use Rattle.std.specs.Prelude.{ℕ, List, [], ◌∷◌, ◌++◌, Option, codes}
use Rattle.std.specs.Option.{option_map_or}
use Rattle.sd_model.specs.Text.{number_text}
use Rattle.sd_commands.specs.Effects.{Effect, Write, Print}

-- how a run ends
pub data End : Type 0 where
  -- all commands were done
  Finished : End
  -- the words or a text were refused, with this status and this text of the line
  Refused : ℕ × List ℕ → End
  -- an input file was not read
  Unreadable : (file : List ℕ) → End
  -- the effect in hand failed
  Unwritable : Effect → End
  -- no memory was left
  OutOfMemory : End
  -- the arena of the diagrams would have to hold so many elements
  ArenaFull : (elements : ℕ) → End
  -- the vtree cannot be moved as the command of a line says
  NotMovable : (line : ℕ) → End
  -- the total size passes the limit, at the command of a line, or there at a group of the input
  OverLimit : (line : ℕ) (group : Option ℕ) (size limit : ℕ) → End

-- The table of answers: the status of each end, and the text of its line after the name of the program.
abbrev pub answer_of : End → ℕ × List ℕ
answer_of Finished = (0, [])
answer_of (Refused answer) = answer
answer_of (Unreadable file) = (5, file ++ codes ": read fault")
answer_of (Unwritable (Write file bytes)) = (6, file ++ codes ": write fault")
answer_of (Unwritable (Print line)) = (6, codes "output: write fault")
answer_of OutOfMemory = (7, codes "out of memory")
answer_of (ArenaFull elements) = (8, codes "arena full: " ++ number_text elements)
answer_of (NotMovable line) = (3, codes "line " ++ number_text line ++ codes ": not movable")
answer_of (OverLimit line group size limit) = (
  4,
  codes "line " ++ number_text line
      ++ option_map_or (λ number. codes ": group " ++ number_text number) group []
      ++ codes ": size " ++ number_text size ++ codes " passes limit " ++ number_text limit,
)

-- the status of an end
abbrev pub status_of : End → ℕ
status_of end = (answer_of end).0

-- ---- for the contracts of private functions, and for proofs

-- a group of the input, if it is told
abbrev pub group_text : Option ℕ → List ℕ
group_text group = option_map_or (λ number. codes ": group " ++ number_text number) group []

-- the text of the line of an end
abbrev pub text_of : End → List ℕ
text_of end = (answer_of end).1

-- a line on `err`
abbrev pub line_of : List ℕ → List ℕ
line_of text = codes "sddc: " ++ text ++ 10 ∷ []

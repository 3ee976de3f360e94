-- A script as it is seen, and the command that the words of a line stand for.
use Rattle.std.specs.Prelude.{ℕ, ◌-◌, Bool, true, false, not, if◌then◌else◌, bytes_eq, codes}
use Rattle.std.specs.Prelude.{Option, Some, None, option_map}
use Rattle.std.specs.Prelude.{List, [], ◌∷◌, ◌++◌, length, take, drop, map, fold}
use Rattle.std.specs.List.{list_any, position_or_len}
use Rattle.std.specs.Bool.{then_some}
use Rattle.std.specs.Option.{option_and_then}
use Rattle.sd_base.specs.Words.{is_filled}
use Rattle.sd_model.specs.declared.trees.Move.TheVariants.{RotateLeft, RotateRight, Swap}
use Rattle.sd_model.specs.declared.trees.Move.{Move}
use Rattle.sd_model.specs.declared.trees.Operation.{Operation}
use Rattle.sd_model.specs.declared.trees.Operation.TheVariants.{And, Or, Xor}
use Rattle.sd_script.specs.declared.command.Action.{Action}
use Rattle.sd_script.specs.declared.command.Action.TheVariants.{Input, Load, Output, Lit, Constant, Binary, Not}
use Rattle.sd_script.specs.declared.command.Action.TheVariants.{Given, Forget, Drop, Turn, Minimise, Limit}
use Rattle.sd_script.specs.declared.command.Action.TheVariants.{Same, Size, Value, Write, Vtree}
use Rattle.sd_script.specs.declared.command.Command.{Command}
use Rattle.sd_script.specs.Forms.{Word, is_name, are_names, is_file_name, bits_of, number_of}
use Rattle.sd_script.specs.Forms.{literal_of, variable_of}

-- A script as it is seen. The names, and apart from them the files, stand in the order in which
-- they are first seen, and the commands have their indices there, counted from 0.
pub record Script : Type 0 where
  pub commands : List Command
  pub names : List Word
  pub files : List Word

-- the script before its first line
abbrev pub empty : Script
empty = record { commands = []; names = []; files = [] }

-- ---- numbers in first-seen order

-- the distinct words with one more
unfoldable pub see : List Word → Word → List Word
see words word = if list_any (bytes_eq word) words then words else words ++ word ∷ []

-- the distinct words with more of them, in order
abbrev pub see_all : List Word → List Word → List Word
see_all words more = fold see words more

-- the number of a word: its index among the distinct words
unfoldable pub number_of_word : List Word → Word → ℕ
number_of_word words word = position_or_len (bytes_eq word) words

-- ---- the parts of a line

-- the names and files so far
pub record Seen : Type 0 where
  pub names : List Word
  pub files : List Word

-- what was seen so far, and the words of a line that are left
abbrev pub Rest : Type 0
Rest = Seen × List Word

-- a part of a line: where the words that are left have its form, its value, and what is left behind it
abbrev pub Part : Type 0 → Type 0
Part A = Rest → Option (A × Rest)

-- a part, and then another by its value
infixl 10 ◌>>=◌
abbrev pub ◌>>=◌ : {A B : Type 0} → Part A → (A → Part B) → Part B
part >>= more = λ rest. option_and_then (λ (x, next). more x next) (part rest)

-- no more words
abbrev pub pure : {A : Type 0} → A → Part A
pure x = λ rest. Some (x, rest)

-- a word with a value of its own
abbrev pub value : {A : Type 0} → (Word → Option A) → Part A
value read (s, []) = None
value read (s, word ∷ words) = option_map (λ x. (x, (s, words))) (read word)

-- a name, with its number as its value
abbrev pub name : Part ℕ
name (s, []) = None
name (s, word ∷ words) = let all = see s.names word in
    then_some (is_name word) (number_of_word all word, (record s { names = all }, words))

-- a word that names a file, with its number as its value
abbrev pub file : Part ℕ
file (s, []) = None
file (s, word ∷ words) = let all = see s.files word in
    then_some (is_file_name word) (number_of_word all word, (record s { files = all }, words))

-- names, which are all words but the last, with their numbers
abbrev pub names : Part (List ℕ)
names (s, words) = let most = length words - 1 in let own = take most words in
    let all = see_all s.names own in
    then_some (are_names own)
    (map (number_of_word all) own, (record s { names = all }, drop most words))

-- ---- the table of commands, over v variables: what stands behind the first word

-- a write of names to a file
abbrev pub write_row : Part Action
write_row = do pure (Write (← names) (← file))

-- a constant
abbrev pub constant_row : Bool → Part Action
constant_row b = do pure (Constant (← name) b)

-- a move of the vtree
abbrev pub turn_row : Move → Part Action
turn_row kind = do pure (Turn kind (← value number_of))

-- two formulas joined
abbrev pub binary_row : Operation → Part Action
binary_row operation = do pure (Binary operation (← name) (← name) (← name))

-- the rows of the commands that bind no name, and neither free one, nor write names, nor turn the vtree
abbrev pub last_rows : ℕ → Word → Part Action
last_rows v command =
    if bytes_eq command (codes "minimise") then (do pure (Minimise (← value number_of)))
    else if bytes_eq command (codes "limit") then (do pure (Limit (← value number_of)))
    else if bytes_eq command (codes "size") then (do pure (Size (← name)))
    else if bytes_eq command (codes "vtree") then (do pure (Vtree (← file)))
    else if bytes_eq command (codes "same") then (do pure (Same (← name) (← name)))
    else if bytes_eq command (codes "value") then (do pure (Value (← name) (← value (bits_of v))))
    else (λ rest. None)

-- those of all commands that bind no name
abbrev pub other_rows : ℕ → Word → Part Action
other_rows v command =
    if bytes_eq command (codes "write") then write_row
    else if bytes_eq command (codes "drop") then (do pure (Drop (← name)))
    else if bytes_eq command (codes "rotl") then turn_row RotateLeft
    else if bytes_eq command (codes "rotr") then turn_row RotateRight
    else if bytes_eq command (codes "swap") then turn_row Swap
    else last_rows v command

-- those of the commands that bind a name to a formula with a variable less, and then the others
abbrev pub narrowed_rows : ℕ → Word → Part Action
narrowed_rows v command =
    if bytes_eq command (codes "given") then (do pure (Given (← name) (← name) (← value literal_of)))
    else if bytes_eq command (codes "forget") then (do pure (Forget (← name) (← name) (← value variable_of)))
    else other_rows v command

-- those of the commands that bind a name to what is made of other names, and then the others
abbrev pub made_rows : ℕ → Word → Part Action
made_rows v command =
    if bytes_eq command (codes "not") then (do pure (Not (← name) (← name)))
    else if bytes_eq command (codes "and") then binary_row And
    else if bytes_eq command (codes "or") then binary_row Or
    else if bytes_eq command (codes "xor") then binary_row Xor
    else narrowed_rows v command

-- those of the commands that bind a name to what has a number, and then the others
abbrev pub numbered_rows : ℕ → Word → Part Action
numbered_rows v command =
    if bytes_eq command (codes "output") then (do pure (Output (← name) (← value number_of)))
    else if bytes_eq command (codes "lit") then (do pure (Lit (← name) (← value literal_of)))
    else made_rows v command

-- all of them: first those of the commands that bind a name to what needs no other
abbrev pub table : ℕ → Word → Part Action
table v command =
    if bytes_eq command (codes "input") then (do pure (Input (← name)))
    else if bytes_eq command (codes "true") then constant_row true
    else if bytes_eq command (codes "false") then constant_row false
    else if bytes_eq command (codes "load") then (do pure (Load (← name) (← file)))
    else numbered_rows v command

-- ---- a line

-- a command behind which no word is left, and what was seen then
abbrev pub whole : Action × Rest → Option (Action × Seen)
whole (action, (seen, words)) = then_some (not (is_filled words)) (action, seen)

-- the command of the words of a line, and what was seen then
abbrev pub line_command : ℕ → Seen → List Word → Option (Action × Seen)
line_command v seen [] = None
line_command v seen (command ∷ words) = option_and_then whole (table v command (seen, words))

-- a command, and a script with what was seen then
abbrev pub with_seen : Script → Action × Seen → Action × Script
with_seen s (action, seen) = (action, record s { names = seen.names; files = seen.files })

-- the command of the words of a line, and the script with its names and files
unfoldable pub command_of : ℕ → Script → List Word → Option (Action × Script)
command_of v s words =
    option_map (with_seen s) (line_command v (record { names = s.names; files = s.files }) words)

-- The formula that a text of DIMACS stands for, or the text of its first fault, behind the name of the file.
use Rattle.std.specs.Prelude.{◌≡◌, ℕ, ◌-◌, Bool, true, false, not, ◌||◌, ◌==◌, nat_lt}
use Rattle.std.specs.Prelude.{if◌then◌else◌, codes, bytes_eq}
use Rattle.std.specs.Prelude.{List, [], ◌∷◌, ◌++◌, length, take, drop, filter, map, flat_map, take_while}
use Rattle.std.specs.Prelude.{ℤ, unsigned_abs, Option, Some, None, ok_or, Result, Ok, Err}
use Rattle.std.specs.Option.{option_map, option_map_or, option_zip}
use Rattle.std.specs.List.{last_or, slice_split}
use Rattle.sd_base.specs.Words.{is_filled}
use Rattle.sd_base.specs.Lines.{TextLine, content_of, begins_with}
use Rattle.sd_base.specs.Numbers.{natural_value, integer_value, is_within}
use Rattle.sd_base.specs.Reading.{◌>>=◌, ◌>>◌, fault_if, each}
use Rattle.sd_model.specs.Expression.{Group}
use Rattle.sd_model.specs.Text.{number_text}
use Rattle.sd_base.specs.FaultTexts.{at_line, counts, signed_text}
use Rattle.sd_formula.specs.declared.formula.Kind.{Kind}
use Rattle.sd_formula.specs.declared.formula.Kind.TheVariants.{Cnf, Dnf}
use Rattle.sd_formula.specs.declared.error.FormulaError.{FormulaError}
use Rattle.sd_formula.specs.declared.error.FormulaError.TheVariants as fault

-- A formula as it is seen: a literal is a number of DIMACS, n or -n, and each group is a clause, an exclusive group
-- or a term.
pub record Groups : Type 0 where
  pub kind : Kind
  pub variables : ℕ
  pub groups : List Group

-- ---- the header: the words p and cnf or dnf, and the numbers of variables and groups

-- the two numbers of a header
pub record Stated : Type 0 where
  pub variables : ℕ
  pub groups : ℕ

-- the word for the kind
abbrev pub kind_word : Kind → List ℕ
kind_word Cnf = codes "cnf"
kind_word Dnf = codes "dnf"

-- the first word of a line is p
abbrev pub is_header : List (List ℕ) → Bool
is_header [] = false
is_header (word ∷ words) = bytes_eq word (codes "p")

-- the numbers in the words after the first
abbrev pub stated_in : Kind → List (List ℕ) → Option Stated
stated_in kind (name ∷ variables ∷ groups ∷ []) =
    if bytes_eq name (kind_word kind)
    then option_map (λ (v, g). record { variables = v; groups = g })
    (option_zip (natural_value variables) (natural_value groups))
    else None
stated_in kind words = None

-- they are 1 to 1,024 variables and at most 1,000,000 groups, or the first that is not has this fault
abbrev pub counts_in_range : Stated → Result Stated (List ℕ)
counts_in_range stated = do
  fault_if (not (is_within 1 1024 stated.variables))
      (codes ": variables out of range: " ++ number_text stated.variables)
  fault_if (nat_lt 1000000 stated.groups)
      (codes ": too many groups: " ++ number_text stated.groups)
  Ok stated

-- the numbers of a header line, or the text of its fault
abbrev pub stated_of : Kind → TextLine → Result Stated (List ℕ)
stated_of kind line = do
  fault_if (not (is_header line.words)) (codes ": no header")
  stated ← ok_or (stated_in kind (drop 1 line.words)) (at_line line.number (codes ": bad header"))
  counts_in_range stated

-- ---- the body: the lines before the first that begins with %, which ends the files of the collection SATLIB;
-- ---- as words with their lines

-- a word of the body, with the number of its line
pub record BodyWord : Type 0 where
  pub line : ℕ
  pub bytes : List ℕ

-- the words of a line
abbrev pub words_at : TextLine → List BodyWord
words_at line = map (λ word. record { line = line.number; bytes = word }) line.words

-- the words of the lines up to the first that begins with %
abbrev pub body_words : List TextLine → List BodyWord
body_words lines = flat_map words_at (take_while (λ line. not (begins_with 37 line.words)) lines)

-- the literal, or the zero, of a word
abbrev pub literal_of_word : ℕ → BodyWord → Result ℤ (List ℕ)
literal_of_word variables word = do
  z ← ok_or (integer_value word.bytes) (at_line word.line (codes ": bad word"))
  fault_if (nat_lt variables (unsigned_abs z))
      (at_line word.line (codes ": literal out of range: " ++ signed_text z))
  Ok z

-- ---- the groups: the parts of the words between zeros, where nothing stands after the last zero; under cnf a part
-- ---- that begins with the mark is an exclusive group of the literals after it

-- what follows the x that a word begins with, under cnf
abbrev pub after_mark : Kind → List ℕ → Option (List ℕ)
after_mark Cnf (byte ∷ bytes) = if byte == 120 then Some bytes else None
after_mark kind bytes = None

-- the words that a word stands for: itself, or the mark and, where bytes follow it, a further word of these
abbrev pub word_pieces : Kind → BodyWord → List BodyWord
word_pieces kind word =
    option_map_or (λ rest. map (λ piece. record word { bytes = piece })
    (filter is_filled (codes "x" ∷ rest ∷ []))) (after_mark kind word.bytes) (word ∷ [])

-- the mark
abbrev pub is_mark : Kind → BodyWord → Bool
is_mark Cnf word = bytes_eq word.bytes (codes "x")
is_mark Dnf word = false

-- a zero
abbrev pub is_zero : ℤ → Bool
is_zero z = unsigned_abs z == 0

-- a word that ends a group: a zero
abbrev pub is_end_word : BodyWord → Bool
is_end_word word = option_map_or is_zero (integer_value word.bytes) false

-- the literals of words, as a group
abbrev pub literals_group : ℕ → Bool → List BodyWord → Result Group (List ℕ)
literals_group variables exclusive words = do
  literals ← each (literal_of_word variables) words
  Ok (record { exclusive = exclusive; literals = literals })

-- the group of the words between two zeros; a mark that is not the first is no literal
abbrev pub group_of : Kind → ℕ → List BodyWord → Result Group (List ℕ)
group_of kind variables [] = literals_group variables false []
group_of kind variables (word ∷ words) =
    if is_mark kind word
    then literals_group variables true words
    else literals_group variables false (word ∷ words)

-- a mark or a literal
abbrev pub has_begun : Group → Bool
has_begun group = group.exclusive || not (length group.literals == 0)

-- the parts that a zero ends
abbrev pub all_but_last : List Group → List Group
all_but_last parts = take (length parts - 1) parts

-- the formula of the parts, of which the last is empty and the others are as many as was stated
abbrev pub groups_of : Kind → Stated → List Group → Result Groups (List ℕ)
groups_of kind stated parts =
    let groups = all_but_last parts in
    let found = length groups in do
      fault_if (option_map_or has_begun (last_or None parts) false)
          (codes ": last group is not ended")
      fault_if (not (stated.groups == found)) (counts stated.groups found)
      Ok (record { kind = kind; variables = stated.variables; groups = groups })

-- ---- the text: blank lines and comments, which begin with c, are passed over, and the header is the first line that
-- ---- is left

-- the formula of a header and the lines after it
abbrev pub formula_of : Kind → List TextLine → Result Groups (List ℕ)
formula_of kind [] = Err (codes ": no header")
formula_of kind (header ∷ lines) = do
  stated ← stated_of kind header
  parts ← each (group_of kind stated.variables)
      (slice_split is_end_word (flat_map (word_pieces kind) (body_words lines)))
  groups_of kind stated parts

-- the formula of a text, or the text of its first fault
unfoldable pub dimacs : Kind → List ℕ → Result Groups (List ℕ)
dimacs kind bytes = formula_of kind (content_of 99 bytes)

-- ---- what a reader answers

-- the text of a fault, after the file's name
abbrev pub formula_fault_text : FormulaError → List ℕ
formula_fault_text fault.NoHeader = codes ": no header"
formula_fault_text (fault.BadHeader n) = at_line n (codes ": bad header")
formula_fault_text (fault.VariablesRange v) = codes ": variables out of range: " ++ number_text v
formula_fault_text (fault.TooManyGroups s) = codes ": too many groups: " ++ number_text s
formula_fault_text (fault.BadWord n) = at_line n (codes ": bad word")
formula_fault_text (fault.LiteralRange n z) = at_line n (codes ": literal out of range: " ++ signed_text z)
formula_fault_text fault.Unterminated = codes ": last group is not ended"
formula_fault_text (fault.CountDiffers s f) = counts s f
formula_fault_text fault.OutOfMemory = []

-- a reading has the text of this fault; OutOfMemory says nothing of it
abbrev pub Fails : {Y : Type 0} → FormulaError → Result Y (List ℕ) → Type 0
Fails fault.OutOfMemory reading = Unit {0}
Fails found reading = reading ≡ Err (formula_fault_text found)

-- The answer, as view sees it, is what the reading gives, unless memory ran out.
abbrev pub Gives : {X Y : Type 0} → (X → Y) → Result X FormulaError → Result Y (List ℕ) → Type 0
Gives view (Ok x) reading = reading ≡ Ok (view x)
Gives view (Err e) reading = Fails e reading

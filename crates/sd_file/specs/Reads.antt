-- The nodes that an SDD file stands for, or the text of its first fault, behind the name of the file; and the file's
-- value.
use Rattle.std.specs.Prelude.{◌≡◌, ℕ, Bool, true, false, not, ◌&&◌, ◌==◌, ◌*◌, nat_le, if◌then◌else◌}
use Rattle.std.specs.Prelude.{List, [], ◌∷◌, map, length, position, Option, Some, None, ok_or, option_map}
use Rattle.std.specs.Prelude.{option_and_then, is_some, Result, Ok, Err, ℤ, unsigned_abs, codes, bytes_eq}
use Rattle.std.specs.Option.{option_zip}
use Rattle.sd_base.specs.Lines.{TextLine, content_of}
use Rattle.sd_base.specs.Numbers.{is_within, natural_value, integer_value}
use Rattle.sd_base.specs.Reading.{◌>>=◌, ◌>>◌, fault_if, each}
pub use Rattle.sd_vfile.specs.Reads.{all_values, nodes_of}
use Rattle.sd_model.specs.Expression.{FileNode, FileConstant, FileLiteral, FileDecomposition, Expression, OfFile}
use Rattle.sd_file.specs.declared.fault.SddFault.{SddFault}
use Rattle.sd_file.specs.declared.fault.SddFault.TheVariants.{NoHeader, BadLine, IdTwice, ChildUnknown}
use Rattle.sd_file.specs.declared.fault.SddFault.TheVariants.{LiteralRange, CountDiffers, Empty, OutOfMemory}
use Rattle.sd_base.specs.FaultTexts.{at_line, counts}

-- A node line: its id, and its node beside the vtree id that the line has, which is 0 for a constant. Primes and subs
-- are places in the list of the nodes before it.
pub record Entry : Type 0 where
  pub id : ℕ
  pub node : ℕ × FileNode

-- a file over the variables 1 to a number: its nodes in the order of their lines
pub record File : Type 0 where
  pub variables : ℕ
  pub nodes : List Entry

-- a node with its vtree id, as calls of this crate tell it
abbrev pub Node : Type 0
Node = ℕ × FileNode

-- a node without it
abbrev pub without_ids : Node → FileNode
without_ids node = node.1

-- ---- the four forms of a node line, as it is written, where primes and subs are ids: `F id`, `T id`,
-- ---- `L id vtree literal`, and `D id vtree k` with k pairs of ids

-- the constant of the words behind F or T
abbrev pub constant_form : Bool → List (List ℕ) → Option Entry
constant_form value (id ∷ []) =
    option_map (λ n. record { id = n; node = (0, FileConstant value) }) (natural_value id)
constant_form value words = None

-- the literal of the words behind L
abbrev pub literal_form : List (List ℕ) → Option Entry
literal_form (id ∷ vtree ∷ literal ∷ []) =
    option_map (λ (n, (p, z)). record { id = n; node = (p, FileLiteral z) })
    (option_zip (natural_value id) (option_zip (natural_value vtree) (integer_value literal)))
literal_form words = None

-- two by two
abbrev pub two_by_two : List ℕ → List (ℕ × ℕ)
two_by_two (p ∷ s ∷ others) = (p, s) ∷ two_by_two others
two_by_two others = []

-- the decomposition of the numbers behind D: an id, a vtree id, k, and k pairs, at least one
abbrev pub decomposition_form : List ℕ → Option Entry
decomposition_form (id ∷ vtree ∷ k ∷ children) =
    if nat_le 1 k && length children == 2 * k
    then Some (record { id = id; node = (vtree, FileDecomposition (two_by_two children)) })
    else None
decomposition_form numbers = None

-- the form that a line's words have
abbrev pub form_of : List (List ℕ) → Option Entry
form_of [] = None
form_of (letter ∷ words) =
    if bytes_eq letter (codes "F") then constant_form false words
    else if bytes_eq letter (codes "T") then constant_form true words
    else if bytes_eq letter (codes "L") then literal_form words
    else if bytes_eq letter (codes "D")
    then option_and_then decomposition_form (all_values natural_value words)
    else None

-- ---- the node of a form behind lines with these ids

-- the place of an id
abbrev pub index_of_id : ℕ → List ℕ → Option ℕ
index_of_id id ids = position (λ i. i == id) ids

-- the places of a prime and a sub, or the text of the fault where one is not there
abbrev pub pair_at : List ℕ → ℕ → ℕ × ℕ → Result (ℕ × ℕ) (List ℕ)
pair_at ids line (prime, sub) = do
  p ← ok_or (index_of_id prime ids) (at_line line (codes ": child unknown"))
  s ← ok_or (index_of_id sub ids) (at_line line (codes ": child unknown"))
  Ok (p, s)

-- the literal is one of a variable of 1 to v
abbrev pub is_literal : ℕ → ℤ → Bool
is_literal v z = is_within 1 v (unsigned_abs z)

-- the decomposition of these pairs of ids
abbrev pub decomposition_of : List ℕ → ℕ → ℕ → List (ℕ × ℕ) → Result Node (List ℕ)
decomposition_of ids line vtree pairs = do
  places ← each (pair_at ids line) pairs
  Ok (vtree, FileDecomposition places)

-- a node as it is written on a line, over the variables 1 to v, with places for ids
abbrev pub node_of : ℕ → List ℕ → ℕ → Node → Result Node (List ℕ)
node_of v ids line (vtree, FileConstant value) = Ok (vtree, FileConstant value)
node_of v ids line (vtree, FileLiteral literal) = do
  fault_if (not (is_literal v literal)) (at_line line (codes ": literal out of range"))
  Ok (vtree, FileLiteral literal)
node_of v ids line (vtree, FileDecomposition pairs) = decomposition_of ids line vtree pairs

-- the entry of a line behind lines with these ids
abbrev pub entry_with : ℕ → List ℕ → TextLine → Result Entry (List ℕ)
entry_with v ids line = do
  form ← ok_or (form_of line.words) (at_line line.number (codes ": bad line"))
  fault_if (is_some (index_of_id form.id ids)) (at_line line.number (codes ": id twice"))
  node ← node_of v ids line.number form.node
  Ok (record { id = form.id; node = node })

-- the entry of a line behind earlier ones
abbrev pub entry_of : ℕ → List Entry → TextLine → Result Entry (List ℕ)
entry_of v earlier line = entry_with v (map (λ e. e.id) earlier) line

-- ---- the text

-- the file of these nodes, where there is at least one
abbrev pub file_of : ℕ → List Entry → Result File (List ℕ)
file_of v entries = do
  fault_if (length entries == 0) (codes ": no nodes")
  Ok (record { variables = v; nodes = entries })

-- The file of a text over the variables 1 to v, or the text of its first fault, as the line of the end has it behind
-- the file's name. Blank lines and comments, which begin with c, are passed over.
unfoldable pub sdd_file : ℕ → List ℕ → Result File (List ℕ)
sdd_file v bytes = do
  entries ← nodes_of (codes "sdd") (entry_of v) (content_of 99 bytes)
  file_of v entries

-- the propositional formula of a file: that of its last node
abbrev pub expression_of_file : File → Expression
expression_of_file f = OfFile (map (λ e. without_ids e.node) f.nodes)

-- ---- what a reader answers

-- the text of a fault of an SDD file, after the file's name
abbrev pub sdd_fault_text : SddFault → List ℕ
sdd_fault_text NoHeader = codes ": no header"
sdd_fault_text (BadLine n) = at_line n (codes ": bad line")
sdd_fault_text (IdTwice n) = at_line n (codes ": id twice")
sdd_fault_text (ChildUnknown n) = at_line n (codes ": child unknown")
sdd_fault_text (LiteralRange n) = at_line n (codes ": literal out of range")
sdd_fault_text (CountDiffers s f) = counts s f
sdd_fault_text Empty = codes ": no nodes"
sdd_fault_text OutOfMemory = []

-- a reading has the text of this fault; OutOfMemory says nothing of it
abbrev pub Fails : {Y : Type 0} → SddFault → Result Y (List ℕ) → Type 0
Fails OutOfMemory reading = Unit {0}
Fails fault reading = reading ≡ Err (sdd_fault_text fault)

-- The answer, as view sees it, is what the reading gives, unless memory ran out.
abbrev pub Gives : {X Y : Type 0} → (X → Y) → Result X SddFault → Result Y (List ℕ) → Type 0
Gives view (Ok x) reading = reading ≡ Ok (view x)
Gives view (Err e) reading = Fails e reading

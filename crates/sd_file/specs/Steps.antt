-- How the reader goes on and keeps nodes, for the contracts of its private functions.
use Rattle.std.specs.Prelude.{◌≡◌, ℕ, ◌+◌, ◌≤◌, ◌==◌, not, List, [], ◌∷◌, ◌++◌, map, length, take, drop}
use Rattle.std.specs.Prelude.{Option, Result, Ok, codes}
use Rattle.std.specs.BTreeMap as tree
use Rattle.std.specs.List.{AllByRecursion}
use Rattle.std.specs.Ordering.{nat_cmp}
use Rattle.sd_base.specs.Lines.{TextLine}
use Rattle.sd_base.specs.FaultTexts.{counts}
use Rattle.sd_base.specs.Reading.{◌>>=◌, ◌>>◌, fault_if}
use Rattle.sd_model.specs.Expression.{FileConstant, FileLiteral, FileDecomposition}
use Rattle.sd_file.specs.declared.file.FileNode.{FileNode}
use Rattle.sd_file.specs.declared.file.FileNode.TheVariants as kinds
use Rattle.sd_file.specs.declared.file.FileEntry.{FileEntry}
use Rattle.sd_file.specs.declared.form.Form as forms
use Rattle.sd_file.specs.declared.form.Form.TheVariants.{ConstantLine, LiteralLine, DecompositionLine}
use Rattle.sd_file.specs.declared.id_table.IdTable.{IdTable}
use Rattle.sd_file.specs.declared.reader.Nodes.{Nodes}
use Rattle.sd_vfile.specs.Reads.{stated_behind}
use Rattle.sd_vfile.specs.Steps.{of_nodes}
use Rattle.sd_file.specs.Reads.{Node, Entry, File, two_by_two, index_of_id, entry_of, file_of}

-- ---- the steps of a reading

-- the number of a header `sdd N`
abbrev pub stated_by : List (List ℕ) → Option ℕ
stated_by words = stated_behind (codes "sdd") words

-- the file of all node lines, where the header states a number of them
abbrev pub finish : ℕ → ℕ → List Entry → Result File (List ℕ)
finish v stated entries = do
  fault_if (not (stated == length entries)) (counts stated (length entries))
  file_of v entries

-- the file of a header `sdd N` and the lines after it
abbrev pub file_of_lines : ℕ → List TextLine → Result File (List ℕ)
file_of_lines v lines =
    of_nodes (codes "sdd") (codes ": no header") counts (entry_of v) (file_of v) lines

-- ---- a line

-- a line as it is written
abbrev pub form_view : forms.Form → Entry
form_view (ConstantLine id value) = record { id = id; node = (0, FileConstant value) }
form_view (LiteralLine id vtree literal) = record { id = id; node = (vtree, FileLiteral literal) }
form_view (DecompositionLine id vtree children) =
    record { id = id; node = (vtree, FileDecomposition (two_by_two children.items)) }

-- how many ids of children it has
abbrev pub children_count : forms.Form → ℕ
children_count (ConstantLine id value) = 0
children_count (LiteralLine id vtree literal) = 0
children_count (DecompositionLine id vtree children) = length children.items

-- ---- nodes over one list of pairs

-- a node whose pairs begin at an index
abbrev pub node_in : List (ℕ × ℕ) → ℕ → FileNode → Node
node_in pairs start (kinds.Constant value) = (0, FileConstant value)
node_in pairs start (kinds.Literal vtree literal) = (vtree, FileLiteral literal)
node_in pairs start (kinds.Decomposition vtree count) = (vtree, FileDecomposition (take count (drop start pairs)))

-- how many pairs a node has
abbrev pub count_of : FileNode → ℕ
count_of (kinds.Constant value) = 0
count_of (kinds.Literal vtree literal) = 0
count_of (kinds.Decomposition vtree count) = count

-- a node as it is kept
abbrev pub entry_in : List (ℕ × ℕ) → FileEntry → Entry
entry_in pairs k = record { id = k.id; node = node_in pairs k.start k.node }

-- nodes as they are kept
abbrev pub entries_of : List FileEntry → List (ℕ × ℕ) → List Entry
entries_of kept pairs = map (entry_in pairs) kept

-- a file of these nodes
abbrev pub file_with : ℕ → List Entry → File
file_with variables entries = record { variables = variables; nodes = entries }

-- the pairs of a node are among a number of them
abbrev pub IsWithin : ℕ → FileEntry → Type 0
IsWithin total k = k.start + count_of k.node ≤ total

-- pairs with others put behind them
pub record IsPutIn (before after : List (ℕ × ℕ)) : Type 0 where
  pub more : List (ℕ × ℕ)
  pub is : after ≡ before ++ more

-- what was read, with a list in front
abbrev pub put_before : {B E : Type 0} → List B → Result (List B) E → Result (List B) E
put_before front reading = do
  ys ← reading
  Ok (front ++ ys)

-- ---- the nodes that were read

-- their ids
abbrev pub ids_of : IdTable → List ℕ
ids_of table = map (λ k. k.id) table.entries.items

-- the map has the index of each id
pub record IsIndexed (table : IdTable) : Type 0 where
  pub indices : (id : ℕ) → tree.get nat_cmp table.indices id ≡ index_of_id id (ids_of table)

-- the nodes
abbrev pub nodes_view : Nodes → List Entry
nodes_view n = entries_of n.id_table.entries.items n.pairs.items

-- the map has the index of each id, and pairs are in the list
pub record IsRead (n : Nodes) : Type 0 where
  pub indexed : IsIndexed n.id_table
  pub within : AllByRecursion (IsWithin (length n.pairs.items)) n.id_table.entries.items

-- how many words the lines have
abbrev pub word_count : List TextLine → ℕ
word_count [] = 0
word_count (line ∷ lines) = length line.words + word_count lines

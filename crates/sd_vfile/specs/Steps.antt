-- How the reader goes on and keeps node lines, for the contracts of its private functions.
use Rattle.std.specs.Prelude.{◌≡◌, ℕ, ◌≤◌, ◌<◌, Bool, true, false, ◌==◌, List, [], ◌∷◌, ◌++◌, length, take}
use Rattle.std.specs.Prelude.{slice_index_or, Option, Some, None, ok_or, Result, Err, codes, not}
use Rattle.std.specs.List.{fold, list_any}
use Rattle.sd_base.specs.FaultTexts.{counts}
use Rattle.sd_base.specs.Lines.{TextLine}
use Rattle.sd_base.specs.Numbers.{natural_value}
use Rattle.sd_base.specs.Reading.{◌>>=◌, ◌>>◌, fault_if, each_after}
use Rattle.sd_model.specs.Tree.{Tree, Leaf, Node}
use Rattle.sd_vfile.specs.declared.form.Form.{Form}
use Rattle.sd_vfile.specs.declared.form.Form.TheVariants.{LeafLine, InnerLine}
use Rattle.sd_vfile.specs.Reads.{Entry, tree_with_id, has_id, is_leaf, stated_behind, entry_of, tree_of_entries}

-- ---- the steps of a reading

-- What is made of the nodes of a file, where its lines are a header of a word and the number of the nodes, and the
-- nodes, each in the light of the earlier ones. Without the header, and where the number differs, it has these faults.
abbrev pub of_nodes : {A B E : Type 0} → List ℕ → E → (ℕ → ℕ → E)
    → (List A → TextLine → Result A E) → (List A → Result B E) → List TextLine → Result B E
of_nodes word no_header differs node made [] = Err no_header
of_nodes word no_header differs node made (header ∷ lines) = do
  stated ← ok_or (stated_behind word header.words) no_header
  nodes ← each_after node [] lines
  fault_if (not (stated == length nodes)) (differs stated (length nodes))
  made nodes

-- the number of a header `vtree N`
abbrev pub stated_by : List (List ℕ) → Option ℕ
stated_by words = stated_behind (codes "vtree") words

-- the tree of all node lines, where the header states a number of them
abbrev pub whole_tree : ℕ → ℕ → List Entry → Result Tree (List ℕ)
whole_tree v stated entries = do
  fault_if (not (stated == length entries)) (counts stated (length entries))
  tree_of_entries v entries

-- the tree of a header `vtree N` and the lines after it
abbrev pub tree_of_lines : ℕ → List TextLine → Result Tree (List ℕ)
tree_of_lines v lines =
    of_nodes (codes "vtree") (codes ": no header") counts (entry_of v) (tree_of_entries v) lines

-- ---- the form of a line, as it is read word by word

-- a leaf, where both numbers are there
abbrev pub leaf_of : Option ℕ → Option ℕ → Option Form
leaf_of (Some id) (Some variable) = Some (LeafLine id variable)
leaf_of id variable = None

-- an internal node, where all three numbers are there
abbrev pub inner_of : Option ℕ → Option ℕ → Option ℕ → Option Form
inner_of (Some id) (Some left) (Some right) = Some (InnerLine id left right)
inner_of id left right = None

-- the leaf of the words after the letter L
abbrev pub leaf_form : List (List ℕ) → Option Form
leaf_form (id ∷ variable ∷ []) = leaf_of (natural_value id) (natural_value variable)
leaf_form words = None

-- the internal node of the words after the letter I
abbrev pub inner_form : List (List ℕ) → Option Form
inner_form (id ∷ left ∷ right ∷ []) = inner_of (natural_value id) (natural_value left) (natural_value right)
inner_form words = None

-- ---- what a line has by itself

-- its id
abbrev pub id_of : Form → ℕ
id_of (LeafLine id x) = id
id_of (InnerLine id left right) = id

-- the ids of its children
abbrev pub children_of : Form → List ℕ
children_of (LeafLine id x) = []
children_of (InnerLine id left right) = left ∷ right ∷ []

-- an id is that of a child
abbrev pub has_child : ℕ → Form → Bool
has_child id form = list_any (λ child. child == id) (children_of form)

-- it is the leaf of a variable
abbrev pub is_leaf_line : ℕ → Form → Bool
is_leaf_line x (LeafLine id y) = y == x
is_leaf_line x (InnerLine id left right) = false

-- ---- the nodes of lines, one after another

-- a tree that is there, or a leaf of no variable
abbrev pub or_nothing : Option Tree → Tree
or_nothing (Some t) = t
or_nothing None = Leaf 0

-- the tree of the line with an id
abbrev pub tree_with : ℕ → List Entry → Tree
tree_with id entries = or_nothing (tree_with_id id entries)

-- the tree of a line after earlier ones
abbrev pub tree_after : List Entry → Form → Tree
tree_after earlier (LeafLine id x) = Leaf x
tree_after earlier (InnerLine id left right) = Node (tree_with left earlier) (tree_with right earlier)

-- the node of a line after earlier ones
abbrev pub entry_after : List Entry → Form → Entry
entry_after earlier form =
    record { id = id_of form; tree = tree_after earlier form; children = children_of form }

-- one more line behind nodes
abbrev pub grow : List Entry → Form → List Entry
grow earlier form = earlier ++ entry_after earlier form ∷ []

-- the nodes of lines
unfoldable pub entries_of : List Form → List Entry
entries_of forms = fold grow [] forms

-- no node
abbrev pub no_entry : Entry
no_entry = record { id = 0; tree = Leaf 0; children = [] }

-- the tree at an index
abbrev pub entry_tree : List Entry → ℕ → Tree
entry_tree entries index = (slice_index_or entries index no_entry).tree

-- ---- what is known of lines that were read

-- the id is new, a leaf has a variable of 1 to v, and children are on earlier lines
pub record IsWellFormed (v : ℕ) (earlier : List Entry) (e : Entry) : Type 0 where
  pub new : has_id e.id earlier ≡ false
  pub variable : (x : ℕ) → is_leaf x e.tree ≡ true → x ≤ v
  pub children : (id : ℕ) → list_any (λ child. child == id) e.children ≡ true → has_id id earlier ≡ true

-- this is so of each line
abbrev pub AreWellFormed : ℕ → List Entry → Type 0
AreWellFormed v entries =
    (p : ℕ) → p < length entries → IsWellFormed v (take p entries) (slice_index_or entries p no_entry)

-- The tree that a vtree file stands for, or the text of its first fault, behind the name of the file.
use Rattle.std.specs.Prelude.{◌≡◌, ℕ, ◌+◌, ◌/◌, ◌%◌, Bool, false, not, ◌||◌, ◌==◌, nat_lt, if◌then◌else◌}
use Rattle.std.specs.Prelude.{codes, bytes_eq}
use Rattle.std.specs.Prelude.{List, [], ◌∷◌, ◌++◌, length, filter, find}
use Rattle.std.specs.Prelude.{Option, Some, None, ok_or, option_and_then, option_map, Result, Ok, Err}
use Rattle.std.specs.List.{list_any, range_with_len}
use Rattle.sd_base.specs.Lines.{TextLine, content_of}
use Rattle.sd_base.specs.Numbers.{is_within, natural_value}
use Rattle.sd_base.specs.Reading.{◌>>=◌, ◌>>◌, fault_if, fault_for, each_after}
use Rattle.sd_model.specs.Text.{number_text}
use Rattle.sd_model.specs.Tree.{Tree, Leaf, Node}
use Rattle.sd_base.specs.FaultTexts.{at_line, counts}
use Rattle.sd_vfile.specs.declared.fault.VtreeFault.{VtreeFault}
use Rattle.sd_vfile.specs.declared.fault.VtreeFault.TheVariants as fault
use Rattle.sd_vfile.specs.declared.form.Form.{Form}
use Rattle.sd_vfile.specs.declared.form.Form.TheVariants.{LeafLine, InnerLine}

-- a node line: its id, the tree below it, and the ids of its children
pub record Entry : Type 0 where
  pub id : ℕ
  pub tree : Tree
  pub children : List ℕ

-- ---- the form of a node line

-- each element where all have a value
abbrev pub all_values : {A B : Type 0} → (A → Option B) → List A → Option (List B)
all_values f [] = Some []
all_values f (x ∷ xs) = option_and_then (λ y. option_map (λ ys. y ∷ ys) (all_values f xs)) (f x)

-- the form of a letter and the numbers behind it: a leaf is `L id variable`, an inner node `I id left right`
abbrev pub form_with : List ℕ → List ℕ → Option Form
form_with letter (id ∷ variable ∷ []) =
    if bytes_eq letter (codes "L") then Some (LeafLine id variable) else None
form_with letter (id ∷ left ∷ right ∷ []) =
    if bytes_eq letter (codes "I") then Some (InnerLine id left right) else None
form_with letter numbers = None

-- the form that a line's words have
abbrev pub form_of : List (List ℕ) → Option Form
form_of [] = None
form_of (letter ∷ words) = option_and_then (form_with letter) (all_values natural_value words)

-- ---- what the earlier lines have

-- the tree of the line with an id
abbrev pub tree_with_id : ℕ → List Entry → Option Tree
tree_with_id id entries = option_map (λ e. e.tree) (find (λ e. e.id == id) entries)

-- a line has the id
abbrev pub has_id : ℕ → List Entry → Bool
has_id id entries = list_any (λ e. e.id == id) entries

-- a line has the id as that of a child
abbrev pub is_child : ℕ → List Entry → Bool
is_child id entries = list_any (λ e. list_any (λ child. child == id) e.children) entries

-- the tree is the leaf of a variable
abbrev pub is_leaf : ℕ → Tree → Bool
is_leaf x (Leaf y) = y == x
is_leaf x (Node left right) = false

-- a line is the leaf of a variable
abbrev pub has_leaf : ℕ → List Entry → Bool
has_leaf x entries = list_any (λ e. is_leaf x e.tree) entries

-- ---- a node line after earlier ones

-- the node of a form on a line, over the variables 1 to v
abbrev pub form_placed : ℕ → List Entry → ℕ → Form → Result Entry (List ℕ)
form_placed v earlier line (LeafLine id x) = do
  fault_if (has_id id earlier) (at_line line (codes ": id twice"))
  fault_if (not (is_within 1 v x) || has_leaf x earlier) (at_line line (codes ": variable wrong"))
  Ok (record { id = id; tree = Leaf x; children = [] })
form_placed v earlier line (InnerLine id left right) = do
  fault_if (has_id id earlier) (at_line line (codes ": id twice"))
  l ← ok_or (tree_with_id left earlier) (at_line line (codes ": child unknown"))
  r ← ok_or (tree_with_id right earlier) (at_line line (codes ": child unknown"))
  fault_if (left == right || is_child left earlier || is_child right earlier)
      (at_line line (codes ": child twice"))
  Ok (record { id = id; tree = Node l r; children = left ∷ right ∷ [] })

-- the node of a line by its form
abbrev pub entry_of : ℕ → List Entry → TextLine → Result Entry (List ℕ)
entry_of v earlier line = do
  form ← ok_or (form_of line.words) (at_line line.number (codes ": bad line"))
  form_placed v earlier line.number form

-- ---- the text

-- the number of a header of two words, of which this is the first
abbrev pub stated_behind : List ℕ → List (List ℕ) → Option ℕ
stated_behind own (name ∷ number ∷ []) = if bytes_eq name own then natural_value number else None
stated_behind own words = None

-- The nodes of a file: its lines are a header, of a word and the number of the nodes, and then the nodes, each read in
-- the light of the earlier ones.
abbrev pub nodes_of : {A : Type 0} → List ℕ → (List A → TextLine → Result A (List ℕ))
    → List TextLine → Result (List A) (List ℕ)
nodes_of word node [] = Err (codes ": no header")
nodes_of word node (header ∷ lines) = do
  stated ← ok_or (stated_behind word header.words) (codes ": no header")
  nodes ← each_after node [] lines
  fault_if (not (stated == length nodes)) (counts stated (length nodes))
  Ok nodes

-- the tree of the only root
abbrev pub one_root : List Entry → Result Tree (List ℕ)
one_root (root ∷ []) = Ok root.tree
one_root roots = Err (codes ": " ++ number_text (length roots) ++ codes " roots")

-- the nodes of a text over the variables 1 to v; blank lines and comments, which begin with c, are passed over
abbrev pub node_lines : ℕ → List ℕ → Result (List Entry) (List ℕ)
node_lines v bytes = nodes_of (codes "vtree") (entry_of v) (content_of 99 bytes)

-- the roots
abbrev pub roots_of : List Entry → List Entry
roots_of entries = filter (λ e. not (is_child e.id entries)) entries

-- the first variable from 1 to v that has no leaf
abbrev pub missing : ℕ → List Entry → Option ℕ
missing v entries = find (λ x. not (has_leaf x entries)) (range_with_len 1 v)

-- its fault, where there is one
abbrev pub none_missing : Option ℕ → Result (Unit {0}) (List ℕ)
none_missing found = fault_for (λ x. codes ": variable missing: " ++ number_text x) found

-- the tree of all node lines
abbrev pub tree_of_entries : ℕ → List Entry → Result Tree (List ℕ)
tree_of_entries v entries = do
  tree ← one_root (roots_of entries)
  none_missing (missing v entries)
  Ok tree

-- The tree of a text over the variables 1 to v, or the text of its first fault. It is the tree of the one node that is
-- no child, and each variable has a leaf.
unfoldable pub vtree_file : ℕ → List ℕ → Result Tree (List ℕ)
vtree_file v bytes = do
  entries ← node_lines v bytes
  tree_of_entries v entries

-- ---- the header alone

-- the number of nodes that the header states
abbrev pub nodes_stated : List TextLine → Result ℕ (List ℕ)
nodes_stated [] = Err (codes ": no header")
nodes_stated (header ∷ lines) = ok_or (stated_behind (codes "vtree") header.words) (codes ": no header")

-- the text of the fault that no vtree over 1 to 1,024 variables has so many nodes
abbrev pub nodes_out_of_range : ℕ → List ℕ
nodes_out_of_range nodes = codes ": nodes out of range: " ++ number_text nodes

-- The number of variables of the vtree that a text's header announces, or the text of the header's first fault. A vtree
-- over v variables has 2 * v - 1 nodes.
unfoldable pub variables_stated : List ℕ → Result ℕ (List ℕ)
variables_stated bytes = do
  nodes ← nodes_stated (content_of 99 bytes)
  fault_if (nodes % 2 == 0 || nat_lt 2047 nodes) (nodes_out_of_range nodes)
  Ok ((nodes + 1) / 2)

-- ---- what a reader answers

-- the text of a fault, after the file's name
abbrev pub vtree_fault_text : VtreeFault → List ℕ
vtree_fault_text fault.NoHeader = codes ": no header"
vtree_fault_text (fault.BadLine n) = at_line n (codes ": bad line")
vtree_fault_text (fault.IdTwice n) = at_line n (codes ": id twice")
vtree_fault_text (fault.ChildUnknown n) = at_line n (codes ": child unknown")
vtree_fault_text (fault.ChildTwice n) = at_line n (codes ": child twice")
vtree_fault_text (fault.VariableWrong n) = at_line n (codes ": variable wrong")
vtree_fault_text (fault.CountDiffers s f) = counts s f
vtree_fault_text (fault.NotOneRoot r) = codes ": " ++ number_text r ++ codes " roots"
vtree_fault_text (fault.VariableMissing x) = codes ": variable missing: " ++ number_text x
vtree_fault_text (fault.NodesRange n) = nodes_out_of_range n
vtree_fault_text fault.OutOfMemory = []

-- a reading has the text of this fault; OutOfMemory says nothing of it
abbrev pub Fails : {Y : Type 0} → VtreeFault → Result Y (List ℕ) → Type 0
Fails fault.OutOfMemory reading = Unit {0}
Fails found reading = reading ≡ Err (vtree_fault_text found)

-- The answer, as view sees it, is what the reading gives, unless memory ran out.
abbrev pub Gives : {X Y : Type 0} → (X → Y) → Result X VtreeFault → Result Y (List ℕ) → Type 0
Gives view (Ok x) reading = reading ≡ Ok (view x)
Gives view (Err e) reading = Fails e reading

-- A text is read as its header and the lines after it, line by line.
use Rattle.std.proofs.Common.{◌≡◌, ℕ, Bool, true, false, not, ◌==◌, List, [], ◌∷◌, length, Option, Some, None}
use Rattle.std.proofs.Common.{Result, Ok, Err, refl, sym, ap, ◌∙◌}
use Rattle.std.specs.Prelude.{codes, ok_or}
use Rattle.sd_base.specs.FaultTexts.{counts}
use Rattle.sd_base.specs.Lines.{TextLine, content_of}
use Rattle.sd_base.specs.Reading.{◌>>=◌, ◌>>◌, fault_if, each_after}
use Rattle.sd_model.specs.Tree.{Tree}
use Rattle.sd_vfile.specs.Reads.{Entry, entry_of, stated_behind, nodes_of, one_root, roots_of, missing, none_missing}
use Rattle.sd_vfile.specs.Reads.{tree_of_entries, node_lines, vtree_file}
use Rattle.sd_vfile.specs.Steps.{of_nodes, stated_by, whole_tree, tree_of_lines}
use Rattle.sd_vfile.proofs.Placed.{done, past, through}

-- what is made of the nodes of a file is made of the list of them
pub nodes_made : {A B : Type 0} (word : List ℕ) (node : List A → TextLine → Result A (List ℕ))
    (made : List A → Result B (List ℕ)) (lines : List TextLine)
    → of_nodes word (codes ": no header") counts node made lines ≡ (nodes_of word node lines >>= made)
nodes_made word node made [] = refl
nodes_made {A} {B} word node made (header ∷ lines) =
    go (stated_behind word header.words) (each_after node [] lines)
  where
    test : (b : Bool) (fault : List ℕ) (nodes : List A)
        → (fault_if (not b) fault >> made nodes) ≡ ((fault_if (not b) fault >> Ok nodes) >>= made)
    test true fault nodes = refl
    test false fault nodes = refl

    go : (o : Option ℕ) (r : Result (List A) (List ℕ))
        → (ok_or o (codes ": no header") >>= (λ stated. r >>= (λ nodes.
        fault_if (not (stated == length nodes)) (counts stated (length nodes)) >> made nodes)))
        ≡ ((ok_or o (codes ": no header") >>= (λ stated. r >>= (λ nodes.
        fault_if (not (stated == length nodes)) (counts stated (length nodes)) >> Ok nodes))) >>= made)
    go None r = refl
    go (Some stated) (Err fault) = refl
    go (Some stated) (Ok nodes) = test (stated == length nodes) (counts stated (length nodes)) nodes

-- a text is read line by line
pub vtree_file_is : (v : ℕ) (bytes : List ℕ) → vtree_file v bytes ≡ tree_of_lines v (content_of 99 bytes)
unfolding vtree_file
vtree_file_is v bytes = sym (nodes_made (codes "vtree") (entry_of v) (tree_of_entries v) (content_of 99 bytes))

-- the node lines of a text, where a tree is made of them
pub lines_are : (v : ℕ) (bytes : List ℕ) (header : TextLine) (lines : List TextLine) (stated : ℕ) (es : List Entry)
    (t : Tree) → content_of 99 bytes ≡ header ∷ lines → stated_by header.words ≡ Some stated
    → each_after (entry_of v) [] lines ≡ Ok es → whole_tree v stated es ≡ Ok t → node_lines v bytes ≡ Ok es
lines_are v bytes header lines stated es t content has read whole =
    let same = past (not (stated == length es)) _ (tree_of_entries v es) t whole in
    ap (nodes_of (codes "vtree") (entry_of v)) content ∙ rw (has, read, same.0) refl

-- node lines that were read, one after another
pub record AreLines (v : ℕ) (es : List Entry) : Type 0 where
  pub lines : List TextLine
  pub read : each_after (entry_of v) [] lines ≡ Ok es

-- those of a text are
pub lines_of_text : (v : ℕ) (bytes : List ℕ) (es : List Entry) → node_lines v bytes ≡ Ok es → AreLines v es
lines_of_text v bytes es e = go (content_of 99 bytes) e
  where
    go : (content : List TextLine) → nodes_of (codes "vtree") (entry_of v) content ≡ Ok es → AreLines v es
    go [] h = cc
    go (header ∷ lines) h =
        let counted = λ (stated : ℕ) (nodes : List Entry).
        fault_if (not (stated == length nodes)) (counts stated (length nodes)) >> done nodes in
        let first = through (ok_or (stated_behind (codes "vtree") header.words) (codes ": no header"))
        (λ stated. each_after (entry_of v) [] lines >>= counted stated) es h in
        let second = through (each_after (entry_of v) [] lines) (counted first.middle) es first.led in
        let differs = not (first.middle == length second.middle) in
        let third = past differs (counts first.middle (length second.middle)) (done second.middle) es second.led in
        let same : done second.middle ≡ done es = third.1 in
        let is : second.middle ≡ es = cc in
        record { lines = lines; read = second.gave ∙ ap done is }

-- and the tree of the text is that of their one root
pub root_of_text : (v : ℕ) (bytes : List ℕ) (es : List Entry) (t : Tree) → vtree_file v bytes ≡ Ok t
    → node_lines v bytes ≡ Ok es → one_root (roots_of es) ≡ Ok t
unfolding vtree_file
root_of_text v bytes es t file lines = go (one_root (roots_of es)) (missing v es) (rw lines at file)
  where
    go : (r : Result Tree (List ℕ)) (o : Option ℕ) → (r >>= (λ tree. none_missing o >> done tree)) ≡ Ok t → r ≡ Ok t
    go (Err fault) o h = h
    go (Ok tree) None h = h
    go (Ok tree) (Some x) h = cc

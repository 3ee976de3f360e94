use Rattle.std.proofs.Common.{◌≡◌, ◌==◌, take, refl, sym, ◌∙◌, eq-eqb, arith}
use Rattle.std.proofs.lemmas.Result.{IfOk-weaker}
use Rattle.sd_model.specs.Seen.{tree_of}
use Rattle.sd_model.specs.Tree.{Node}
use Rattle.sd_vfile.specs.Steps.{entries_of, entry_tree, tree_with}
use Rattle.sd_vfile.proofs.Forests.{or_true}
use Rattle.sd_vfile.proofs.Places.{line_known, line_tree, child_tree}
use Rattle.sd_vfile.proofs.whole.+tree_at.Goals as goal

-- the variable is at most 1,024
pub overflow_cast-result : goal.overflow_cast-result
overflow_cast-result t c =
    let well_formed = line_known 1024 c.args.forms.now c.args.index _ _ c.requires.within c.in-LeafLine.is
    c.requires.well_formed in
    let small = well_formed.variable c.in-LeafLine.variable
    (eq-eqb c.in-LeafLine.variable c.in-LeafLine.variable refl) in
    omega (arith, small)

-- the children stand on earlier lines
pub index_of-requires : goal.index_of-requires
index_of-requires t c =
    let well_formed = line_known 1024 c.args.forms.now c.args.index _ _ c.requires.within c.in-InnerLine.is
    c.requires.well_formed in
    well_formed.children c.in-InnerLine.left (rw (eq-eqb c.in-InnerLine.left c.in-InnerLine.left refl) refl)

pub index_of-requires-in-InnerLine : goal.index_of-requires-in-InnerLine
index_of-requires-in-InnerLine t c =
    let well_formed = line_known 1024 c.args.forms.now c.args.index _ _ c.requires.within c.in-InnerLine.is
    c.requires.well_formed in
    well_formed.children c.in-InnerLine.right
    (rw (eq-eqb c.in-InnerLine.right c.in-InnerLine.right refl) (or_true (c.in-InnerLine.left == c.in-InnerLine.right)))

pub returns-in-LeafLine : goal.returns-in-LeafLine
returns-in-LeafLine t c = sym (line_tree c.args.forms.now c.args.index _ _ c.requires.within c.in-LeafLine.is)

-- the trees of the children make the tree
pub returns-in_ok-right-in-InnerLine : goal.returns-in_ok-right-in-InnerLine
returns-in_ok-right-in-InnerLine t c =
    let forms = c.args.forms.now in
    let index = c.args.index in
    let earlier = entries_of (take index forms) in
    let left : tree_of c.in_ok-left-in-InnerLine.left ≡ tree_with c.in-InnerLine.left earlier =
    child_tree forms index c.index_of.result c.in-InnerLine.left _ c.requires.within c.index_of.ensures.within
    c.in_ok-left-in-InnerLine.ensures c.index_of.ensures.tree in
    let right : tree_of c.in_ok-right-in-InnerLine.right ≡ tree_with c.in-InnerLine.right earlier =
    child_tree forms index c.index_of-in-InnerLine.result c.in-InnerLine.right _ c.requires.within
    c.index_of-in-InnerLine.ensures.within c.in_ok-right-in-InnerLine.ensures c.index_of-in-InnerLine.ensures.tree in
    let whole : entry_tree (entries_of forms) index
    ≡ Node (tree_with c.in-InnerLine.left earlier) (tree_with c.in-InnerLine.right earlier) =
    line_tree forms index _ _ c.requires.within c.in-InnerLine.is in
    IfOk-weaker c.node_over.result
    (λ t'. tree_of t' ≡ Node (tree_of c.in_ok-left-in-InnerLine.left) (tree_of c.in_ok-right-in-InnerLine.right))
    (λ t'. tree_of t' ≡ entry_tree (entries_of forms) index) (λ t' e. e ∙ rw (left, right) (sym whole))
    c.node_over.ensures

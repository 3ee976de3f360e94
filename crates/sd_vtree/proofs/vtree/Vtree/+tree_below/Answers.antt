use Rattle.std.proofs.Common.{◌≡◌, subst, sym, arith, IsSome}
use Rattle.sd_model.specs.Seen.{tree_of}
use Rattle.sd_model.specs.Tree.{Node}
use Rattle.std.specs.Option.{option_map}
use Rattle.sd_vtree.specs.Numbered.{plain_tree, subtree}
use Rattle.sd_vtree.proofs.Subtrees.{inner_pair, size_at}
use Rattle.sd_vtree.proofs.Times.{smaller}
use Rattle.sd_vtree.proofs.PlainTrees.{has_variable_at, node_forgotten, ok_some}
use Rattle.sd_vtree.proofs.vtree.Vtree.+tree_below.Goals as goal

pub tree_below-requires : goal.tree_below-requires
tree_below-requires t c =
    let p = inner_pair c.children.ensures.numbered c.in-Some.ensures.children in
    let d : size_at c.args.self.now c.args.node ≡ t = c.decreases in
    (smaller p.left_smaller d, p.left_within)

pub tree_below-requires-in-Some : goal.tree_below-requires-in-Some
tree_below-requires-in-Some t c =
    let p = inner_pair c.children.ensures.numbered c.in-Some.ensures.children in
    let d : size_at c.args.self.now c.args.node ≡ t = c.decreases in
    (smaller p.right_smaller d, p.right_within)

pub unwrap-requires : goal.unwrap-requires
unwrap-requires t c =
    subst (λ o. IsSome o) (sym c.variable.ensures.variable)
    (has_variable_at c.args.self.now c.args.node
    (omega (arith, c.in-None.ensures.numbered.once c.args.node c.requires)) c.in-None.ensures.children)

pub returns-in_ok-right-in-Some : goal.returns-in_ok-right-in-Some
returns-in_ok-right-in-Some t c =
    let p = inner_pair c.children.ensures.numbered c.in-Some.ensures.children in
    ok_some c.node_over.result tree_of
    (Node (tree_of c.in_ok-left-in-Some.left) (tree_of c.in_ok-right-in-Some.right))
    (option_map plain_tree (subtree c.args.self.now c.args.node))
    c.node_over.ensures
    (node_forgotten c.args.self.now c.args.node _ _ p (tree_of c.in_ok-left-in-Some.left)
    (tree_of c.in_ok-right-in-Some.right)
    c.in_ok-left-in-Some.ensures c.in_ok-right-in-Some.ensures)

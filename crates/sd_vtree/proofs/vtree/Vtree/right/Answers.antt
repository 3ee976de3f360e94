use Rattle.std.proofs.Common.{◌∙◌, ap, arith}
use Rattle.sd_model.specs.Seen.{tree_of}
use Rattle.sd_model.specs.Tree.{variables}
use Rattle.sd_vtree.proofs.Starting.{vtree_in_order, variables_start, one}
use Rattle.sd_vtree.proofs.vtree.Vtree.right.Goals as goal

pub of_tree-requires-clause-vtree : goal.of_tree-requires-clause-vtree
of_tree-requires-clause-vtree c =
    (vtree_in_order (tree_of c.in_ok-tree.tree) c.args.variables (ap variables c.in_ok-tree.ensures
    ∙ variables_start (λ m. 1) one c.args.variables c.requires.at_least_one)).0

pub of_tree-requires-clause-within_limit : goal.of_tree-requires-clause-within_limit
of_tree-requires-clause-within_limit c =
    let e = (vtree_in_order (tree_of c.in_ok-tree.tree) c.args.variables (ap variables c.in_ok-tree.ensures
    ∙ variables_start (λ m. 1) one c.args.variables c.requires.at_least_one)).1 in
    omega arith

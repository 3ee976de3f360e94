use Rattle.std.proofs.Common.{◌∙◌, ap, arith}
use Rattle.sd_model.specs.Seen.{tree_of}
use Rattle.sd_model.specs.Tree.{leaves}
use Rattle.sd_vfile.proofs.Accepted.{accepted}
use Rattle.sd_vfile.proofs.reader.read_vtree.Goals as goal

-- a tree that was read is a vtree
pub of_tree-requires-clause-vtree : goal.of_tree-requires-clause-vtree
of_tree-requires-clause-vtree c =
    (accepted c.args.variables c.args.bytes.now (tree_of c.in_ok-whole.whole.tree) c.in_ok-whole.ensures.tree).vtree

pub of_tree-requires-clause-within_limit : goal.of_tree-requires-clause-within_limit
of_tree-requires-clause-within_limit c =
    let over = accepted c.args.variables c.args.bytes.now (tree_of c.in_ok-whole.whole.tree)
    c.in_ok-whole.ensures.tree in
    omega (arith, over.count, c.requires.within_limit)

-- over the variables asked for
pub returns-clause-leaves : goal.returns-clause-leaves
returns-clause-leaves c =
    ap leaves c.in_ok-vtree.ensures.tree
    ∙ (accepted c.args.variables c.args.bytes.now (tree_of c.in_ok-whole.whole.tree) c.in_ok-whole.ensures.tree).count

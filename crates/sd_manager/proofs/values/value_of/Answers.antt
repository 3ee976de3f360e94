use Rattle.std.proofs.Common.{ap, arith}
use Rattle.sd_model.specs.Tree.{leaves}
use Rattle.sd_vtree.specs.Numbered.{plain_tree}
use Rattle.sd_laws.proofs.Depths.{depth_canonical}
use Rattle.sd_manager.proofs.Same.{held_code}
use Rattle.sd_manager.proofs.values.value_of.Goals as goal

pub value_at-requires-clause-shown : goal.value_at-requires-clause-shown
value_at-requires-clause-shown c =
    let is = held_code c.args.m.now c.args.root.now c.node_of.result c.requires.held.0 c.node_of.ensures.held
    c.requires.held.1 in (
      c.requires.held.0,
      is,
      omega (
        arith,
        depth_canonical is.canonical,
        c.variables.ensures.count,
        ap (λ t. leaves (plain_tree t)) c.vtree.ensures.vtree,
      ),
    )

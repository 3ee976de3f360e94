use Rattle.sd_apply.proofs.Standing.{has_node}
use Rattle.sd_apply.proofs.join.is_shared.Goals as goal

pub uses-requires-clause-node : goal.uses-requires-clause-node
uses-requires-clause-node c =
    has_node c.args.m.now c.requires.table c.args.node c.requires.node.diagram c.requires.node.is.shows

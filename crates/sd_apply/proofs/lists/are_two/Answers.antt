use Rattle.sd_apply.proofs.Standing.{has_node}
use Rattle.sd_apply.proofs.lists.are_two.Goals as goal

pub view-requires : goal.view-requires
view-requires c =
    has_node c.args.m.now c.vtree.ensures.table c.args.node c.requires.node.diagram
    c.requires.node.is.shows

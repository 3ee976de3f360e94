use Rattle.std.proofs.Common.{◌∙◌, ap, sym}
use Rattle.sd_vtree.proofs.Parts.{shape_children}
use Rattle.sd_vtree.proofs.Reading.{kept_as, children_read}
use Rattle.sd_vtree.proofs.Subtrees.{inner_pair}
use Rattle.sd_vtree.proofs.vtree.Vtree.children.Goals as goal

pub returns-in-Leaf-clause-children : goal.returns-in-Leaf-clause-children
returns-in-Leaf-clause-children c =
    let kept = kept_as c.self.invariant.0 c.self.view_is in
    sym (ap shape_children c.in-Leaf.is)
    ∙ children_read kept c.args.node c.requires c.index-2.result.now (rw (← c.index.ensures) c.index-2.ensures)

pub returns-in-Inner-clause-children : goal.returns-in-Inner-clause-children
returns-in-Inner-clause-children c =
    let kept = kept_as c.self.invariant.0 c.self.view_is in
    sym (ap shape_children c.in-Inner.is)
    ∙ children_read kept c.args.node c.requires c.index-2.result.now (rw (← c.index.ensures) c.index-2.ensures)

pub returns-in-Inner-clause-nodes : goal.returns-in-Inner-clause-nodes
returns-in-Inner-clause-nodes c =
    let kept = kept_as c.self.invariant.0 c.self.view_is in
    let i = inner_pair kept.valid (sym (ap shape_children c.in-Inner.is)
    ∙ children_read kept c.args.node c.requires c.index-2.result.now (rw (← c.index.ensures) c.index-2.ensures)) in
    (i.left_within, i.right_within)

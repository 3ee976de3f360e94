use Rattle.std.proofs.Common.{◌∙◌, ap, sym}
use Rattle.sd_vtree.proofs.Parts.{shape_variable}
use Rattle.sd_vtree.proofs.Reading.{kept_as, variable_read}
use Rattle.sd_vtree.proofs.vtree.Vtree.variable.Goals as goal

pub returns-in-Leaf-clause-variable : goal.returns-in-Leaf-clause-variable
returns-in-Leaf-clause-variable c =
    let kept = kept_as c.self.invariant.0 c.self.view_is in
    sym (ap shape_variable c.in-Leaf.is)
    ∙ variable_read kept c.args.node c.requires c.index-2.result.now (rw (← c.index.ensures) c.index-2.ensures)

pub returns-in-Inner-clause-variable : goal.returns-in-Inner-clause-variable
returns-in-Inner-clause-variable c =
    let kept = kept_as c.self.invariant.0 c.self.view_is in
    sym (ap shape_variable c.in-Inner.is)
    ∙ variable_read kept c.args.node c.requires c.index-2.result.now (rw (← c.index.ensures) c.index-2.ensures)

use Rattle.sd_vtree.proofs.Reading.{kept_as, leaf_read}
use Rattle.sd_vtree.proofs.vtree.Vtree.leaf.Goals as goal

pub returns-clause-leaf : goal.returns-clause-leaf
returns-clause-leaf c =
    (leaf_read (kept_as c.self.invariant.0 c.self.view_is) c.args.variable c.requires.positive c.requires.within
    c.index.result.now c.index.ensures).1

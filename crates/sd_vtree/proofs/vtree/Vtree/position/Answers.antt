use Rattle.sd_vtree.proofs.Reading.{kept_as, position_read}
use Rattle.sd_vtree.proofs.vtree.Vtree.position.Goals as goal

pub returns-clause-position : goal.returns-clause-position
returns-clause-position c =
    position_read (kept_as c.self.invariant.0 c.self.view_is) c.args.node c.requires c.index-2.result.now
    (rw (← c.index.ensures) c.index-2.ensures)

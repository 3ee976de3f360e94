use Rattle.std.proofs.Common.{◌-◌, arith}
use Rattle.sd_manager.proofs.Reading.{list_short}
use Rattle.sd_manager.proofs.manager.Manager.read.Goals as goal

pub overflow_cast-result : goal.overflow_cast-result
overflow_cast-result c =
    let s = c.self.inside in
    omega (
      arith,
      list_short s.vtree s.nodes s.roots s.epoch s.moving (c.node.inside.0 - 2050) c.list.result.now
          c.self.invariant.stored.table
          c.list.ensures,
    )

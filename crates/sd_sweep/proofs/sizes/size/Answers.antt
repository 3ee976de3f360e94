use Rattle.std.proofs.Common.{subst}
use Rattle.sd_manager.specs.Valid.{IsTable}
use Rattle.sd_sweep.proofs.HeldTotal.{total_size}
use Rattle.sd_sweep.proofs.sizes.size.Goals as goal

pub returns-clause-size : goal.returns-clause-size
returns-clause-size c = λ ds held.
    total_size c.args.m.now (subst IsTable c.total.ensures.same c.total.ensures.table) c.total.result
    c.total.ensures.total ds held

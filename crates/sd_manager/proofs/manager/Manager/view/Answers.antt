use Rattle.std.proofs.Common.{sym, subst}
use Rattle.sd_manager.specs.Views.{IsViewOf}
use Rattle.sd_manager.proofs.Reading.{view_fits}
use Rattle.sd_manager.proofs.manager.Manager.view.Goals as goal

pub returns-clause-shown : goal.returns-clause-shown
returns-clause-shown c = λ d h.
    subst (λ w. IsViewOf c.args.self.now w d) (sym c.read.ensures.view)
    (view_fits c.args.self.now c.read.ensures.table.numbered c.args.node d h)

use Rattle.sd_manager.proofs.Reading.{element_fits}
use Rattle.sd_manager.proofs.manager.Manager.element.Goals as goal

pub returns-clause-shown : goal.returns-clause-shown
returns-clause-shown c = λ p es h.
    element_fits c.args.self.now c.args.node p c.args.index es c.pair.result c.pair.ensures.pair h

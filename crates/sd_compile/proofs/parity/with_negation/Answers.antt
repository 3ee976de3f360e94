use Rattle.sd_compile.proofs.Parities.{with_opposite}
use Rattle.sd_compile.proofs.parity.with_negation.Goals as goal

pub returns-clause-ok : goal.returns-clause-ok
returns-clause-ok c = λ f h.
    with_opposite c.args.m.now c.negate.new.m f c.args.node c.in_ok-even.even c.in_ok-even.ensures.kept h
    c.in_ok-even.ensures.ok

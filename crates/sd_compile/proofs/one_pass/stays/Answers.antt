use Rattle.std.proofs.Common.{sym, subst}
use Rattle.sd_apply.specs.Group.{JoinsGroup}
use Rattle.sd_compile.specs.Joined.{outer}
use Rattle.sd_compile.proofs.Implying.{implied_joins}
use Rattle.sd_compile.proofs.one_pass.stays.Goals as goal

pub returns-in-Cnf : goal.returns-in-Cnf
returns-in-Cnf c found =
    subst (λ k. JoinsGroup c.args.m.now c.args.m.now (outer k) c.args.node c.args.placed.now c.args.node)
    (sym c.in-Cnf.is)
    (implied_joins c.args.m.now c.args.node c.args.placed.now (c.implies.ensures found))

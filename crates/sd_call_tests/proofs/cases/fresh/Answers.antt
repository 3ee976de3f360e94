use Rattle.std.proofs.Common.{ap}
use Rattle.sd_manager.specs.Table.{Table}
use Rattle.sd_call_tests.proofs.Steps.{fresh_new}
use Rattle.sd_call_tests.proofs.cases.fresh.Goals as goal

pub returns-clause-fresh : goal.returns-clause-fresh
returns-clause-fresh c =
    fresh_new c.in_ok-m.m c.in_ok-c.c c.args.vtree c.args.bound c.in_ok-m.ensures.ok c.in_ok-c.ensures

pub returns-clause-vtree : goal.returns-clause-vtree
returns-clause-vtree c = ap (λ (t : Table). t.vtree) c.in_ok-m.ensures.ok

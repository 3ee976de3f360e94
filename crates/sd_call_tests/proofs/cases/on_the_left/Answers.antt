use Rattle.sd_model.specs.declared.trees.Operation.TheVariants.{Or}
use Rattle.sd_call_tests.proofs.Tried.{node_on, combined_node}
use Rattle.sd_call_tests.proofs.Steps.{fresh_on}
use Rattle.sd_call_tests.proofs.cases.on_the_left.Goals as goal

pub returns-clause-fresh : goal.returns-clause-fresh
returns-clause-fresh c =
    fresh_on c.both.new.m c.or.new.m c.both.new.c c.or.new.c c.in_ok-pair.ensures.fresh c.in_ok-clause.ensures.kept
    c.in_ok-clause.ensures.serves

pub returns-clause-pair : goal.returns-clause-pair
returns-clause-pair c =
    node_on c.both.new.m c.or.new.m c.in_ok-clause.ensures.kept c.in_ok-pair.pair c.in_ok-pair.ensures.shown

pub returns-clause-clause : goal.returns-clause-clause
returns-clause-clause c =
    let l = c.literal-one.ensures.shown in
    combined_node c.both.new.m c.or.new.m Or c.literal-one.result c.in_ok-pair.pair c.in_ok-clause.clause
    (record { diagram = l.0; is = l.1 }) c.in_ok-pair.ensures.shown c.in_ok-clause.ensures.ok

use Rattle.sd_model.specs.declared.trees.Operation.TheVariants.{Or}
use Rattle.sd_call_tests.proofs.Tried.{node_on, combined_node}
use Rattle.sd_call_tests.proofs.Steps.{fresh_on}
use Rattle.sd_call_tests.proofs.cases.crossed_terms.Goals as goal

pub or-requires-clause-first : goal.or-requires-clause-first
or-requires-clause-first c =
    node_on c.both.new.m c.both-2.new.m c.in_ok-even.ensures.kept c.in_ok-odd.odd c.in_ok-odd.ensures.shown

pub hold_both-requires-clause-fresh : goal.hold_both-requires-clause-fresh
hold_both-requires-clause-fresh c =
    fresh_on c.both-2.new.m c.or.new.m c.both-2.new.c c.or.new.c c.in_ok-even.ensures.fresh c.in_ok-node.ensures.kept
    c.in_ok-node.ensures.serves

pub hold_both-requires-clause-one : goal.hold_both-requires-clause-one
hold_both-requires-clause-one c =
    combined_node c.both-2.new.m c.or.new.m Or c.in_ok-odd.odd c.in_ok-even.even c.in_ok-node.node
    (node_on c.both.new.m c.both-2.new.m c.in_ok-even.ensures.kept c.in_ok-odd.odd c.in_ok-odd.ensures.shown)
    c.in_ok-even.ensures.shown c.in_ok-node.ensures.ok

pub hold_both-requires-clause-other : goal.hold_both-requires-clause-other
hold_both-requires-clause-other c =
    combined_node c.both-2.new.m c.or.new.m Or c.in_ok-odd.odd c.in_ok-even.even c.in_ok-node.node
    (node_on c.both.new.m c.both-2.new.m c.in_ok-even.ensures.kept c.in_ok-odd.odd c.in_ok-odd.ensures.shown)
    c.in_ok-even.ensures.shown c.in_ok-node.ensures.ok

use Rattle.sd_call_tests.proofs.Tried.{node_on}
use Rattle.sd_call_tests.proofs.cases.parity_and_garbage.Goals as goal

pub hold_both-requires-clause-one : goal.hold_both-requires-clause-one
hold_both-requires-clause-one c =
    node_on c.both-2.new.m c.parity.new.m c.in_ok-odd.ensures.kept c.in_ok-pair.pair c.in_ok-pair.ensures.shown

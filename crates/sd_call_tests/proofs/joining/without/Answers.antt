use Rattle.sd_call_tests.proofs.Tried.{node_on}
use Rattle.sd_call_tests.proofs.joining.without.Goals as goal

pub and-requires-clause-first : goal.and-requires-clause-first
and-requires-clause-first c =
    node_on c.args.m.now c.negate.new.m c.in_ok-negation.ensures.kept c.args.one c.requires.one

use Rattle.sd_call_tests.proofs.Steps.{ready_settled}
use Rattle.sd_call_tests.proofs.moves.keep.Goals as goal

pub returns-clause-ready : goal.returns-clause-ready
returns-clause-ready c =
    let s = c.args.state.now in
    ready_settled s.m c.settle.new.m s.c s.first s.second c.args.journal c.requires.ready c.settle.ensures.settled

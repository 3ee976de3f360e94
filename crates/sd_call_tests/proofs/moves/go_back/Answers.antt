use Rattle.std.proofs.Common.{arith}
use Rattle.sd_call_tests.proofs.Steps.{ready_back}
use Rattle.sd_call_tests.proofs.moves.go_back.Goals as goal

pub returns-clause-ready : goal.returns-clause-ready
returns-clause-ready c =
    let s = c.args.state.now in
    ready_back s.m c.undo.new.m s.c s.first s.second c.args.journal c.requires.ready
    (omega (arith, c.epoch.type_inv, c.epoch.ensures.epoch)) c.undo.ensures.undone c.undo.ensures.unmarked

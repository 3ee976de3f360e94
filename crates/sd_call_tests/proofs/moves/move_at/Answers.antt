use Rattle.sd_move.specs.Moves.{IsMoved}
use Rattle.sd_call_tests.proofs.Steps.{ready_moved}
use Rattle.sd_call_tests.proofs.moves.move_at.Goals as goal

pub returns-clause-ready : goal.returns-clause-ready
returns-clause-ready c =
    let s = c.args.state.now in
    let new = c.turn.new.m in
    ready_moved c.turn.result (λ r. IsMoved s.m new c.args.kind c.args.place r.journal) s.m new s.c c.turn.new.c s.first
    s.second c.requires.ready (λ r h. (h.roots, h.no_move)) c.turn.ensures.moved c.turn.ensures.back
    c.turn.ensures.unmarked c.turn.ensures.serves

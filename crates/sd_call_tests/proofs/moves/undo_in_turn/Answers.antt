use Rattle.sd_call_tests.proofs.moves.undo_in_turn.Goals as goal

pub go_back-requires-clause-can_undo : goal.go_back-requires-clause-can_undo
go_back-requires-clause-can_undo c = c.stays_undoable.ensures c.in-Ok.moved.journal c.move_at.new.state.m
    c.make_and_undo-made.new.state.m c.move_at.ensures.table c.in-Ok.ensures.moved.can_undo
    c.make_and_undo-made.ensures.reached
    c.make_and_undo-made.ensures.ready.no_move

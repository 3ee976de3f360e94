use Rattle.sd_call_tests.proofs.joining.imply_meanwhile.Goals as goal

pub go_back-requires-clause-can_undo : goal.go_back-requires-clause-can_undo
go_back-requires-clause-can_undo c = c.stays_undoable.ensures c.in-Ok.moved.journal c.move_at.new.state.m
    c.implies-meanwhile.new.state.m c.move_at.ensures.table c.in-Ok.ensures.moved.can_undo
    c.implies-meanwhile.ensures.reached
    c.implies-meanwhile.ensures.ready.no_move

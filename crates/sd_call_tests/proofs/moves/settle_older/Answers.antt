use Rattle.sd_call_tests.proofs.moves.settle_older.Goals as goal

pub swap_and_settle-requires-clause-older : goal.swap_and_settle-requires-clause-older
swap_and_settle-requires-clause-older c =
    c.stays_settleable.ensures.undoable c.in-Ok.moved.journal c.move_at.new.state.m c.in-Ok.ensures.moved.can_undo

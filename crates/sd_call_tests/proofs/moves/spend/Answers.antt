use Rattle.sd_call_tests.proofs.moves.spend.Goals as goal

pub keep-requires-clause-can_settle : goal.keep-requires-clause-can_settle
keep-requires-clause-can_settle c =
    c.stays_settleable.ensures.undoable c.args.journal c.args.state.now.m c.requires.can_undo

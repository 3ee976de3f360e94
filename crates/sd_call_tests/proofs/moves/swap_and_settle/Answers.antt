use Rattle.sd_model.specs.declared.trees.Move.TheVariants.{Swap}
use Rattle.sd_call_tests.proofs.moves.swap_and_settle.Goals as goal

pub settle_and_undo-requires-clause-older : goal.settle_and_undo-requires-clause-older
settle_and_undo-requires-clause-older c =
    c.stays_settleable.ensures.moved c.args.older c.in-Ok.moved.journal c.args.state.now.m c.move_at.new.state.m Swap
    c.in-Some.place c.requires.older c.in-Ok.ensures.moved

pub settle_and_undo-requires-clause-others : goal.settle_and_undo-requires-clause-others
settle_and_undo-requires-clause-others c =
    c.stays_settleable.ensures.others c.args.older c.in-Ok.moved.journal c.args.state.now.m c.move_at.new.state.m Swap
    c.in-Some.place c.requires.older c.in-Ok.ensures.moved

pub keep-requires-in-Err-clause-can_settle : goal.keep-requires-in-Err-clause-can_settle
keep-requires-in-Err-clause-can_settle c =
    c.stays_settleable.ensures.kept c.args.older c.args.state.now.m c.move_at.new.state.m c.requires.older
    c.in-Err.ensures.back.0

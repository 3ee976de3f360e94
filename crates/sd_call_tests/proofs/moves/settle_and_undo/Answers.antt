use Rattle.sd_call_tests.proofs.Steps.{named_held}
use Rattle.sd_call_tests.proofs.moves.settle_and_undo.Goals as goal

pub go_back-requires-clause-can_undo : goal.go_back-requires-clause-can_undo
go_back-requires-clause-can_undo c =
    let t = c.args.state.now.m in
    let u = c.keep.new.state.m in
    let settled = c.keep.ensures.settled in
    c.stays_undoable_when_settled.ensures c.args.newer c.args.older t u c.requires.newer settled c.requires.others
    (named_held t u c.args.older c.args.newer c.keep.new.state.first c.args.place c.requires.newer c.requires.upper
    c.requires.lower settled (c.is_alone.ensures.alone c.if-is_alone.true))

pub keep-requires-else-is_alone-clause-can_settle : goal.keep-requires-else-is_alone-clause-can_settle
keep-requires-else-is_alone-clause-can_settle c =
    let t = c.args.state.now.m in
    c.stays_settleable.ensures.settled c.args.newer c.args.older t c.keep.new.state.m
    (c.stays_settleable.ensures.undoable c.args.newer t c.requires.newer) c.keep.ensures.settled c.requires.others

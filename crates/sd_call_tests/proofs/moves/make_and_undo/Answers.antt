use Rattle.sd_call_tests.proofs.Steps.{keeps_itself}
use Rattle.sd_call_tests.proofs.moves.make_and_undo.Goals as goal

pub returns-in_default-clause-reached : goal.returns-in_default-clause-reached
returns-in_default-clause-reached c = keeps_itself c.args.state.now.m

pub returns-in-Ok-clause-reached : goal.returns-in-Ok-clause-reached
returns-in-Ok-clause-reached c =
    let b = c.move_at.new.state.m in
    c.keeps_reached.ensures.undone c.args.state.now.m b b c.go_back.new.state.m c.args.kind c.in-Some.place
    c.in-Ok.moved.journal c.epoch.ensures.table c.move_at.ensures.table c.in-Ok.ensures.moved (keeps_itself b)
    c.go_back.ensures.undone

use Rattle.std.proofs.Common.{◌≡◌, slice_get, refl, sym, ap, subst, ◌∙◌}
use Rattle.sd_model.specs.Tree.{leaves}
use Rattle.sd_model.specs.Moves.{moved_at}
use Rattle.sd_vtree.specs.Numbered.{Numbered, numbers, plain_tree}
use Rattle.sd_search.proofs.Journals.{can_settle}
use Rattle.sd_commands.specs.Commands.{Moves, NotMovable}
use Rattle.sd_commands.specs.Standing.{StopsAt}
use Rattle.sd_commands.specs.declared.command.RunCommand.TheVariants as commands
use Rattle.sd_commands.specs.declared.state.RunState.{RunState}
use Rattle.sd_commands.proofs.Standing.{before_both}
use Rattle.sd_commands.proofs.Moved.{not_moved_out}
use Rattle.sd_commands.proofs.MovedState.{stands_moved, plain_law, plain_reordered, turn_done, turn_stops}
use Rattle.sd_commands.proofs.MovedState.{as_before_refused}
use Rattle.sd_commands.proofs.moving.turn_at.Goals as goal

pub returns-in_default-clause-stops : goal.returns-in_default-clause-stops
returns-in_default-clause-stops c = λ input seen was_before.
    let was = c.forget_gates.ensures.represents seen was_before in
    let tree = was.tree ∙ ap plain_tree (sym c.vtree.ensures.vtree) in
    let none = not_moved_out c.args.kind c.vtree.result.now c.args.position (sym c.in_default.ensures.at) in
    subst (λ o. Moves seen o NotMovable) (sym (ap (λ t. moved_at c.args.kind t c.args.position) tree ∙ none)) refl

pub settle-requires : goal.settle-requires
settle-requires c = record {
  runs = can_settle c.in-Ok.moved.journal c.turn.new.m c.turn.new.m c.in-Ok.ensures.moved.can_undo refl;
}

pub returns-in-Ok-clause-done : goal.returns-in-Ok-clause-done
returns-in-Ok-clause-done c = λ input seen was_before.
    let was = c.forget_gates.ensures.represents seen was_before in
    let code = c.forget_gates.new.self in
    let moved = c.in-Ok.ensures.moved in
    let at = ap (λ (v : Numbered). slice_get (numbers v) c.args.position)
    (c.vtree-2.ensures.vtree ∙ sym c.vtree.ensures.vtree) ∙ sym c.in-Some.ensures.at in
    let law = plain_law c.args.kind code.manager.vtree c.vtree-2.result.now c.args.position c.in-Some.place
    c.vtree-2.ensures.vtree at c.plain_move.ensures in
    let count = (plain_reordered c.args.kind code.manager.vtree c.turn.new.m.vtree c.args.position c.in-Some.place law
    moved.vtree).count in
    turn_done input code seen c.args.kind c.args.position c.in-Some.place was law c.turn.new.m _ c.in-Ok.moved.size
    c.vtree.ensures.table.numbered moved.vtree c.in-Ok.ensures.size c.in-Ok.ensures.within
    (stands_moved code c.turn.new.m c.settle.new.m c.args.kind c.in-Some.place c.in-Ok.moved.journal
    c.vtree.ensures.table c.in-Ok.ensures.table moved c.settle.ensures.settled count c.forget_gates.ensures.forgotten
    c.turn.new.c seen
    c.in-Ok.ensures.serves c.in-Ok.ensures.unmarked was)

pub returns-in-Ok-clause-variables : goal.returns-in-Ok-clause-variables
returns-in-Ok-clause-variables c =
    let code = c.forget_gates.new.self in
    let at = ap (λ (v : Numbered). slice_get (numbers v) c.args.position)
    (c.vtree-2.ensures.vtree ∙ sym c.vtree.ensures.vtree) ∙ sym c.in-Some.ensures.at in
    let law = plain_law c.args.kind code.manager.vtree c.vtree-2.result.now c.args.position c.in-Some.place
    c.vtree-2.ensures.vtree at c.plain_move.ensures in
    ap (λ s. leaves (plain_tree s.vtree)) c.settle.ensures.settled.same
    ∙ (plain_reordered c.args.kind code.manager.vtree c.turn.new.m.vtree c.args.position c.in-Some.place law
    c.in-Ok.ensures.moved.vtree).count
    ∙ ap (λ (s : RunState). leaves (plain_tree s.manager.vtree)) c.forget_gates.ensures.rest

pub returns-in-Err-clause-stops : goal.returns-in-Err-clause-stops
returns-in-Err-clause-stops c = λ input seen was_before.
    let was = c.forget_gates.ensures.represents seen was_before in
    let code = c.forget_gates.new.self in
    let at = ap (λ (v : Numbered). slice_get (numbers v) c.args.position)
    (c.vtree-2.ensures.vtree ∙ sym c.vtree.ensures.vtree) ∙ sym c.in-Some.ensures.at in
    let law = plain_law c.args.kind code.manager.vtree c.vtree-2.result.now c.args.position c.in-Some.place
    c.vtree-2.ensures.vtree at c.plain_move.ensures in
    subst (λ e. StopsAt input seen (commands.Turn c.args.kind c.args.position) c.turn.new.m e)
    (sym c.move_error.ensures)
    (turn_stops input code seen c.args.kind c.args.position c.in-Some.place was law c.turn.new.m c.in-Err.error
    c.vtree.ensures.table.numbered (c.in-Err.ensures.bound ∙ was.bound) c.in-Err.ensures.refused)

pub returns-in-Err-clause-err : goal.returns-in-Err-clause-err
returns-in-Err-clause-err c =
    let code = c.forget_gates.new.self in
    before_both c.args.state.now code _ c.forget_gates.ensures.kept
    (as_before_refused code c.turn.new.m c.turn.new.c c.in-Err.ensures.back.0 c.in-Err.ensures.bound
    c.in-Err.ensures.back.1 (c.forget_gates.ensures.represents _ c.requires.represents.1).no_move
    c.in-Err.ensures.serves c.in-Err.ensures.unmarked c.forget_gates.ensures.forgotten)

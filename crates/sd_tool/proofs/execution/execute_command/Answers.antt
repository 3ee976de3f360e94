use Rattle.sd_tool.proofs.AskLemmas.{asks_none}
use Rattle.sd_tool.proofs.OpeningLemmas.{step_stops, step_done, step_fails}
use Rattle.sd_tool.proofs.execution.execute_command.Goals as goal

pub step-requires-clause-output_room : goal.step-requires-clause-output_room
step-requires-clause-output_room g c = λ name index is. c.requires.room

pub returns-in-Ok-write_effect_if_any-clause-goes : goal.returns-in-Ok-write_effect_if_any-clause-goes
returns-in-Ok-write_effect_if_any-clause-goes g c = λ seen was.
    step_done c.args.formula.now c.args.command.now c.step.new.state seen c.in-Ok.effect _ _
    (c.in-Ok.ensures.done seen was) c.in-Ok-write_effect_if_any.ensures.ok c.in-Ok-write_effect_if_any.ensures.asked

pub returns-in-Err-write_effect_if_any-clause-goes : goal.returns-in-Err-write_effect_if_any-clause-goes
returns-in-Err-write_effect_if_any-clause-goes g c = λ seen was.
    step_fails c.args.formula.now c.args.command.now c.step.new.state seen c.in-Ok.effect
    c.in-Err-write_effect_if_any.stop _ _ _ _ _ c.halt_of.ensures (c.in-Ok.ensures.done seen was)
    c.in-Err-write_effect_if_any.ensures.stop c.in-Err-write_effect_if_any.ensures.asked

pub returns-in-Err-clause-goes : goal.returns-in-Err-clause-goes
returns-in-Err-clause-goes g c = λ seen was.
    step_stops c.args.formula.now c.args.command.now c.args.state.now c.step.new.state seen c.in-Err.error _ _ _
    c.halt_at.ensures (asks_none g.F.Shelf.asked c.args.shelf.now) was (c.in-Err.ensures.stops seen was)
    c.in-Err.ensures.err

use Rattle.sd_tool.proofs.AskLemmas.{joined}
use Rattle.sd_tool.proofs.OpeningLemmas.{choice_done, choice_fails, search_fails}
use Rattle.sd_tool.proofs.execution.tell_opened.Goals as goal

pub returns-in-Ok-write_effect_if_any-clause-goes : goal.returns-in-Ok-write_effect_if_any-clause-goes
returns-in-Ok-write_effect_if_any-clause-goes g c = λ input seen rounds opens.
    choice_done input rounds seen c.args.opened _ _ _
    (joined g.F.Shelf.asked c.args.shelf.now c.write_effect_if_any.new.shelf c.write_effect_if_any-in-Ok.new.shelf)
    opens
    c.in-Ok.ensures.ok c.in-Ok.ensures.asked c.in-Ok-write_effect_if_any.ensures.ok
    c.in-Ok-write_effect_if_any.ensures.asked

pub returns-in-Err-write_effect_if_any-clause-goes : goal.returns-in-Err-write_effect_if_any-clause-goes
returns-in-Err-write_effect_if_any-clause-goes g c = λ input seen rounds opens.
    search_fails input rounds seen c.args.opened c.in-Err-write_effect_if_any.stop c.halt_of.result _ _ _ _ _ _
    c.halt_of.ensures
    (joined g.F.Shelf.asked c.args.shelf.now c.write_effect_if_any.new.shelf c.write_effect_if_any-in-Ok.new.shelf)
    c.in-Ok.ensures.fewer opens c.in-Ok.ensures.ok c.in-Ok.ensures.asked c.in-Err-write_effect_if_any.ensures.stop
    c.in-Err-write_effect_if_any.ensures.asked

pub returns-in-Err-clause-goes : goal.returns-in-Err-clause-goes
returns-in-Err-clause-goes g c = λ input seen rounds opens.
    choice_fails input rounds seen c.args.opened c.in-Err.stop c.halt_of-in-Err.result _ _ _ _ c.halt_of-in-Err.ensures
    opens c.in-Err.ensures.stop c.in-Err.ensures.asked

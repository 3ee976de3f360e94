use Rattle.std.proofs.lemmas.Result.{IfOk-weaker}
use Rattle.sd_cond.specs.Answers.{Forgets}
use Rattle.sd_cond.specs.Calls.{forgotten, AnswersOf}
use Rattle.sd_cond.proofs.Whole.{forgets}
use Rattle.sd_cond.proofs.operations.forget.Goals as goal

pub returns-clause-ok : goal.returns-clause-ok
returns-clause-ok c =
    let old = c.args.m.now in
    let new = c.forget_cached.new.m in
    let x = c.args.variable in
    IfOk-weaker c.forget_cached.result (λ r. AnswersOf old new (forgotten x) c.args.a r)
    (λ r. Forgets old new c.args.a x r)
    (λ r h. forgets old new c.forget_cached.ensures.table c.args.a x r c.requires.positive h)
    c.forget_cached.ensures.ok

-- The first refusal is that of this answer, or one behind it.
use Rattle.std.proofs.Common.{Result, sym, ap, ◌∙◌, ◌+◌, drop}
use Rattle.sd_compile.specs.declared.error.CompileError.{CompileError}
use Rattle.sd_records.specs.Records.{FlatDiagram}
use Rattle.sd_parts.specs.Work.{first_refusal, refusal_or}
use Rattle.sd_parts.proofs.AnswerAt.{refusal_next, refusal_end}
use Rattle.sd_parts.proofs.join.first_refused.Goals as goal

pub returns-in-Err : goal.returns-in-Err
returns-in-Err c =
    let rest = first_refusal (drop (c.loop-answer.answer-index + 1) c.args.answers.now) in
    sym (c.loop-answer.invariant
    ∙ refusal_next c.args.answers.now c.loop-answer.answer-index c.answer-item.result c.loop-answer-test.true
    c.answer-item.is ∙ ap (λ (r : Result FlatDiagram CompileError). refusal_or r rest) c.in-Err.is)

pub loop-answer-preserved : goal.loop-answer-preserved
loop-answer-preserved c =
    let rest = first_refusal (drop (c.loop-answer.answer-index + 1) c.args.answers.now) in
    c.loop-answer.invariant
    ∙ refusal_next c.args.answers.now c.loop-answer.answer-index c.answer-item.result c.loop-answer-test.true
    c.answer-item.is ∙ ap (λ (r : Result FlatDiagram CompileError). refusal_or r rest) c.in_default.is

pub returns : goal.returns
returns c =
    sym (c.loop-answer.invariant
    ∙ refusal_end c.args.answers.now c.loop-answer.answer-index c.loop-answer-test.false)

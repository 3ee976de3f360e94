use Rattle.std.proofs.lemmas.Result.{IfOk-weaker}
use Rattle.sd_model.specs.declared.trees.Operation.TheVariants.{And}
use Rattle.sd_apply.specs.Calls.{Applies}
use Rattle.sd_apply.specs.Difference.{SubtractsAt}
use Rattle.sd_apply.proofs.Steps.{at_on}
use Rattle.sd_apply.proofs.Listed.{below_on}
use Rattle.sd_apply.proofs.AndNot.{negation_below, anded_negation}
use Rattle.sd_apply.proofs.subtracting.and_negation.Goals as goal

pub apply-requires-clause-a : goal.apply-requires-clause-a
apply-requires-clause-a c =
    below_on c.args.m.now c.negate_at.new.m c.negate_at.ensures.step.kept c.args.at c.args.a c.requires.a

pub apply-requires-clause-b : goal.apply-requires-clause-b
apply-requires-clause-b c =
    negation_below c.args.m.now c.negate_at.new.m c.negate_at.ensures.step.kept c.args.at c.args.b c.in_ok-other.other
    c.requires.b c.in_ok-other.ensures.ok

pub returns-clause-ok : goal.returns-clause-ok
returns-clause-ok c =
    let m = c.args.m.now in
    let n = c.negate_at.new.m in
    let o = c.apply.new.m in
    IfOk-weaker c.apply.result (λ r. Applies n o And c.args.at c.args.a c.in_ok-other.other r)
    (λ r. SubtractsAt m o c.args.at c.args.a c.args.b r)
    (λ r h. anded_negation m n o c.negate_at.ensures.step.kept c.args.at c.args.a c.args.b c.in_ok-other.other r
    c.in_ok-other.ensures.ok h)
    c.apply.ensures.ok

pub returns-clause-step : goal.returns-clause-step
returns-clause-step c = at_on c.negate_at.ensures.step c.apply.ensures.step

use Rattle.std.proofs.Common.{◌≡◌, Some}
use Rattle.std.proofs.lemmas.Result.{IfOk-weaker}
use Rattle.sd_apply.specs.Calls.{NegatesAt}
use Rattle.sd_apply.specs.Difference.{SubtractsAt}
use Rattle.sd_apply.proofs.AndNot.{known_at, known_subtracts, true_subtracts}
use Rattle.sd_apply.proofs.CachedSteps.{looked_step, second_step}
use Rattle.sd_apply.proofs.differences.subtract_cached.Goals as goal

pub returns-in-Some-clause-ok : goal.returns-in-Some-clause-ok
returns-in-Some-clause-ok c =
    known_subtracts c.args.m.now c.vtree.ensures.table c.args.at c.args.a c.args.b c.in-Some.code
    (known_at c.args.a c.args.b c.a.inside.0 c.b.inside.0 (Some c.in-Some.code) c.a.view_is c.b.view_is
    c.in-Some.ensures)

pub returns-in-Some-clause-step : goal.returns-in-Some-clause-step
returns-in-Some-clause-step c =
    looked_step c.args.a c.args.b c.vtree.ensures.table c.requires.serves

pub returns-then-is_true-clause-ok : goal.returns-then-is_true-clause-ok
returns-then-is_true-clause-ok c =
    let m = c.args.m.now in
    let n = c.negate_cached.new.m in
    let one : c.args.a ≡ 1 = c.is_true.ensures.0 c.if-is_true.true in
    IfOk-weaker c.negate_cached.result (λ r. NegatesAt m n c.args.at c.args.b r)
    (λ r. SubtractsAt m n c.args.at c.args.a c.args.b r)
    (λ r h. true_subtracts m n c.vtree.ensures.table c.args.at c.args.a c.args.b r one h)
    c.negate_cached.ensures.ok

pub returns-then-is_true-clause-step : goal.returns-then-is_true-clause-step
returns-then-is_true-clause-step c =
    second_step c.args.a c.negate_cached.ensures.step

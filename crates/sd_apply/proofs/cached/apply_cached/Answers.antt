use Rattle.std.proofs.Common.{◌≡◌, Some, None}
use Rattle.std.proofs.lemmas.Result.{IfOk-weaker, on_err_weaker}
use Rattle.sd_apply.specs.Calls.{Applies, NegatesAt}
use Rattle.sd_apply.proofs.TerminalLaws.{terminal_applies, terminal_at, applies_commutes}
use Rattle.sd_apply.proofs.TerminalLaws.{unknown, xor_negation, xor_negation_second}
use Rattle.sd_apply.specs.Growing.{GrowsByAnswerBoth}
use Rattle.sd_apply.proofs.Growing.{strictly_first, strictly_second, strictly_exchanged}
use Rattle.sd_apply.proofs.Growing.{by_first, by_second, by_exchanged}
use Rattle.sd_apply.proofs.CachedSteps.{looked_step, first_step, second_step, exchanged_step}
use Rattle.sd_apply.proofs.cached.apply_cached.Goals as goal

pub returns-in-Some-clause-ok : goal.returns-in-Some-clause-ok
returns-in-Some-clause-ok c =
    terminal_applies c.args.m.now c.vtree.ensures.table c.args.operation c.args.at c.args.a c.args.b
    c.in-Some.code
    (terminal_at c.args.operation c.number.result c.args.a c.args.b c.a.inside.0 c.b.inside.0
    (Some c.in-Some.code) c.number.ensures c.a.view_is c.b.view_is c.in-Some.ensures)

pub returns-in-Some-clause-step : goal.returns-in-Some-clause-step
returns-in-Some-clause-step c =
    looked_step c.args.a c.args.b c.vtree.ensures.table c.requires.serves

-- the operands may be exchanged
pub returns-else-a-b-clause-ok : goal.returns-else-a-b-clause-ok
returns-else-a-b-clause-ok c =
    let m = c.args.m.now in
    let d = c.look_up_or_apply-else-a-b in
    IfOk-weaker d.result (λ r. Applies m d.new.m c.args.operation c.args.at c.args.b c.args.a r)
    (λ r. Applies m d.new.m c.args.operation c.args.at c.args.a c.args.b r)
    (λ r h. applies_commutes m d.new.m c.args.operation c.args.at c.args.a c.args.b r h) d.ensures.ok

pub returns-else-a-b-clause-step : goal.returns-else-a-b-clause-step
returns-else-a-b-clause-step c =
    exchanged_step c.look_up_or_apply-else-a-b.ensures.step

-- the exclusive or with true is the negation
pub returns-then-is_true-clause-ok : goal.returns-then-is_true-clause-ok
returns-then-is_true-clause-ok c =
    let m = c.args.m.now in
    let n = c.negate_cached.new.m in
    let u = unknown c.args.operation c.args.a c.args.b
    (terminal_at c.args.operation c.number.result c.args.a c.args.b c.a.inside.0 c.b.inside.0 None
    c.number.ensures c.a.view_is c.b.view_is c.in_default.ensures) in
    let one : c.args.a ≡ 1 = c.is_true.ensures.0 c.if-is_true.true in
    IfOk-weaker c.negate_cached.result (λ r. NegatesAt m n c.args.at c.args.b r)
    (λ r. Applies m n c.args.operation c.args.at c.args.a c.args.b r)
    (λ r h. xor_negation m n c.vtree.ensures.table c.args.operation c.args.at c.args.a c.args.b r
    (u.one one) one h)
    c.negate_cached.ensures.ok

pub returns-then-is_true-clause-step : goal.returns-then-is_true-clause-step
returns-then-is_true-clause-step c =
    second_step c.args.a c.negate_cached.ensures.step

pub returns-then-is_true-2-clause-ok : goal.returns-then-is_true-2-clause-ok
returns-then-is_true-2-clause-ok c =
    let m = c.args.m.now in
    let d = c.negate_cached-then-is_true-2 in
    let u = unknown c.args.operation c.args.a c.args.b
    (terminal_at c.args.operation c.number.result c.args.a c.args.b c.a.inside.0 c.b.inside.0 None
    c.number.ensures c.a.view_is c.b.view_is c.in_default.ensures) in
    let one : c.args.b ≡ 1 = c.is_true-2.ensures.0 c.if-is_true-2.true in
    IfOk-weaker d.result (λ r. NegatesAt m d.new.m c.args.at c.args.a r)
    (λ r. Applies m d.new.m c.args.operation c.args.at c.args.a c.args.b r)
    (λ r h. xor_negation_second m d.new.m c.vtree.ensures.table c.args.operation c.args.at
    c.args.a c.args.b r (u.other one) one h)
    d.ensures.ok

pub returns-then-is_true-2-clause-step : goal.returns-then-is_true-2-clause-step
returns-then-is_true-2-clause-step c =
    first_step c.args.b c.negate_cached-then-is_true-2.ensures.step

-- where the nodes but the answer stand

pub returns-then-is_true-clause-one : goal.returns-then-is_true-clause-one
returns-then-is_true-clause-one c =
    let m = c.args.m.now in
    let n = c.negate_cached.new.m in
    IfOk-weaker c.negate_cached.result (λ r. GrowsByAnswerBoth m n c.args.b c.args.b r)
    (λ r. GrowsByAnswerBoth m n c.args.a c.args.b r) (λ r h. by_second m n c.args.a c.args.b r h)
    c.negate_cached.ensures.one

pub returns-then-is_true-clause-none : goal.returns-then-is_true-clause-none
returns-then-is_true-clause-none c =
    on_err_weaker c.negate_cached.result
    (λ h. strictly_second c.args.m.now c.negate_cached.new.m c.args.a c.args.b h)
    c.negate_cached.ensures.none

pub returns-then-is_true-2-clause-one : goal.returns-then-is_true-2-clause-one
returns-then-is_true-2-clause-one c =
    let m = c.args.m.now in
    let n = c.negate_cached-then-is_true-2.new.m in
    IfOk-weaker c.negate_cached-then-is_true-2.result (λ r. GrowsByAnswerBoth m n c.args.a c.args.a r)
    (λ r. GrowsByAnswerBoth m n c.args.a c.args.b r) (λ r h. by_first m n c.args.a c.args.b r h)
    c.negate_cached-then-is_true-2.ensures.one

pub returns-then-is_true-2-clause-none : goal.returns-then-is_true-2-clause-none
returns-then-is_true-2-clause-none c =
    on_err_weaker c.negate_cached-then-is_true-2.result
    (λ h. strictly_first c.args.m.now c.negate_cached-then-is_true-2.new.m c.args.a c.args.b h)
    c.negate_cached-then-is_true-2.ensures.none

pub returns-else-a-b-clause-one : goal.returns-else-a-b-clause-one
returns-else-a-b-clause-one c =
    let m = c.args.m.now in
    let n = c.look_up_or_apply-else-a-b.new.m in
    IfOk-weaker c.look_up_or_apply-else-a-b.result (λ r. GrowsByAnswerBoth m n c.args.b c.args.a r)
    (λ r. GrowsByAnswerBoth m n c.args.a c.args.b r) (λ r h. by_exchanged m n c.args.b c.args.a r h)
    c.look_up_or_apply-else-a-b.ensures.one

pub returns-else-a-b-clause-none : goal.returns-else-a-b-clause-none
returns-else-a-b-clause-none c =
    on_err_weaker c.look_up_or_apply-else-a-b.result
    (λ h. strictly_exchanged c.args.m.now c.look_up_or_apply-else-a-b.new.m c.args.b c.args.a h)
    c.look_up_or_apply-else-a-b.ensures.none

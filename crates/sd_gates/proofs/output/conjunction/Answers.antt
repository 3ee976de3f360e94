-- One law for each two signs.
use Rattle.std.proofs.lemmas.Result.{IfOk-weaker}
use Rattle.std.proofs.Common.{ℕ, Bool, List, ◌&&◌, ◌||◌}
use Rattle.sd_model.specs.declared.trees.Operation.TheVariants.{And, Or}
use Rattle.sd_manager.specs.Table.{Table}
use Rattle.sd_apply.specs.Answers.{HasAnswer, Combines}
use Rattle.sd_apply.specs.Difference.{Subtracts}
use Rattle.sd_circuit.specs.Circuits.{signed_value}
use Rattle.sd_gates.specs.declared.sharing.SignedNode.{SignedNode}
use Rattle.sd_gates.specs.Making.{HasSignedAnswer}
use Rattle.sd_gates.proofs.Signs.{by_and, by_first, by_second, by_or}
use Rattle.sd_gates.proofs.output.conjunction.Goals as goal

-- what the function ensures of its answer
abbrev IsAnswer : Table → Table → SignedNode → SignedNode → ℕ → Type 0
IsAnswer old new first second r = (f g : List Bool → Bool) → HasSignedAnswer old f first → HasSignedAnswer old g second
    → HasAnswer new (λ a. signed_value (first.positive || second.positive) (f a && g a)) r

pub returns-in-true-true-clause-ok : goal.returns-in-true-true-clause-ok
returns-in-true-true-clause-ok c =
    let old = c.args.m.now in
    let new = c.and.new.m in
    let first = c.args.first in
    let second = c.args.second in
    IfOk-weaker c.and.result (λ r. Combines old new And first.node second.node r) (λ r. IsAnswer old new first second r)
    (λ r h. by_and old new first second r c.in-true-true.is-0 c.in-true-true.is-1 h) c.and.ensures.ok

pub returns-in-true-false-clause-ok : goal.returns-in-true-false-clause-ok
returns-in-true-false-clause-ok c =
    let old = c.args.m.now in
    let new = c.difference.new.m in
    let first = c.args.first in
    let second = c.args.second in
    IfOk-weaker c.difference.result (λ r. Subtracts old new first.node second.node r)
    (λ r. IsAnswer old new first second r)
    (λ r h. by_first old new first second r c.in-true-false.is-0 c.in-true-false.is-1 h) c.difference.ensures.ok

pub returns-in-false-true-clause-ok : goal.returns-in-false-true-clause-ok
returns-in-false-true-clause-ok c =
    let old = c.args.m.now in
    let d = c.difference-in-false-true in
    let new = d.new.m in
    let first = c.args.first in
    let second = c.args.second in
    IfOk-weaker d.result (λ r. Subtracts old new second.node first.node r) (λ r. IsAnswer old new first second r)
    (λ r h. by_second old new first second r c.in-false-true.is-0 c.in-false-true.is-1 h) d.ensures.ok

pub returns-in-false-false-clause-ok : goal.returns-in-false-false-clause-ok
returns-in-false-false-clause-ok c =
    let old = c.args.m.now in
    let new = c.or.new.m in
    let first = c.args.first in
    let second = c.args.second in
    IfOk-weaker c.or.result (λ r. Combines old new Or first.node second.node r) (λ r. IsAnswer old new first second r)
    (λ r h. by_or old new first second r c.in-false-false.is-0 c.in-false-false.is-1 h) c.or.ensures.ok

use Rattle.std.proofs.lemmas.Result.{IfOk-weaker}
use Rattle.sd_apply.specs.Calls.{Applies}
use Rattle.sd_apply.specs.GroupCalls.{JoinsFrom}
use Rattle.sd_apply.proofs.Steps.{at_on}
use Rattle.sd_apply.proofs.Listed.{below_on}
use Rattle.sd_apply.proofs.JoiningSteps.{joins_by_node}
use Rattle.sd_apply.proofs.join.join_by_node.Goals as goal

pub apply-requires-clause-a : goal.apply-requires-clause-a
apply-requires-clause-a c =
    below_on c.args.m.now c.literals_node.new.m c.literals_node.ensures.step.kept c.args.at c.args.node c.requires.node

pub returns-clause-ok : goal.returns-clause-ok
returns-clause-ok c =
    let m = c.args.m.now in
    let n = c.literals_node.new.m in
    let k = c.apply.new.m in
    IfOk-weaker c.apply.result
    (λ r. Applies n k c.args.operation c.args.at c.args.node c.in_ok-group.group r)
    (λ r. JoinsFrom m k c.args.operation c.args.at c.args.node c.args.from c.args.literals.now r)
    (λ r h. joins_by_node m n k c.literals_node.ensures.step.kept c.args.operation c.args.at c.args.node c.args.from
    c.in_ok-group.group r c.args.literals.now c.in_ok-group.ensures.ok h)
    c.apply.ensures.ok

pub returns-clause-step : goal.returns-clause-step
returns-clause-step c =
    at_on c.literals_node.ensures.step c.apply.ensures.step

use Rattle.std.proofs.Common.{true, false}
use Rattle.std.proofs.lemmas.Result.{IfOk-weaker}
use Rattle.sd_model.specs.declared.trees.Operation.TheVariants.{Or}
use Rattle.sd_apply.specs.Answers.{Combines}
use Rattle.sd_apply.proofs.Listed.{there_on}
use Rattle.sd_manager.proofs.Extending.{extends_on, extends_self}
use Rattle.sd_apply.proofs.Trees.{there_inner}
use Rattle.sd_cond.specs.Calls.{conditioned, forgotten, AnswersOf}
use Rattle.sd_apply.proofs.Opposite.{node_of_on}
use Rattle.sd_cond.proofs.Steps.{step_on}
use Rattle.sd_cond.proofs.Answering.{answers_on, place_on, place_each}
use Rattle.sd_cond.proofs.Forgotten.{answered_node, answered_below, forget_both}
use Rattle.sd_cond.proofs.forgetting.forget_by_both.Goals as goal

-- the node, its place and what is kept are so in the larger table
pub given_here-requires-2-clause-node : goal.given_here-requires-2-clause-node
given_here-requires-2-clause-node c =
    node_of_on c.args.m.now c.given_here.new.m c.given_here.ensures.step.kept c.args.a c.requires.node

pub given_here-requires-2-clause-place : goal.given_here-requires-2-clause-place
given_here-requires-2-clause-place c =
    place_on c.args.m.now c.given_here.new.m c.given_here.ensures.step.kept c.given_here.ensures.step.table
    c.args.a c.args.fork.now.node c.requires.node c.requires.place

pub given_here-requires-2-clause-knows : goal.given_here-requires-2-clause-knows
given_here-requires-2-clause-knows c =
    answers_on c.args.m.now c.given_here.new.m c.given_here.ensures.step.kept
    (conditioned c.args.variable.now.number false) c.args.answers.now.with_false c.requires.knows.where_false

-- what is kept after the first call and after the second
pub returns-in_err-first-clause-knows : goal.returns-in_err-first-clause-knows
returns-in_err-first-clause-knows c =
    let m = c.args.m.now in
    let n = c.given_here.new.m in
    let x = c.args.variable.now.number in
    let answers = c.args.answers.now in
    let kept = c.given_here.ensures.step.kept in
    record {
      alone = answers_on m n kept (forgotten x) answers.forgotten c.requires.knows.alone;
      where_true = c.given_here.ensures.knows;
      where_false = answers_on m n kept (conditioned x false) answers.with_false c.requires.knows.where_false;
    }

pub returns-in_err-second-clause-step : goal.returns-in_err-second-clause-step
returns-in_err-second-clause-step c = step_on c.given_here.ensures.step c.given_here-2.ensures.step

pub returns-in_err-second-clause-knows : goal.returns-in_err-second-clause-knows
returns-in_err-second-clause-knows c =
    let m = c.args.m.now in
    let n = c.given_here.new.m in
    let o = c.given_here-2.new.m in
    let x = c.args.variable.now.number in
    let later = c.given_here-2.ensures.step.kept in
    record {
      alone = answers_on m o (extends_on m n o c.given_here.ensures.step.kept later) (forgotten x)
          c.args.answers.now.forgotten c.requires.knows.alone;
      where_true = answers_on n o later (conditioned x true) c.given_here.new.kept c.given_here.ensures.knows;
      where_false = c.given_here-2.ensures.knows;
    }

-- both answers are nodes
pub or-requires-clause-first : goal.or-requires-clause-first
or-requires-clause-first c =
    answered_node c.args.m.now c.given_here.new.m c.given_here-2.new.m c.given_here-2.ensures.step.kept
    (conditioned c.args.variable.now.number true) c.args.a c.in_ok-first.first c.requires.node
    c.in_ok-first.ensures.ok

pub or-requires-clause-second : goal.or-requires-clause-second
or-requires-clause-second c =
    let n = c.given_here.new.m in
    let o = c.given_here-2.new.m in
    answered_node n o o (extends_self o) (conditioned c.args.variable.now.number false) c.args.a
    c.in_ok-second.second
    (node_of_on c.args.m.now n c.given_here.ensures.step.kept c.args.a c.requires.node)
    c.in_ok-second.ensures.ok

-- their disjunction is the answer
pub returns-clause-ok : goal.returns-clause-ok
returns-clause-ok c =
    let m = c.args.m.now in
    let n = c.given_here.new.m in
    let o = c.given_here-2.new.m in
    let q = c.or.new.m in
    IfOk-weaker c.or.result (λ r. Combines o q Or c.in_ok-first.first c.in_ok-second.second r)
    (λ r. AnswersOf m q (forgotten c.args.variable.now.number) c.args.a r)
    (λ r h. forget_both m n o q c.given_here.ensures.step.kept c.given_here-2.ensures.step.kept
    c.args.variable.now.number c.args.a c.in_ok-first.first c.in_ok-second.second r c.in_ok-first.ensures.ok
    c.in_ok-second.ensures.ok h)
    c.or.ensures.ok

-- and it is made below the vtree node, since both are below it
pub returns-clause-step : goal.returns-clause-step
returns-clause-step c =
    let m = c.args.m.now in
    let n = c.given_here.new.m in
    let o = c.given_here-2.new.m in
    let p = c.args.fork.now.node in
    let x = c.args.variable.now.number in
    let i = c.requires.table in
    let there = there_inner m.vtree i.numbered p c.args.fork.now.left c.args.fork.now.right c.requires.children in
    let under = place_each m i p c.args.a there c.requires.place in
    let k = c.given_here.ensures.step.kept in
    let j = c.given_here-2.ensures.step.kept in
    let first = answered_below m n o k j p x true c.args.a c.in_ok-first.first c.requires.variable c.requires.node under
    c.in_ok-first.ensures.ok in
    let node = node_of_on m n k c.args.a c.requires.node in
    let place = place_on m n k c.given_here.ensures.step.table c.args.a p c.requires.node c.requires.place in
    let later = there_on m n k p there in
    let second = answered_below n o o j (extends_self o) p x false c.args.a c.in_ok-second.second c.requires.variable
    node (place_each n c.given_here.ensures.step.table p c.args.a later place) c.in_ok-second.ensures.ok in
    let made = c.or.ensures in
    step_on (step_on c.given_here.ensures.step c.given_here-2.ensures.step) (record {
      kept = made.kept;
      grown = made.grown.each p (there_on n o j p later) first second;
      serves = made.serves;
      table = made.table;
    })

-- what is kept at the end
pub returns-clause-knows : goal.returns-clause-knows
returns-clause-knows c =
    let m = c.args.m.now in
    let n = c.given_here.new.m in
    let o = c.given_here-2.new.m in
    let q = c.or.new.m in
    let x = c.args.variable.now.number in
    let second = c.given_here-2.ensures in
    let last = c.or.ensures.kept in
    let later = extends_on n o q second.step.kept last in
    record {
      alone = answers_on m q (extends_on m n q c.given_here.ensures.step.kept later) (forgotten x)
          c.args.answers.now.forgotten c.requires.knows.alone;
      where_true = answers_on n q later (conditioned x true) c.given_here.new.kept c.given_here.ensures.knows;
      where_false = answers_on o q last (conditioned x false) c.given_here-2.new.kept second.knows;
    }

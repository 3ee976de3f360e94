use Rattle.std.proofs.Common.{◌∙◌, ap, arith}
use Rattle.std.proofs.lemmas.Result.{IfOk-weaker}
use Rattle.sd_vtree.specs.Numbered.{number_of}
use Rattle.sd_apply.specs.Group.{JoinsGroup}
use Rattle.sd_apply.specs.GroupCalls.{JoinsFrom}
use Rattle.sd_apply.proofs.Served.{serves_on}
use Rattle.sd_apply.proofs.JoiningSteps.{joins_none, below_shown}
use Rattle.sd_apply.proofs.JoiningWhole.{joins_group, grows_group}
use Rattle.sd_apply.proofs.join.join_group.Goals as goal

-- no literals
pub returns-then-literals-eq0-clause-ok : goal.returns-then-literals-eq0-clause-ok
returns-then-literals-eq0-clause-ok c =
    let m = c.args.m.now in
    let u = c.root-root.result in
    joins_group m m c.vtree.ensures.table c.args.operation u u c.args.node c.constant.result c.args.literals.now
    (c.root-root.ensures.root ∙ ap number_of c.vtree.ensures.vtree) (λ d k. k)
    (joins_none m c.args.operation c.requires.operation u c.args.node 0 c.constant.result c.args.literals.now
    c.deciding_value.result c.deciding_value.ensures c.constant.ensures.code
    (omega (arith, c.if-literals-eq0.true)))

pub join_from-joined-requires-clause-remembers : goal.join_from-joined-requires-clause-remembers
join_from-joined-requires-clause-remembers c = c.new-found.ensures c.args.m.now c.args.operation c.args.literals.now

pub returns-clause-ok : goal.returns-clause-ok
returns-clause-ok c =
    let m = c.args.m.now in
    let n = c.join_from-joined.new.m in
    let v = c.lowest_over-over.result in
    let l = c.args.literals.now in
    IfOk-weaker c.join_from-joined.result (λ r. JoinsFrom m n c.args.operation v c.args.node 0 l r)
    (λ r. JoinsGroup m n c.args.operation c.args.node l r)
    (λ r h. joins_group m n c.join_from-joined.ensures.step.table c.args.operation c.root-root.result v c.args.node r l
    (c.root-root.ensures.root ∙ ap number_of c.vtree.ensures.vtree)
    (λ d k. below_shown m c.vtree.ensures.table v c.args.node c.lowest_over-over.ensures.node d k.shows) h)
    c.join_from-joined.ensures.ok

pub returns-clause-grown : goal.returns-clause-grown
returns-clause-grown c =
    grows_group c.args.m.now c.join_from-joined.new.m c.join_from-joined.ensures.step.kept
    c.vtree.ensures.table.numbered
    c.lowest_over-over.result c.args.node c.args.literals.now c.lowest_over-over.ensures.lowest
    c.join_from-joined.ensures.step.grown

pub give_back-requires-clause-serves : goal.give_back-requires-clause-serves
give_back-requires-clause-serves c =
    serves_on c.lent-recent.new.c c.args.m.now c.join_from-joined.new.m c.join_from-joined.ensures.step.kept
    c.lent-recent.ensures.serves

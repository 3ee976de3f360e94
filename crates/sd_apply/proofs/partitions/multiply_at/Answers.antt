use Rattle.std.proofs.Common.{◌≡◌, ◌∙◌, subst, sym, None, ◌<◌, length}
use Rattle.std.proofs.lemmas.Result.{IfOk-weaker}
use Rattle.sd_vtree.specs.Numbered.{numbers, children_at}
use Rattle.sd_apply.specs.Places.{HasChildren}
use Rattle.sd_apply.specs.Calls.{Multiplies}
use Rattle.sd_apply.specs.Partitions.{MultipliesAt}
use Rattle.sd_apply.proofs.Whole.{inner_children, inner_there}
use Rattle.sd_apply.proofs.Growing.{strictly_either}
use Rattle.sd_apply.proofs.AtNode.{disjoint_below, partition_below, multiplies_at}
use Rattle.sd_apply.proofs.partitions.multiply_at.Goals as goal

pub children-requires : goal.children-requires
children-requires c =
    subst (λ t. c.args.place < length (numbers t)) (sym c.vtree.ensures.vtree)
    (inner_there c.args.m.now c.vtree.ensures.table c.args.place c.args.second.now c.requires.second.0
    c.requires.second.1)

pub unreachable-requires : goal.unreachable-requires
unreachable-requires c =
    inner_children c.args.m.now c.vtree.ensures.table c.args.place c.args.second.now c.requires.second.0
    c.requires.second.1
    (subst (λ t. children_at t c.args.place ≡ None) c.vtree.ensures.vtree
    (sym c.children.ensures.children ∙ c.in_default.is))

pub multiply-requires-clause-children : goal.multiply-requires-clause-children
multiply-requires-clause-children c =
    subst (λ t. HasChildren t c.args.place c.in-Some.children.0 c.in-Some.children.1) c.vtree.ensures.vtree
    (sym c.in-Some.is ∙ c.children.ensures.children)

-- lists at the vtree node are lists below its children

pub multiply-requires-clause-first : goal.multiply-requires-clause-first
multiply-requires-clause-first c =
    disjoint_below c.args.m.now c.vtree.ensures.table c.args.place c.in-Some.children.0 c.in-Some.children.1
    (subst (λ t. HasChildren t c.args.place c.in-Some.children.0 c.in-Some.children.1) c.vtree.ensures.vtree
    (sym c.in-Some.is ∙ c.children.ensures.children)) c.args.first.now c.requires.first

pub multiply-requires-clause-second : goal.multiply-requires-clause-second
multiply-requires-clause-second c =
    partition_below c.args.m.now c.vtree.ensures.table c.args.place c.in-Some.children.0 c.in-Some.children.1
    (subst (λ t. HasChildren t c.args.place c.in-Some.children.0 c.in-Some.children.1) c.vtree.ensures.vtree
    (sym c.in-Some.is ∙ c.children.ensures.children)) c.args.second.now c.requires.second.0 c.requires.second.1

-- and the other way round

pub returns-clause-ok : goal.returns-clause-ok
returns-clause-ok c =
    let old = c.args.m.now in
    let new = c.multiply.new.m in
    let o = c.args.operation in
    let p = c.args.place in
    let u = c.in-Some.children.0 in
    let w = c.in-Some.children.1 in
    let l = c.args.first.now in
    let k = c.args.second.now in
    let e = subst (λ t. HasChildren t p u w) c.vtree.ensures.vtree (sym c.in-Some.is
    ∙ c.children.ensures.children) in
    IfOk-weaker c.multiply.result (λ r. Multiplies old new o u w l k r.items)
    (λ r. MultipliesAt old new o p l k r.items)
    (λ r h. multiplies_at old new c.vtree.ensures.table c.multiply.ensures.step.table c.multiply.ensures.step.kept o
    p u w l k
    r.items e h)
    c.multiply.ensures.ok

pub returns-clause-grown : goal.returns-clause-grown
returns-clause-grown c =
    let p = c.args.place in
    let u = c.in-Some.children.0 in
    let w = c.in-Some.children.1 in
    strictly_either c.args.m.now c.multiply.new.m p u w c.multiply.ensures.step.kept
    (subst (λ t. HasChildren t p u w) c.vtree.ensures.vtree (sym c.in-Some.is ∙ c.children.ensures.children))
    c.multiply.ensures.step.grown

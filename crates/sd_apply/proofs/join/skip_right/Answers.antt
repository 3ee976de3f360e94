use Rattle.std.proofs.Common.{◌≡◌, ◌∙◌, ◌<◌, length, sym, subst, Some, slice_get, arith}
use Rattle.std.proofs.lemmas.Bool.Decides.{nat_tests}
use Rattle.sd_vtree.specs.Numbered.{numbers}
use Rattle.sd_apply.specs.Places.{HasChildren}
use Rattle.sd_apply.proofs.JoiningPlaces.{there_within, lower_start, lower_next, right_narrower}
use Rattle.sd_apply.proofs.join.skip_right.Goals as goal

pub loop-vtree-init : goal.loop-vtree-init
loop-vtree-init c =
    lower_start c.args.m.now c.args.at c.args.node c.args.from c.args.literals.now c.requires.at c.requires.node
    c.requires.literals

pub position-requires : goal.position-requires
position-requires c =
    let t = c.args.m.now.vtree in
    subst (λ t. c.loop-vtree.lower < length (numbers t)) (sym c.vtree-vtree.ensures.vtree)
    (there_within t c.requires.table.numbered c.loop-vtree.lower c.loop-vtree.invariant.there)

pub children-requires : goal.children-requires
children-requires c =
    let t = c.args.m.now.vtree in
    subst (λ t. c.loop-vtree.lower < length (numbers t)) (sym c.vtree-vtree.ensures.vtree)
    (there_within t c.requires.table.numbered c.loop-vtree.lower c.loop-vtree.invariant.there)

pub loop-vtree-smaller : goal.loop-vtree-smaller
loop-vtree-smaller c =
    right_narrower c.args.m.now.vtree c.requires.table.numbered c.loop-vtree.lower c.in-Some.children.0
    c.in-Some.children.1
    (subst (λ t. HasChildren t c.loop-vtree.lower c.in-Some.children.0 c.in-Some.children.1) c.vtree-vtree.ensures.vtree
    (sym c.in-Some.is ∙ c.children.ensures.children))

pub loop-vtree-preserved : goal.loop-vtree-preserved
loop-vtree-preserved c =
    let before : c.position.result < c.least_position-least.result = grind (arith, nat_tests, c.loop-vtree-test.true) in
    lower_next c.args.m.now c.requires.table c.args.at c.args.node c.args.from c.loop-vtree.lower c.in-Some.children.0
    c.in-Some.children.1 c.position.result c.least_position-least.result c.args.literals.now c.literal_at-first.result
    c.loop-vtree.invariant
    (subst (λ t. HasChildren t c.loop-vtree.lower c.in-Some.children.0 c.in-Some.children.1) c.vtree-vtree.ensures.vtree
    (sym c.in-Some.is ∙ c.children.ensures.children))
    (subst (λ t. slice_get (numbers t) c.position.result ≡ Some c.loop-vtree.lower) c.vtree-vtree.ensures.vtree
    c.position.ensures.position)
    before c.least_position-least.ensures.node c.literal_at-first.ensures c.least_position-least.ensures.first

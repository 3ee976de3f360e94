use Rattle.std.proofs.Common.{◌+◌, ◌-◌, ◌<◌, ◌∙◌, length, sym, ap, subst, arith}
use Rattle.sd_vtree.specs.Numbered.{numbers}
use Rattle.sd_vtree.proofs.Under.{under_within}
use Rattle.sd_apply.specs.Places.{HasChildren}
use Rattle.sd_apply.proofs.Trees.{there_inner}
use Rattle.sd_move.proofs.Spreading.{left_child_under, node_key, primes_below}
use Rattle.sd_move.proofs.Branching.{left_left_under, corner_is}
use Rattle.sd_move.proofs.rewriting.corner_of.Goals as goal

pub children-requires : goal.children-requires
children-requires c =
    let x = c.args.children in
    subst (λ t. x.0 < length (numbers t)) (sym c.vtree.ensures.vtree)
    (under_within c.args.m.now.vtree c.requires.table.numbered x.0 c.args.place
    (left_child_under c.args.m.now c.requires.table c.args.place x.0 x.1 c.requires.place))

pub are_below-requires-clause-at : goal.are_below-requires-clause-at
are_below-requires-clause-at c =
    let x = c.args.children in
    there_inner c.args.m.now.vtree c.requires.table.numbered c.args.place x.0 x.1 c.requires.place

pub are_below-requires-clause-number : goal.are_below-requires-clause-number
are_below-requires-clause-number c =
    node_key c.args.m.now c.requires.table c.args.node (c.node.inside.0 - 2050) c.requires.node c.requires.code
    (ap (λ n. n - 2050) c.node.view_is)

pub are_below-requires-clause-each : goal.are_below-requires-clause-each
are_below-requires-clause-each c =
    primes_below c.args.m.now c.args.place c.args.node (2050 + (c.node.inside.0 - 2050))
    (omega (arith, c.requires.code, c.node.view_is)) c.requires.codes

pub are_below-requires-clause-under : goal.are_below-requires-clause-under
are_below-requires-clause-under c =
    let x = c.args.children in
    let y = c.in-Some.inner in
    left_left_under c.args.m.now c.requires.table c.args.place x.0 y.0 y.1 x.1 c.requires.place
    (subst (λ t. HasChildren t x.0 y.0 y.1) c.vtree.ensures.vtree (sym c.in-Some.is ∙ c.children.ensures.children))

pub returns-then-are_below : goal.returns-then-are_below
returns-then-are_below c =
    let x = c.args.children in
    let y = c.in-Some.inner in
    corner_is c.args.m.now c.requires.table c.args.place x.0 y.0 y.1 x.1 c.args.node (2050 + (c.node.inside.0 - 2050))
    (omega (arith, c.requires.code, c.node.view_is)) c.requires.place
    (subst (λ t. HasChildren t x.0 y.0 y.1) c.vtree.ensures.vtree (sym c.in-Some.is ∙ c.children.ensures.children))
    c.requires.codes c.requires.whole c.are_below.result c.if-are_below.true c.are_below.ensures.tells

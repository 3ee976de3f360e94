use Rattle.std.proofs.Common.{◌∙◌, ◌≡◌, subst, sym, None}
use Rattle.sd_vtree.specs.Numbered.{children_at}
use Rattle.sd_apply.specs.Places.{HasChildren}
use Rattle.sd_apply.proofs.Standing.{own_inner, shown, place_under, stands_here}
use Rattle.sd_apply.proofs.Trees.{children_width, there_inner, under_number}
use Rattle.sd_apply.proofs.places.place_with_children.Goals as goal

-- a decomposition stands at no leaf
pub unreachable-requires : goal.unreachable-requires
unreachable-requires c =
    let m = c.args.m.now in
    let x = c.requires.node in
    let sx = shown m c.args.at c.args.a x.diagram x.is in
    let q = c.place_of-place.result in
    let none = subst (λ t. children_at t q ≡ None) c.vtree.ensures.vtree
    (sym c.children.ensures.children ∙ c.in_default.is) in
    own_inner m c.place_of-place.ensures.table q c.args.a x.diagram sx
    (c.place_of-place.ensures.place x.diagram sx)
    c.requires.code none

pub returns-clause-under : goal.returns-clause-under
returns-clause-under c =
    place_under c.args.m.now c.place_of-place.ensures.table c.args.at c.args.a
    c.place_of-place.result c.requires.at c.requires.node c.place_of-place.ensures.place

pub returns-clause-narrow : goal.returns-clause-narrow
returns-clause-narrow c =
    let m = c.args.m.now in
    let q = c.place_of-place.result in
    children_width m.vtree c.place_of-place.ensures.table.numbered q c.in-Some.children.0
    c.in-Some.children.1 c.args.at
    (subst (λ t. HasChildren t q c.in-Some.children.0 c.in-Some.children.1) c.vtree.ensures.vtree
    (sym c.in-Some.is ∙ c.children.ensures.children))
    (place_under m c.place_of-place.ensures.table c.args.at c.args.a q c.requires.at
    c.requires.node c.place_of-place.ensures.place)

pub returns-clause-there : goal.returns-clause-there
returns-clause-there c =
    let q = c.place_of-place.result in
    there_inner c.args.m.now.vtree c.place_of-place.ensures.table.numbered q c.in-Some.children.0 c.in-Some.children.1
    (subst (λ t. HasChildren t q c.in-Some.children.0 c.in-Some.children.1) c.vtree.ensures.vtree
    (sym c.in-Some.is ∙ c.children.ensures.children))

pub returns-clause-node : goal.returns-clause-node
returns-clause-node c = λ d h.
    let m = c.args.m.now in
    let q = c.place_of-place.result in
    let there = returns-clause-there c in
    under_number m.vtree c.place_of-place.ensures.table.numbered q q d (stands_here m.vtree q there.part there.is)
    h.canonical (c.place_of-place.ensures.place d h)

-- each vtree node below which the node stands is over its place
pub returns-clause-lowest : goal.returns-clause-lowest
returns-clause-lowest c = λ n there x.
    place_under c.args.m.now c.place_of-place.ensures.table n c.args.a c.place_of-place.result there x
    c.place_of-place.ensures.place

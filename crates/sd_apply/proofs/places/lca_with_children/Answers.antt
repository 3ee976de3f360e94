use Rattle.std.proofs.Common.{◌∙◌, ◌≡◌, subst, sym, None}
use Rattle.sd_vtree.specs.Numbered.{children_at}
use Rattle.sd_vtree.specs.Numbered.{IsUnder as StandsUnder}
use Rattle.sd_apply.specs.Places.{HasChildren}
use Rattle.sd_apply.proofs.Standing.{no_leaf, shown, place_under}
use Rattle.sd_apply.proofs.Trees.{under_number, children_width, there_inner}
use Rattle.sd_apply.proofs.places.lca_with_children.Goals as goal

-- two nodes that are not of one leaf stand at no leaf together
pub unreachable-requires : goal.unreachable-requires
unreachable-requires c =
    let m = c.args.m.now in
    let x = c.requires.first in
    let y = c.requires.second in
    let sx = shown m c.args.at c.args.a x.diagram x.is in
    let sy = shown m c.args.at c.args.b y.diagram y.is in
    let q = c.lca_under-place.result in
    let first = subst (λ t. StandsUnder t c.place_of-first.result q) c.vtree.ensures.vtree
    c.lca_under-place.ensures.over_first in
    let second = subst (λ t. StandsUnder t c.place_of-second.result q) c.vtree.ensures.vtree
    c.lca_under-place.ensures.over_second in
    let none = subst (λ t. children_at t q ≡ None) c.vtree-2.ensures.vtree
    (sym c.children.ensures.children ∙ c.in_default.is) in
    no_leaf m c.place_of-first.ensures.table q c.place_of-first.result c.place_of-second.result
    c.args.a c.args.b
    x.diagram y.diagram first second sx sy (c.place_of-first.ensures.place x.diagram sx)
    (c.place_of-second.ensures.place y.diagram sy) c.requires.least_first c.requires.least_second
    c.requires.differ none

-- both stand below the vtree node from which the walk begins
pub lca_under-place-requires-clause-first : goal.lca_under-place-requires-clause-first
lca_under-place-requires-clause-first c =
    subst (λ t. StandsUnder t c.place_of-first.result c.args.at) (sym c.vtree.ensures.vtree)
    (place_under c.args.m.now c.place_of-first.ensures.table c.args.at c.args.a
    c.place_of-first.result c.requires.at c.requires.first c.place_of-first.ensures.place)

pub lca_under-place-requires-clause-second : goal.lca_under-place-requires-clause-second
lca_under-place-requires-clause-second c =
    subst (λ t. StandsUnder t c.place_of-second.result c.args.at) (sym c.vtree.ensures.vtree)
    (place_under c.args.m.now c.place_of-first.ensures.table c.args.at c.args.b
    c.place_of-second.result c.requires.at c.requires.second c.place_of-second.ensures.place)

-- and so does the lowest node over them
pub returns-clause-under : goal.returns-clause-under
returns-clause-under c =
    let m = c.args.m.now in
    let i = c.place_of-first.ensures.table in
    let first = place_under m i c.args.at c.args.a c.place_of-first.result c.requires.at
    c.requires.first c.place_of-first.ensures.place in
    let second = place_under m i c.args.at c.args.b c.place_of-second.result c.requires.at
    c.requires.second c.place_of-second.ensures.place in
    let e = c.vtree.ensures.vtree in
    subst (λ t. StandsUnder t c.lca_under-place.result c.args.at) e
    (c.lca_under-place.ensures.lowest c.args.at
    (subst (λ t. StandsUnder t c.place_of-first.result c.args.at) (sym e) first)
    (subst (λ t. StandsUnder t c.place_of-second.result c.args.at) (sym e) second))

pub returns-clause-narrow : goal.returns-clause-narrow
returns-clause-narrow c =
    let q = c.lca_under-place.result in
    children_width c.args.m.now.vtree c.place_of-first.ensures.table.numbered q c.in-Some.children.0
    c.in-Some.children.1 c.args.at
    (subst (λ t. HasChildren t q c.in-Some.children.0 c.in-Some.children.1) c.vtree-2.ensures.vtree
    (sym c.in-Some.is ∙ c.children.ensures.children))
    (returns-clause-under c)

pub returns-clause-first : goal.returns-clause-first
returns-clause-first c =
    λ d h. under_number c.args.m.now.vtree c.place_of-first.ensures.table.numbered
    c.lca_under-place.result c.place_of-first.result d
    (subst (λ t. StandsUnder t c.place_of-first.result c.lca_under-place.result) c.vtree.ensures.vtree
    c.lca_under-place.ensures.over_first)
    h.canonical (c.place_of-first.ensures.place d h)

pub returns-clause-second : goal.returns-clause-second
returns-clause-second c =
    λ d h. under_number c.args.m.now.vtree c.place_of-first.ensures.table.numbered
    c.lca_under-place.result c.place_of-second.result d
    (subst (λ t. StandsUnder t c.place_of-second.result c.lca_under-place.result) c.vtree.ensures.vtree
    c.lca_under-place.ensures.over_second)
    h.canonical (c.place_of-second.ensures.place d h)

pub returns-clause-there : goal.returns-clause-there
returns-clause-there c =
    let q = c.lca_under-place.result in
    there_inner c.args.m.now.vtree c.place_of-first.ensures.table.numbered q c.in-Some.children.0 c.in-Some.children.1
    (subst (λ t. HasChildren t q c.in-Some.children.0 c.in-Some.children.1) c.vtree-2.ensures.vtree
    (sym c.in-Some.is ∙ c.children.ensures.children))

-- each vtree node below which both stand is over it
pub returns-clause-lowest : goal.returns-clause-lowest
returns-clause-lowest c = λ n there x y.
    let m = c.args.m.now in
    let i = c.place_of-first.ensures.table in
    let e = c.vtree.ensures.vtree in
    subst (λ t. StandsUnder t c.lca_under-place.result n) e
    (c.lca_under-place.ensures.lowest n
    (subst (λ t. StandsUnder t c.place_of-first.result n) (sym e)
    (place_under m i n c.args.a c.place_of-first.result there x c.place_of-first.ensures.place))
    (subst (λ t. StandsUnder t c.place_of-second.result n) (sym e)
    (place_under m i n c.args.b c.place_of-second.result there y c.place_of-second.ensures.place)))

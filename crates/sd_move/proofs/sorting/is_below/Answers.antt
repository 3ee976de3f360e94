use Rattle.std.proofs.Common.{◌<◌, subst, sym}
use Rattle.sd_vtree.specs.Numbered.{IsUnder}
use Rattle.sd_apply.proofs.JoiningPlaces.{constant_under}
use Rattle.sd_apply.proofs.Standing.{place_under}
use Rattle.sd_move.proofs.Below.{tells_below, lowest_in}
use Rattle.sd_move.proofs.sorting.is_below.Goals as goal

-- a constant is below each vtree node
pub returns-then-node-lt2-clause-tells : goal.returns-then-node-lt2-clause-tells
returns-then-node-lt2-clause-tells c =
    constant_under c.args.m.now c.args.child c.args.node
    (subst (λ n. n < 2) c.node.view_is c.if-node-lt2.true)

-- the code's place stands below the vtree node from which the walk begins
pub lca_under-lowest-requires-clause-second : goal.lca_under-lowest-requires-clause-second
lca_under-lowest-requires-clause-second c =
    subst (λ t. IsUnder t c.place_of-place.result c.args.at) (sym c.vtree-2.ensures.vtree)
    (place_under c.args.m.now c.vtree.ensures.table c.args.at c.args.node c.place_of-place.result c.requires.at
    c.requires.node c.place_of-place.ensures.place)

pub returns-clause-tells : goal.returns-clause-tells
returns-clause-tells c =
    let t = c.args.m.now in
    let e = c.vtree-2.ensures.vtree in
    let q = c.lca_under-lowest.result in
    let l = c.lca_under-lowest.ensures in
    tells_below t c.vtree.ensures.table c.args.at c.args.child c.place_of-place.result q c.args.node
    c.lowest.inside.0 c.child.inside.0 c.lowest.view_is c.child.view_is c.requires.under c.requires.node
    c.place_of-place.ensures.place
    (subst (λ r. IsUnder r c.args.child q) e l.over_first)
    (subst (λ r. IsUnder r c.place_of-place.result q) e l.over_second)
    (lowest_in c.vtree-2.result.now t.vtree e c.args.child c.place_of-place.result q l.lowest)

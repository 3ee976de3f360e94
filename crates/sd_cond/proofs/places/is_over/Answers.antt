use Rattle.std.proofs.Common.{subst}
use Rattle.sd_vtree.specs.Numbered.{IsUnder}
use Rattle.sd_cond.proofs.Sides.{tells_over, lowest_before}
use Rattle.sd_cond.proofs.places.is_over.Goals as goal

-- the lowest node over both is the vtree node just where the leaf stands below it
pub returns-clause-tells : goal.returns-clause-tells
returns-clause-tells c =
    let t = c.args.m.now.vtree in
    let s = c.vtree.result.now in
    let e = c.vtree.ensures.vtree in
    let q = c.lca_under-lowest.result in
    let l = c.lca_under-lowest.ensures in
    tells_over t c.vtree.ensures.table.numbered c.args.place c.args.leaf q c.lowest.inside.0
    c.place.inside.0 c.lowest.view_is c.place.view_is
    (subst (λ r. IsUnder r c.args.place q) e l.over_first)
    (subst (λ r. IsUnder r c.args.leaf q) e l.over_second)
    (lowest_before s t e c.args.place c.args.leaf q l.lowest)

use Rattle.std.proofs.Common.{◌<◌, ◌≤◌, arith}
use Rattle.std.proofs.lemmas.Bool.Decides.{nat_tests}
use Rattle.sd_apply.proofs.JoiningWhole.{between_stands}
use Rattle.sd_apply.proofs.join.lca_of_three.Goals as goal

pub returns-then-place-low-clause-first : goal.returns-then-place-low-clause-first
returns-then-place-low-clause-first c =
    let p = c.position-place.result in
    let q = c.position-low.result in
    let r = c.position-high.result in
    let before : p < q = grind (arith, nat_tests, c.if-place-low.true) in
    between_stands c.args.vtree.now c.position-low.ensures.numbered c.lca.result c.args.own c.args.first c.args.last
    p q r c.lca.ensures.over_first c.lca.ensures.over_second c.position-place.ensures.position
    c.position-low.ensures.position c.position-high.ensures.position (omega (arith, before))
    (c.requires.order q r c.position-low.ensures.position c.position-high.ensures.position)

pub returns-then-high-place-clause-last : goal.returns-then-high-place-clause-last
returns-then-high-place-clause-last c =
    let p = c.position-low.result in
    let q = c.position-high.result in
    let r = c.position-place.result in
    let before : q < r = grind (arith, nat_tests, c.if-high-place.true) in
    let k = c.lca-then-high-place in
    between_stands c.args.vtree.now c.position-low.ensures.numbered k.result c.args.first c.args.last c.args.own
    p q r k.ensures.over_first k.ensures.over_second c.position-low.ensures.position
    c.position-high.ensures.position c.position-place.ensures.position
    (c.requires.order p q c.position-low.ensures.position c.position-high.ensures.position) (omega (arith, before))

pub returns-clause-own : goal.returns-clause-own
returns-clause-own c =
    let p = c.position-low.result in
    let q = c.position-place.result in
    let r = c.position-high.result in
    let from : p ≤ q = grind (arith, nat_tests, c.if-place-low.false) in
    let to : q ≤ r = grind (arith, nat_tests, c.if-high-place.false) in
    between_stands c.args.vtree.now c.position-low.ensures.numbered c.lca-2.result c.args.first c.args.own c.args.last
    p q r c.lca-2.ensures.over_first c.lca-2.ensures.over_second c.position-low.ensures.position
    c.position-place.ensures.position c.position-high.ensures.position from to

use Rattle.std.proofs.Common.{◌≡◌, arith}
use Rattle.sd_vtree.proofs.Times.{smaller}
use Rattle.sd_vtree.proofs.Subtrees.{inner_pair, size_at}
use Rattle.sd_vtree.proofs.Ends.{leaf_place, last_right}
use Rattle.sd_vtree.proofs.vtree.Vtree.+last_below.Goals as goal

pub last_below-requires : goal.last_below-requires
last_below-requires t c =
    let p = inner_pair c.children.ensures.numbered c.in-Some.ensures.children in
    let d : size_at c.args.self.now c.args.node ≡ t = c.decreases in
    (smaller p.right_smaller d, p.right_within)

pub returns-in-None : goal.returns-in-None
returns-in-None t c = λ s front back e f.
    let p = leaf_place c.args.self.now c.children.ensures.numbered c.args.node c.position.result
    c.in-None.ensures.children c.position.ensures.position s front back e f in
    omega arith

pub returns-in-Some : goal.returns-in-Some
returns-in-Some t c =
    last_right c.args.self.now c.args.node _ _ c.last_below.result
    (inner_pair c.children.ensures.numbered c.in-Some.ensures.children) c.last_below.ensures

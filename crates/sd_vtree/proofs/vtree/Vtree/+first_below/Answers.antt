use Rattle.std.proofs.Common.{◌≡◌}
use Rattle.sd_vtree.proofs.Times.{smaller}
use Rattle.sd_vtree.proofs.Subtrees.{inner_pair, size_at}
use Rattle.sd_vtree.proofs.Ends.{leaf_place, first_left}
use Rattle.sd_vtree.proofs.vtree.Vtree.+first_below.Goals as goal

pub first_below-requires : goal.first_below-requires
first_below-requires t c =
    let p = inner_pair c.children.ensures.numbered c.in-Some.ensures.children in
    let d : size_at c.args.self.now c.args.node ≡ t = c.decreases in
    (smaller p.left_smaller d, p.left_within)

pub returns-in-None : goal.returns-in-None
returns-in-None t c = λ s front back e f.
    (leaf_place c.args.self.now c.children.ensures.numbered c.args.node c.position.result c.in-None.ensures.children
    c.position.ensures.position s front back e f).0

pub returns-in-Some : goal.returns-in-Some
returns-in-Some t c =
    first_left c.args.self.now c.args.node _ _ c.first_below.result
    (inner_pair c.children.ensures.numbered c.in-Some.ensures.children) c.first_below.ensures

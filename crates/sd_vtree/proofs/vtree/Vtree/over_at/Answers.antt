use Rattle.std.proofs.Common.{sym, arith}
use Rattle.sd_vtree.proofs.Subtrees.{inner_pair}
use Rattle.sd_vtree.proofs.Between.{lowest_alone, lowest_reached}
use Rattle.sd_vtree.proofs.vtree.Vtree.over_at.Goals as goal

pub returns-then-low-high : goal.returns-then-low-high
returns-then-low-high c = λ a b at f g u w.
    lowest_alone c.args.self.now c.in_ok-node.ensures.numbered c.args.low c.args.high c.args.here
    c.in_ok-node.node (sym c.in_ok-node.ensures.at) c.requires.first c.requires.last c.if-low-high.true a b at f g u w

pub returns : goal.returns
returns c = λ a b at f g u w.
    let v = c.in_ok-node.ensures.numbered in
    let part = inner_pair v c.in_ok-left.ensures.children in
    lowest_reached c.args.self.now v c.in_ok-node.node _ _ part c.args.low c.args.high c.args.here
    c.size.result c.size-else-size-here.result (sym c.in_ok-node.ensures.at) c.requires.first c.requires.last
    c.size.ensures.size c.size-else-size-here.ensures.size (omega (arith, c.if-size-here.false, c.requires.first))
    (omega (arith, c.if-size-high.false, c.requires.last)) a b at f g u w

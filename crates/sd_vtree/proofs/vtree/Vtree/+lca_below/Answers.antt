use Rattle.std.proofs.Common.{◌≡◌, arith}
use Rattle.sd_vtree.proofs.Times.{smaller}
use Rattle.sd_vtree.proofs.Subtrees.{inner_pair, size_at}
use Rattle.sd_vtree.proofs.Under.{lowest_leaf, lowest_here, lowest_left, lowest_right, under_left, under_right}
use Rattle.sd_vtree.proofs.vtree.Vtree.+lca_below.Goals as goal

pub lca_below-requires : goal.lca_below-requires
lca_below-requires t c =
    let p = inner_pair c.children.ensures.numbered c.in-Some.ensures.children in
    let d : size_at c.args.self.now c.args.node ≡ t = c.decreases in
    (smaller p.left_smaller d, (p.left_within, c.requires.order))

pub lca_below-requires-then-here-low : goal.lca_below-requires-then-here-low
lca_below-requires-then-here-low t c =
    let p = inner_pair c.children.ensures.numbered c.in-Some.ensures.children in
    let d : size_at c.args.self.now c.args.node ≡ t = c.decreases in
    (smaller p.right_smaller d, (p.right_within, c.requires.order))

pub returns-in_default : goal.returns-in_default
returns-in_default t c = λ a b f g u w. lowest_leaf c.args.self.now c.args.node a b c.in_default.ensures.children u w

pub returns-then-high-here : goal.returns-then-high-here
returns-then-high-here t c = λ a b f g u w.
    let v = c.children.ensures.numbered in
    let p = inner_pair v c.in-Some.ensures.children in
    let h = c.position-here.ensures.position in
    let x = c.if-high-here.true in
    let o = c.requires.order in
    lowest_left c.args.self.now v c.args.node _ _ p a c.args.low c.position-here.result f h
    (omega arith) b c.lca_below.result
    (c.lca_below.ensures a b f g
    (under_left c.args.self.now v c.args.node _ _ p a c.args.low c.position-here.result f h (omega arith) u)
    (under_left c.args.self.now v c.args.node _ _ p b c.args.high c.position-here.result g h x w))

pub returns-then-here-low : goal.returns-then-here-low
returns-then-here-low t c = λ a b f g u w.
    let v = c.children.ensures.numbered in
    let p = inner_pair v c.in-Some.ensures.children in
    let h = c.position-here.ensures.position in
    let x = c.if-here-low.true in
    let o = c.requires.order in
    lowest_right c.args.self.now v c.args.node _ _ p a c.args.low c.position-here.result f h x b
    c.lca_below-then-here-low.result
    (c.lca_below-then-here-low.ensures a b f g
    (under_right c.args.self.now v c.args.node _ _ p a c.args.low c.position-here.result f h x u)
    (under_right c.args.self.now v c.args.node _ _ p b c.args.high c.position-here.result g h (omega arith) w))

pub returns-else-here-low : goal.returns-else-here-low
returns-else-here-low t c = λ a b f g u w.
    let v = c.children.ensures.numbered in
    let p = inner_pair v c.in-Some.ensures.children in
    let h = c.position-here.ensures.position in
    let x = c.if-here-low.false in
    let y = c.if-high-here.false in
    lowest_here c.args.self.now v c.args.node _ _ p a b c.args.low c.args.high c.position-here.result f g h x y u w

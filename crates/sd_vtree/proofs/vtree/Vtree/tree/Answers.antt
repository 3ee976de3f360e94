use Rattle.std.proofs.Common.{subst, sym, ◌≤◌}
use Rattle.sd_vtree.specs.Numbered.{numbers, times}
use Rattle.sd_vtree.proofs.Subtrees.{node_within, number_of_in}
use Rattle.sd_vtree.proofs.vtree.Vtree.tree.Goals as goal

pub tree_below-requires : goal.tree_below-requires
tree_below-requires c =
    node_within c.args.self.now c.root.ensures.numbered c.root.result
    (subst (λ n. 1 ≤ times n (numbers c.args.self.now)) (sym c.root.ensures.root) (number_of_in c.args.self.now))

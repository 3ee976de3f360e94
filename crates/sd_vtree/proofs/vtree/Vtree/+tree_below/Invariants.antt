use Rattle.sd_vtree.proofs.Subtrees.{size_at}
use Rattle.sd_vtree.proofs.vtree.Vtree.+tree_below.Given as goal

abbrev pub decreases-tree_below : goal.decreases-tree_below
decreases-tree_below l = size_at l.self.now l.node

use Rattle.sd_vtree.proofs.Subtrees.{size_at}
use Rattle.sd_vtree.proofs.vtree.Vtree.+lca_below.Given as goal

abbrev pub decreases-lca_below : goal.decreases-lca_below
decreases-lca_below l = size_at l.self.now l.node

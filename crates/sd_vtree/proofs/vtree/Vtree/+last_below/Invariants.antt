use Rattle.sd_vtree.proofs.Subtrees.{size_at}
use Rattle.sd_vtree.proofs.vtree.Vtree.+last_below.Given as goal

abbrev pub decreases-last_below : goal.decreases-last_below
decreases-last_below l = size_at l.self.now l.node

use Rattle.sd_vtree.proofs.Subtrees.{size_at}
use Rattle.sd_vtree.proofs.vtree.Vtree.+first_below.Given as goal

abbrev pub decreases-first_below : goal.decreases-first_below
decreases-first_below l = size_at l.self.now l.node

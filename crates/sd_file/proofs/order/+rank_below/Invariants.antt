use Rattle.sd_vtree.proofs.Subtrees.{size_at}
use Rattle.sd_file.proofs.order.+rank_below.Given as goal

-- the number of nodes at or below it
abbrev pub decreases-rank_below : goal.decreases-rank_below
decreases-rank_below l = size_at l.m.now.vtree l.node

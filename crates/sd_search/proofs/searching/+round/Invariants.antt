use Rattle.sd_vtree.proofs.Subtrees.{size_at}
use Rattle.sd_search.proofs.searching.+round.Given as goal

-- the nodes below the one of the round
abbrev pub decreases-round : goal.decreases-round
decreases-round l = size_at l.m.now.vtree l.place

use Rattle.sd_vtree.proofs.starts.+left_over.Given as goal

abbrev pub decreases-left_over : goal.decreases-left_over
decreases-left_over l = l.count

use Rattle.sd_vtree.proofs.starts.+balanced_over.Given as goal

abbrev pub decreases-balanced_over : goal.decreases-balanced_over
decreases-balanced_over l = l.count

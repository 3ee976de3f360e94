use Rattle.sd_vtree.proofs.starts.+right_over.Given as goal

abbrev pub decreases-right_over : goal.decreases-right_over
decreases-right_over l = l.count

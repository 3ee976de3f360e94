use Rattle.sd_vfile.proofs.whole.+tree_at.Given as goal

-- children stand on earlier lines
abbrev pub decreases-tree_at : goal.decreases-tree_at
decreases-tree_at l = l.index

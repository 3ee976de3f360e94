use Rattle.sd_file.specs.Ranks.{HasRankedTo}
use Rattle.sd_file.proofs.order.ranked_elements.Given as goal

-- the elements so far are those of the first pairs
abbrev pub invariant-loop-index : goal.invariant-loop-index
invariant-loop-index l = HasRankedTo l.m l.o l.node l.index l.elements.items

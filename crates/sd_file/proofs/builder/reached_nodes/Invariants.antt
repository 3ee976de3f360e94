use Rattle.sd_file.specs.Built.{AreReached}
use Rattle.sd_file.proofs.builder.reached_nodes.Given as goal

-- the children of marked nodes from the index on have marks
abbrev pub invariant-loop-index : goal.invariant-loop-index
invariant-loop-index l = AreReached l.file l.index l.reached.items

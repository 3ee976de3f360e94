use Rattle.sd_file.specs.Ranks.{HaveCollectedTo}
use Rattle.sd_file.proofs.order.collect_all.Given as goal

-- the first nodes are collected
abbrev pub invariant-loop-node : goal.invariant-loop-node
invariant-loop-node l = HaveCollectedTo l.m l.o l.found l.nodes l.node-index

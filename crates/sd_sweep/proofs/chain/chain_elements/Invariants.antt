use Rattle.sd_sweep.proofs.Chained.{InElements}
use Rattle.sd_sweep.proofs.chain.chain_elements.Given as goal

-- what stands in the first pairs is in the chain
abbrev pub invariant-loop-index : goal.invariant-loop-index
invariant-loop-index l = InElements l.fn.m l.m l.node l.index l.fn.last l.end

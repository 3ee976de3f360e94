use Rattle.sd_apply.specs.Places.{width}
use Rattle.sd_apply.specs.GroupCalls.{StandLower}
use Rattle.sd_apply.proofs.join.skip_right.Given as goal

-- the node and the literals are below the vtree node
abbrev pub invariant-loop-vtree : goal.invariant-loop-vtree
invariant-loop-vtree l = StandLower l.m l.fn.at l.fn.node l.from l.literals l.lower

abbrev pub decreases-loop-vtree : goal.decreases-loop-vtree
decreases-loop-vtree l = width l.m.vtree l.lower

use Rattle.std.proofs.Common.{◌≤◌, length}
use Rattle.sd_apply.proofs.JoiningSteps.{InGroup}
use Rattle.sd_apply.proofs.join.literals_node.Given as goal

-- the literals from the index on are joined
abbrev pub invariant-loop-index : goal.invariant-loop-index
invariant-loop-index l =
    InGroup l.fn.m l.m l.recent l.operation l.at l.index l.literals l.node × (l.fn.from ≤ l.index)
    × (l.index ≤ length l.literals)

abbrev pub decreases-loop-index : goal.decreases-loop-index
decreases-loop-index l = l.index

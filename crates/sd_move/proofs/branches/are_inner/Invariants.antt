use Rattle.std.proofs.Common.{drop}
use Rattle.sd_move.specs.Branches.{AreInnerBelow}
use Rattle.sd_move.proofs.branches.are_inner.Given as goal

-- what is so of the rest is so of all
abbrev pub invariant-loop-index : goal.invariant-loop-index
invariant-loop-index l =
    AreInnerBelow l.m l.fn.corner.middle (drop l.index l.branches) → AreInnerBelow l.m l.fn.corner.middle l.branches

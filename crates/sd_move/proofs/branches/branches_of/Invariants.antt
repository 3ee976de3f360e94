use Rattle.std.proofs.Common.{drop}
use Rattle.sd_apply.specs.Recent.{Knows}
use Rattle.sd_move.proofs.Branching.{IsCollecting}
use Rattle.sd_move.proofs.branches.branches_of.Given as goal

abbrev pub invariant-loop-index : goal.invariant-loop-index
invariant-loop-index l =
    IsCollecting l.fn.m l.m l.fn.corner l.own (drop l.index l.own) l.branches.items × Knows l.recent l.m

use Rattle.std.proofs.Common.{◌-◌, length}
use Rattle.std.specs.FinMap.{get}
use Rattle.sd_laws.proofs.Evaluated.{value_of}
use Rattle.sd_apply.specs.Recent.{Knows}
use Rattle.sd_move.proofs.Branching.{IsJoining}
use Rattle.sd_move.proofs.branches.join_branches.Given as goal

abbrev pub invariant-loop-next : goal.invariant-loop-next
invariant-loop-next l =
    IsJoining l.fn.m l.m (value_of (get l.fn.m.linked)) l.fn.corner l.own l.branches l.all.items l.next
    × Knows l.recent l.m

abbrev pub decreases-loop-next : goal.decreases-loop-next
decreases-loop-next l = length l.branches - l.next

use Rattle.std.proofs.Common.{take}
use Rattle.sd_apply.proofs.Marking.{AreMarked}
use Rattle.sd_apply.proofs.lists.are_marked_apart.Given as goal

-- the subs so far have their marks, and no two are equal
abbrev pub invariant-loop-i : goal.invariant-loop-i
invariant-loop-i l = AreMarked l.seen.items (take l.i l.pairs)

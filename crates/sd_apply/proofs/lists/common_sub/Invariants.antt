use Rattle.std.proofs.Common.{◌≤◌, ◌<◌}
use Rattle.sd_apply.proofs.lists.common_sub.Given as goal

-- the counts are no more than the elements so far, and the index is one of them
abbrev pub invariant-loop-i : goal.invariant-loop-i
invariant-loop-i l =
    (l.subs ≤ l.i) × (l.alike ≤ l.i) × (l.most ≤ l.i) × (0 < l.most → l.index < l.i)

-- How the calls get smaller: the vtree node gets narrower, or the call's rank falls. And what the
-- loop keeps.
use Rattle.std.proofs.Common.{◌+◌, ◌*◌}
use Rattle.sd_apply.specs.Places.{width}
use Rattle.sd_cond.proofs.Steps.{InSubs}
use Rattle.sd_cond.proofs.forgetting.+forget.Given as goal

abbrev pub decreases-forget_at : goal.decreases-forget_at
decreases-forget_at l = 3 * width l.m.now.vtree l.at + 2

abbrev pub decreases-forget_here : goal.decreases-forget_here
decreases-forget_here l = 3 * (width l.m.now.vtree l.fork.now.left + width l.m.now.vtree l.fork.now.right) + 1

abbrev pub decreases-forget_subs : goal.decreases-forget_subs
decreases-forget_subs l = 3 * (width l.m.now.vtree l.fork.now.left + width l.m.now.vtree l.fork.now.right)

abbrev pub invariant-forget_subs-loop-i : goal.invariant-forget_subs-loop-i
invariant-forget_subs-loop-i l =
    InSubs l.fn.m l.m l.fork.node l.answers l.c l.variable.number l.fork.left l.fork.right l.list l.pairs.items l.i

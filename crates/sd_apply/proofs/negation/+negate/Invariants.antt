-- How the calls get smaller: the vtree node gets narrower, or the call's rank falls. And what the loop keeps.
use Rattle.std.proofs.Common.{◌+◌, ◌*◌}
use Rattle.sd_apply.specs.Places.{width}
use Rattle.sd_apply.proofs.Steps.{InFlip}
use Rattle.sd_apply.proofs.negation.+negate.Given as goal

abbrev pub decreases-find_or_negate : goal.decreases-find_or_negate
decreases-find_or_negate l = 8 * width l.m.now.vtree l.at + 4

abbrev pub decreases-negate_anew : goal.decreases-negate_anew
decreases-negate_anew l = 8 * width l.m.now.vtree l.at + 3

abbrev pub decreases-negate_elements : goal.decreases-negate_elements
decreases-negate_elements l = 8 * width l.m.now.vtree l.at + 2

abbrev pub decreases-negate_both : goal.decreases-negate_both
decreases-negate_both l = 8 * width l.m.now.vtree l.at + 5

abbrev pub decreases-negate_subs : goal.decreases-negate_subs
decreases-negate_subs l = 8 * width l.m.now.vtree l.fork.now.right + 5

abbrev pub invariant-negate_subs-loop-i : goal.invariant-negate_subs-loop-i
invariant-negate_subs-loop-i l = InFlip l.fn.m l.m l.recent l.fn.fork.left l.fn.fork.right l.list
    l.pairs.items l.i

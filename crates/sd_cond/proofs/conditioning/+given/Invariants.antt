-- How the calls get smaller: the vtree node gets narrower, or the call's rank falls. And what the
-- loop keeps.
use Rattle.std.proofs.Common.{◌+◌, ◌*◌}
use Rattle.sd_apply.specs.Places.{width}
use Rattle.sd_cond.proofs.Steps.{InPairs}
use Rattle.sd_cond.proofs.conditioning.+given.Given as goal

abbrev pub decreases-given_at : goal.decreases-given_at
decreases-given_at l = 5 * width l.m.now.vtree l.at + 4

abbrev pub decreases-given_here : goal.decreases-given_here
decreases-given_here l = 5 * (width l.m.now.vtree l.fork.now.left + width l.m.now.vtree l.fork.now.right) + 3

abbrev pub decreases-given_halves : goal.decreases-given_halves
decreases-given_halves l =
    5 * (width l.m.now.vtree l.halved.now.split.left + width l.m.now.vtree l.halved.now.split.right) + 2

abbrev pub decreases-given_elements : goal.decreases-given_elements
decreases-given_elements l = 5 * (width l.m.now.vtree l.fork.now.left + width l.m.now.vtree l.fork.now.right) + 2

abbrev pub decreases-given_pairs : goal.decreases-given_pairs
decreases-given_pairs l = 5 * (width l.m.now.vtree l.fork.now.left + width l.m.now.vtree l.fork.now.right) + 1

abbrev pub decreases-given_primes : goal.decreases-given_primes
decreases-given_primes l = 5 * (width l.m.now.vtree l.fork.now.left + width l.m.now.vtree l.fork.now.right)

abbrev pub decreases-given_subs : goal.decreases-given_subs
decreases-given_subs l = 5 * (width l.m.now.vtree l.fork.now.left + width l.m.now.vtree l.fork.now.right)

abbrev pub invariant-given_primes-loop-i : goal.invariant-given_primes-loop-i
invariant-given_primes-loop-i l =
    InPairs l.fn.m l.m l.fork.node l.kept l.c l.condition.variable l.condition.positive l.fork.left l.fork.right
    l.list l.pairs.items l.i

abbrev pub invariant-given_subs-loop-i : goal.invariant-given_subs-loop-i
invariant-given_subs-loop-i l =
    InPairs l.fn.m l.m l.fork.node l.kept l.c l.condition.variable l.condition.positive l.fork.left l.fork.right
    l.list l.pairs.items l.i

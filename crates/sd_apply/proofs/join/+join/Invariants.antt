-- How the calls get smaller: the vtree node gets narrower, or the call's rank falls.
use Rattle.std.proofs.Common.{◌+◌, ◌*◌}
use Rattle.sd_apply.specs.Places.{width}
use Rattle.sd_apply.proofs.join.+join.Given as goal

abbrev pub decreases-join_from : goal.decreases-join_from
decreases-join_from l = 4 * width l.m.now.vtree l.at + 3

abbrev pub decreases-join_below : goal.decreases-join_below
decreases-join_below l = 4 * width l.m.now.vtree l.at + 2

abbrev pub decreases-join_at : goal.decreases-join_at
decreases-join_at l = 4 * width l.m.now.vtree l.at + 1

abbrev pub decreases-join_halves : goal.decreases-join_halves
decreases-join_halves l = 4 * width l.m.now.vtree l.split.now.right + 4

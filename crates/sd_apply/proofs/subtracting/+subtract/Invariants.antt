-- How the calls get smaller: the vtree node gets narrower, or the call's rank falls.
use Rattle.std.proofs.Common.{◌+◌, ◌*◌}
use Rattle.sd_apply.specs.Places.{width}
use Rattle.sd_apply.proofs.subtracting.+subtract.Given as goal

abbrev pub decreases-find_or_subtract : goal.decreases-find_or_subtract
decreases-find_or_subtract l = 8 * width l.m.now.vtree l.at + 4

abbrev pub decreases-subtract_anew : goal.decreases-subtract_anew
decreases-subtract_anew l = 8 * width l.m.now.vtree l.at + 3

abbrev pub decreases-subtract_at_lca : goal.decreases-subtract_at_lca
decreases-subtract_at_lca l = 8 * width l.m.now.vtree l.at + 2

abbrev pub decreases-subtract_by_halves : goal.decreases-subtract_by_halves
decreases-subtract_by_halves l =
    8 * (width l.m.now.vtree l.found.now.split.left + width l.m.now.vtree l.found.now.split.right) + 1

abbrev pub decreases-subtract_halves : goal.decreases-subtract_halves
decreases-subtract_halves l = 8 * width l.m.now.vtree l.right + 5

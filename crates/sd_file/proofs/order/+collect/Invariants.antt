use Rattle.std.proofs.Common.{◌+◌, ◌*◌}
use Rattle.sd_file.specs.Ranks.{HasCollectedTo}
use Rattle.sd_file.proofs.order.+collect.Given as goal

-- each call from one of the two to the other is less
abbrev pub decreases-collect_below : goal.decreases-collect_below
decreases-collect_below l = 2 * l.levels

abbrev pub decreases-collect : goal.decreases-collect
decreases-collect l = 2 * l.levels + 1

-- the first pairs are collected
abbrev pub invariant-collect_below-loop-index : goal.invariant-collect_below-loop-index
invariant-collect_below-loop-index l = HasCollectedTo l.m l.fn.o l.o l.fn.found l.found l.node l.index

-- The measure: twice the number of workers, and one more for the closure.
use Rattle.std.proofs.Common.{◌+◌, ◌*◌}
use Rattle.sd_parts.proofs.tasks.+fn-work_pieces-other_pieces+work_pieces.Given as goal

abbrev pub decreases-other_pieces : goal.decreases-other_pieces
decreases-other_pieces g l = 2 * l.others + 1

abbrev pub decreases-work_pieces : goal.decreases-work_pieces
decreases-work_pieces g l = 2 * l.workers

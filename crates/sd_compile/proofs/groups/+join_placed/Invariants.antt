use Rattle.std.proofs.Common.{length}
use Rattle.sd_compile.proofs.groups.+join_placed.Given as goal

-- each part is shorter
abbrev pub decreases-join_placed : goal.decreases-join_placed
decreases-join_placed l = length l.placed.now

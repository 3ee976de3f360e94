use Rattle.std.proofs.Common.{length}
use Rattle.sd_compile.proofs.parity.+parity_of.Given as goal

-- each part is shorter
abbrev pub decreases-parity_of : goal.decreases-parity_of
decreases-parity_of l = length l.placed.now

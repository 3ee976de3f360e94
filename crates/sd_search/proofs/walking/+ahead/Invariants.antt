use Rattle.std.proofs.Common.{length}
use Rattle.sd_search.proofs.walking.+ahead.Given as goal

-- the steps that are left
abbrev pub decreases-ahead : goal.decreases-ahead
decreases-ahead l = length l.steps.now

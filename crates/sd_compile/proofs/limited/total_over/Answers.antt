use Rattle.std.proofs.Common.{arith}
use Rattle.sd_compile.proofs.Holding.{size_within}
use Rattle.sd_compile.proofs.limited.total_over.Goals as goal

-- the size is at most the lengths of all lists
pub returns-then-used-limit-clause-none : goal.returns-then-used-limit-clause-none
returns-then-used-limit-clause-none c ds are =
    omega (arith, size_within c.args.m.now c.used.ensures.table ds are, c.used.ensures.used)

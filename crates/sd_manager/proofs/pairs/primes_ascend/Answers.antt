use Rattle.std.proofs.Common.{arith}
use Rattle.sd_manager.proofs.Ascending.{ascending_sorted}
use Rattle.sd_manager.proofs.pairs.primes_ascend.Goals as goal

pub returns : goal.returns
returns c = λ yes.
    ascending_sorted c.args.list.now (λ k lt. c.loop-i.invariant k (omega (arith, lt, c.loop-i-test.false)))

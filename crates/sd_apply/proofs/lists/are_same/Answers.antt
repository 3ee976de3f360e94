use Rattle.std.proofs.Common.{arith}
use Rattle.sd_apply.proofs.Same.{equal_lists}
use Rattle.sd_apply.proofs.lists.are_same.Goals as goal

pub returns : goal.returns
returns c = λ yes.
    let h = c.loop-i.invariant in
    equal_lists c.args.first.now c.args.second.now h.0
    (λ k lt. h.1 k (omega (arith, lt, c.loop-i-test.false)))
    (λ k lt. h.2 k (omega (arith, lt, c.loop-i-test.false)))

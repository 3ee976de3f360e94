use Rattle.std.proofs.Common.{arith}
use Rattle.sd_apply.proofs.Sorting.{walked_ascend}
use Rattle.sd_apply.proofs.lists.subs_ascend.Goals as goal

pub returns : goal.returns
returns c = λ yes.
    walked_ascend c.args.list.now (λ k lt. c.loop-i.invariant k (omega (arith, lt, c.loop-i-test.false)))

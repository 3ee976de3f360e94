use Rattle.std.proofs.Common.{subst, map, arith, ℕ, List}
use Rattle.sd_model.specs.Tree.{AreDistinct}
use Rattle.sd_apply.specs.Elements.{sub_then_prime}
use Rattle.sd_apply.proofs.Marking.{ascend_distinct}
use Rattle.sd_apply.proofs.lists.subs_differ.Goals as goal

pub returns : goal.returns
returns c = λ yes.
    let D : List (ℕ × ℕ) → Type 0 = λ l. AreDistinct (map (λ (e : ℕ × ℕ). e.1) (map sub_then_prime l)) in
    subst D c.as_slice-list.ensures (ascend_distinct c.as_slice-list.result.now
    (λ k lt. c.loop-i.invariant k (omega (arith, lt, c.loop-i-test.false))))

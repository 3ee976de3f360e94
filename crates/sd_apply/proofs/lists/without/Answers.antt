use Rattle.std.proofs.Common.{ℕ, get_or, refl}
use Rattle.sd_apply.proofs.Classes.{without_skip, without_push}
use Rattle.sd_apply.proofs.lists.without.Goals as goal
use Rattle.sd_apply.proofs.lists.without.Goals.{then-pair-sub+in-Ok, else-pair-sub}

pub loop-i-preserved : goal.loop-i-preserved
loop-i-preserved c =
    let l = c.args.sorted.now in
    let i = c.loop-i.i in
    let e : ℕ × ℕ = get_or l i (0, 0) in
    elim c.if-pair-sub.branch [
      | then-pair-sub+in-Ok w ↦
          rw w.others-is
          (without_push c.args.sub l c.loop-i.others.items w.push.new.self.items i e c.loop-i.invariant
          c.loop-i-test.true refl w.if-pair-sub.true w.in-Ok.ensures.ok)
      | else-pair-sub w ↦
          rw w.others-is
          (without_skip c.args.sub l c.loop-i.others.items i e c.loop-i.invariant c.loop-i-test.true refl
          w.if-pair-sub.false)
    ]

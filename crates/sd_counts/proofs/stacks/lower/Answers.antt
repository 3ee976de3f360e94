use Rattle.std.proofs.Common.{◌-◌, ◌<◌, arith, refl}
use Rattle.sd_counts.specs.Queued.{at}
use Rattle.sd_counts.proofs.OnStack.{not_both, not_true, not_false}
use Rattle.sd_counts.proofs.Queueing.{queued_same, queued_down}
use Rattle.sd_counts.proofs.Adding.{drops_one, settled_less, used_inside, live_is}
use Rattle.sd_counts.proofs.stacks.lower.Goals as goal
use Rattle.sd_counts.proofs.stacks.lower.Goals.{then-count-gt0-via-then-count-gt0}
use Rattle.sd_counts.proofs.stacks.lower.Goals.{then-count-gt0-via-else-count-gt0+then-not-count}
use Rattle.sd_counts.proofs.stacks.lower.Goals.{then-count-gt0-via-else-count-gt0+else-not-count+then-count}

pub returns-then-count-gt0-clause-queued : goal.returns-then-count-gt0-clause-queued
returns-then-count-gt0-clause-queued c = λ rising q.
    let used = c.requires.used (omega arith) in
    let live : 0 < (at c.args.counts.now (c.args.code - 2050)).live =
    omega (arith, used, live_is c.args.counts.now 0 (c.args.code - 2050)) in
    queued_same c.args.counts.now (c.args.code - 2050) _ (used_inside c.args.counts.now 0 (c.args.code - 2050) used)
    rising c.args.falling q refl refl refl (λ off.
    settled_less (at c.args.counts.now (c.args.code - 2050)) _ (q.rest (c.args.code - 2050) off) live refl
    (λ counted. elim c.then-count-gt0.branch [
      | then-count-gt0-via-then-count-gt0 w ↦ w.if-count-gt0.true
      | then-count-gt0-via-else-count-gt0+then-not-count w ↦ absurd (not_both (not_true w.if-not-count.true) counted)
      | then-count-gt0-via-else-count-gt0+else-not-count+then-count w ↦ absurd (not_both off w.if-count.true)
    ]))

pub returns-then-count-gt0-clause-lowered : goal.returns-then-count-gt0-clause-lowered
returns-then-count-gt0-clause-lowered c =
    let used = c.requires.used (omega arith) in
    drops_one c.args.counts.now c.args.code _ (omega arith)
    (used_inside c.args.counts.now 0 (c.args.code - 2050) used) refl 0
    (omega (arith, used, live_is c.args.counts.now 0 (c.args.code - 2050)))

pub returns-clause-queued : goal.returns-clause-queued
returns-clause-queued c = λ rising q.
    queued_down c.args.counts.now (c.args.code - 2050) _
    (used_inside c.args.counts.now 0 (c.args.code - 2050) (c.requires.used (omega arith))) rising c.args.falling q
    c.if-count.false refl (not_false c.if-not-count.false) (not_false c.if-not-count.false) refl

pub returns-clause-lowered : goal.returns-clause-lowered
returns-clause-lowered c =
    let used = c.requires.used (omega arith) in
    drops_one c.args.counts.now c.args.code _ (omega arith)
    (used_inside c.args.counts.now 0 (c.args.code - 2050) used) refl 0
    (omega (arith, used, live_is c.args.counts.now 0 (c.args.code - 2050)))

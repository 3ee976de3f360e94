use Rattle.std.proofs.Common.{◌-◌, arith, refl}
use Rattle.sd_counts.proofs.OnStack.{not_both}
use Rattle.sd_counts.proofs.Queueing.{queued_same, queued_up}
use Rattle.sd_counts.proofs.Adding.{adds_one, settled_used}
use Rattle.sd_counts.proofs.stacks.raise.Goals as goal
use Rattle.sd_counts.proofs.stacks.raise.Goals.{then-count-via-then-count, then-count-via-else-count+then-count-2}

pub returns-then-count-clause-queued : goal.returns-then-count-clause-queued
returns-then-count-clause-queued c = λ falling q.
    queued_same c.args.counts.now (c.args.code - 2050) _ (c.requires.within (omega arith)) c.args.rising falling q
    refl refl refl (λ off. elim c.then-count.branch [
      | then-count-via-then-count w ↦ settled_used _ w.if-count.true (omega arith)
      | then-count-via-else-count+then-count-2 w ↦ absurd (not_both off w.if-count-2.true)
    ])

pub returns-then-count-clause-raised : goal.returns-then-count-clause-raised
returns-then-count-clause-raised c =
    adds_one c.args.counts.now c.args.code _ (omega arith) (c.requires.within (omega arith)) refl 0 refl

pub returns-clause-queued : goal.returns-clause-queued
returns-clause-queued c = λ falling q.
    queued_up c.args.counts.now (c.args.code - 2050) _ (c.requires.within (omega arith)) c.args.rising falling q
    c.if-count-2.false refl c.if-count.false c.if-count.false refl

pub returns-clause-raised : goal.returns-clause-raised
returns-clause-raised c =
    adds_one c.args.counts.now c.args.code _ (omega arith) (c.requires.within (omega arith)) refl 0 refl

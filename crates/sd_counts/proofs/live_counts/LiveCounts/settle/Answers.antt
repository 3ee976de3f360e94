use Rattle.std.proofs.Common.{sym, subst, ◌∙◌}
use Rattle.sd_counts.specs.Queued.{AreQueued, seen, no_number}
use Rattle.sd_counts.specs.Right.{AreOf}
use Rattle.sd_counts.proofs.Whole.{whole_slice, all_settled}
use Rattle.sd_counts.proofs.Filled.{full_filled, full_lent, kept_full, seen_lent}
use Rattle.sd_counts.proofs.live_counts.LiveCounts.settle.Goals as goal

pub fall_all-self-inside-requires-clause-queued : goal.fall_all-self-inside-requires-clause-queued
fall_all-self-inside-requires-clause-queued c =
    let s = c.self.inside in (
      no_number,
      subst (λ l. AreQueued l no_number s.falling) (sym c.deref_mut-2.ensures.value)
          (full_lent c.fill.new.counts.items c.deref_mut.result.now c.rise_all-self-inside.new.counts _ _ _
          s.rising s.falling no_number s.falling c.deref_mut.ensures.value c.deref_mut.ensures.len
          c.rise_all-self-inside.auto.counts (c.rise_all-self-inside.ensures.queued s.falling)
          (full_filled s.counts.items c.fill.new.counts.items s.size _ _ s.rising s.falling c.self.invariant
          c.fill.ensures.filled c.fill.ensures.room)).queued,
    )

pub fall_all-self-inside-requires-clause-right : goal.fall_all-self-inside-requires-clause-right
fall_all-self-inside-requires-clause-right c =
    let s = c.self.inside in
    let nodes = c.args.nodes.now in
    let held = c.requires.right.0 in (
      held,
      subst (λ l. AreOf nodes held (seen l c.rise_all-self-inside.result))
          (sym (c.deref_mut-2.ensures.value ∙ whole_slice c.rise_all-self-inside.new.counts c.fill.new.counts.items _
          (c.rise_all-self-inside.auto.counts ∙ c.deref_mut.ensures.len)))
          (c.rise_all-self-inside.ensures.right held
          (subst (λ l. AreOf nodes held (seen l s.total)) (sym (c.deref_mut.ensures.value ∙ c.fill.ensures.filled))
          (subst (AreOf nodes held) (sym c.self.view_is) c.requires.right.1))),
    )

pub invariant_of-self : goal.invariant_of-self
invariant_of-self c =
    let s = c.self.inside in
    kept_full _ _ _ _ _
    (full_lent _ c.deref_mut-2.result.now c.fall_all-self-inside.new.counts _ _ _ no_number s.falling
    no_number no_number c.deref_mut-2.ensures.value c.deref_mut-2.ensures.len c.fall_all-self-inside.auto.counts
    (c.fall_all-self-inside.ensures.queued no_number)
    (full_lent c.fill.new.counts.items c.deref_mut.result.now c.rise_all-self-inside.new.counts _ _ _
    s.rising s.falling no_number s.falling c.deref_mut.ensures.value c.deref_mut.ensures.len
    c.rise_all-self-inside.auto.counts (c.rise_all-self-inside.ensures.queued s.falling)
    (full_filled s.counts.items c.fill.new.counts.items s.size _ _ s.rising s.falling c.self.invariant
    c.fill.ensures.filled c.fill.ensures.room)))

pub returns-clause-settled : goal.returns-clause-settled
returns-clause-settled c = all_settled _ _ (invariant_of-self c).queued

pub returns-clause-right : goal.returns-clause-right
returns-clause-right c = λ held of.
    let s = c.self.inside in
    let nodes = c.args.nodes.now in
    let full = full_filled s.counts.items c.fill.new.counts.items s.size _ _ s.rising s.falling c.self.invariant
    c.fill.ensures.filled c.fill.ensures.room in
    let between = full_lent c.fill.new.counts.items c.deref_mut.result.now c.rise_all-self-inside.new.counts _ _ _
    s.rising s.falling no_number s.falling c.deref_mut.ensures.value c.deref_mut.ensures.len
    c.rise_all-self-inside.auto.counts (c.rise_all-self-inside.ensures.queued s.falling) full in
    let lent = seen_lent _ c.deref_mut-2.result.now c.fall_all-self-inside.new.counts _ s.size _
    c.fall_all-self-inside.result no_number s.falling c.deref_mut-2.ensures.value c.deref_mut-2.ensures.len
    c.fall_all-self-inside.auto.counts between in
    subst (AreOf nodes held) (sym lent)
    (c.fall_all-self-inside.ensures.right held
    (subst (λ l. AreOf nodes held (seen l c.rise_all-self-inside.result))
    (sym (c.deref_mut-2.ensures.value ∙ whole_slice c.rise_all-self-inside.new.counts c.fill.new.counts.items _
    (c.rise_all-self-inside.auto.counts ∙ c.deref_mut.ensures.len)))
    (c.rise_all-self-inside.ensures.right held
    (subst (λ l. AreOf nodes held (seen l s.total)) (sym (c.deref_mut.ensures.value ∙ c.fill.ensures.filled))
    (subst (AreOf nodes held) (sym c.self.view_is) of)))))

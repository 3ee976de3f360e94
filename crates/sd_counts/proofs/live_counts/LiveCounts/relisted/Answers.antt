use Rattle.std.proofs.Common.{◌≡◌, ◌+◌, ◌-◌, length, sym, ap, subst, ◌∙◌}
use Rattle.sd_counts.specs.Counts.{Adds}
use Rattle.sd_counts.specs.Queued.{AreQueued, seen}
use Rattle.sd_counts.specs.Uses.{uses_in}
use Rattle.sd_counts.proofs.Filled.{full_filled, full_lent, kept_full, seen_lent, relisted_seen}
use Rattle.sd_counts.proofs.Whole.{whole_slice}
use Rattle.sd_counts.proofs.live_counts.LiveCounts.relisted.Goals as goal

pub lower_all-self-inside-requires-clause-queued : goal.lower_all-self-inside-requires-clause-queued
lower_all-self-inside-requires-clause-queued c =
    let s = c.self.inside in (
      c.raise_all-self-inside.result,
      subst (λ l. AreQueued l c.raise_all-self-inside.result s.falling)
          (sym c.deref_mut-then-is_counted.ensures.value)
          (full_lent c.fill.new.counts.items c.deref_mut.result.now c.raise_all-self-inside.new.counts _ _ _
          s.rising s.falling c.raise_all-self-inside.result s.falling c.deref_mut.ensures.value
          c.deref_mut.ensures.len c.raise_all-self-inside.auto.counts
          (c.raise_all-self-inside.ensures.queued s.falling)
          (full_filled s.counts.items c.fill.new.counts.items s.size _ _ s.rising s.falling c.self.invariant
          c.fill.ensures.filled c.fill.ensures.room)).queued,
    )

pub invariant_of-self : goal.invariant_of-self
invariant_of-self c =
    let s = c.self.inside in
    kept_full _ _ _ _ _
    (full_lent _ c.deref_mut-then-is_counted.result.now c.lower_all-self-inside.new.counts _ _ _
    c.raise_all-self-inside.result s.falling c.raise_all-self-inside.result c.lower_all-self-inside.result
    c.deref_mut-then-is_counted.ensures.value c.deref_mut-then-is_counted.ensures.len
    c.lower_all-self-inside.auto.counts
    (c.lower_all-self-inside.ensures.queued c.raise_all-self-inside.result)
    (full_lent c.fill.new.counts.items c.deref_mut.result.now c.raise_all-self-inside.new.counts _ _ _
    s.rising s.falling c.raise_all-self-inside.result s.falling c.deref_mut.ensures.value
    c.deref_mut.ensures.len c.raise_all-self-inside.auto.counts (c.raise_all-self-inside.ensures.queued s.falling)
    (full_filled s.counts.items c.fill.new.counts.items s.size _ _ s.rising s.falling c.self.invariant
    c.fill.ensures.filled c.fill.ensures.room)))

pub returns-then-is_counted-clause-relisted : goal.returns-then-is_counted-clause-relisted
returns-then-is_counted-clause-relisted c = λ on.
    let s = c.self.inside in
    let old = c.args.old.now in
    let list = c.args.new.now in
    let total = s.total - length old + length list in
    let new = c.lower_all-self-inside.new.counts in
    let raised = c.raise_all-self-inside.new.counts in
    let before = ap (λ l. seen l s.total) (c.deref_mut.ensures.value ∙ c.fill.ensures.filled) ∙ c.self.view_is in
    let full = full_filled s.counts.items c.fill.new.counts.items s.size _ _ s.rising s.falling c.self.invariant
    c.fill.ensures.filled c.fill.ensures.room in
    let between = full_lent c.fill.new.counts.items c.deref_mut.result.now raised _ _ _
    s.rising s.falling c.raise_all-self-inside.result s.falling c.deref_mut.ensures.value
    c.deref_mut.ensures.len c.raise_all-self-inside.auto.counts (c.raise_all-self-inside.ensures.queued s.falling)
    full in
    let lent = seen_lent _ c.deref_mut-then-is_counted.result.now new _ s.size _ total
    c.raise_all-self-inside.result s.falling c.deref_mut-then-is_counted.ensures.value
    c.deref_mut-then-is_counted.ensures.len c.lower_all-self-inside.auto.counts between in
    let again : c.deref_mut-then-is_counted.result.now ≡ raised =
    c.deref_mut-then-is_counted.ensures.value ∙ whole_slice raised c.fill.new.counts.items _
    (c.raise_all-self-inside.auto.counts ∙ c.deref_mut.ensures.len) in
    relisted_seen _ _ c.deref_mut.result.now raised new s.total old list before lent
    c.raise_all-self-inside.ensures.raised
    (subst (λ l. Adds (seen new 0) (seen l 0) (λ n. uses_in n old)) again c.lower_all-self-inside.ensures.lowered)
    (c.requires.listed on)

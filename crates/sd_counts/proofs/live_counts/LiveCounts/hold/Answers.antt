use Rattle.std.proofs.Common.{ap, ◌∙◌}
use Rattle.sd_counts.specs.Queued.{seen}
use Rattle.sd_counts.proofs.Filled.{full_filled, full_lent, kept_full, seen_lent, adds_seen}
use Rattle.sd_counts.proofs.live_counts.LiveCounts.hold.Goals as goal

pub invariant_of-self : goal.invariant_of-self
invariant_of-self c =
    let s = c.self.inside in
    kept_full _ _ _ _ _ (full_lent c.fill.new.counts.items c.deref_mut.result.now c.raise-self-inside.new.counts _ _ _
    s.rising s.falling c.raise-self-inside.result s.falling c.deref_mut.ensures.value
    c.deref_mut.ensures.len c.raise-self-inside.auto.counts (c.raise-self-inside.ensures.queued s.falling)
    (full_filled s.counts.items c.fill.new.counts.items s.size _ _ s.rising s.falling c.self.invariant
    c.fill.ensures.filled c.fill.ensures.room))

pub returns : goal.returns
returns c =
    let s = c.self.inside in
    let lent = c.deref_mut.result.now in
    let new = c.raise-self-inside.new.counts in
    let full = full_filled s.counts.items c.fill.new.counts.items s.size _ _ s.rising s.falling c.self.invariant
    c.fill.ensures.filled c.fill.ensures.room in
    let before = ap (λ l. seen l s.total) (c.deref_mut.ensures.value ∙ c.fill.ensures.filled) ∙ c.self.view_is in
    let after = seen_lent c.fill.new.counts.items lent new _ s.size _ s.total s.rising s.falling
    c.deref_mut.ensures.value c.deref_mut.ensures.len c.raise-self-inside.auto.counts full in
    record { held = adds_seen _ _ lent new s.total _ before after c.raise-self-inside.ensures.raised }

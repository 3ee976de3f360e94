use Rattle.std.proofs.Common.{slice_get, sym, ap, subst, ◌∙◌}
use Rattle.sd_unique.proofs.Moved.{free_not_linked}
use Rattle.sd_unique.specs.Chains.{AreHashed}
use Rattle.sd_unique.specs.Record.{nodes_of}
use Rattle.sd_unique.proofs.Numbered.{is_nodes}
use Rattle.sd_unique.proofs.Waiting.{kept_queued}
use Rattle.sd_unique.proofs.Reading.{whole_slice}
use Rattle.sd_unique.proofs.Whole.{kept_as, kept_whole}
use Rattle.sd_unique.proofs.Hashes.{hashed_whole}
use Rattle.sd_unique.proofs.nodes.Nodes.retire.Goals as goal

pub free-requires-clause-kept : goal.free-requires-clause-kept
free-requires-clause-kept c = (
  c.self.inside.candidates.0,
  kept_as c.self.inside.runs c.self.inside.records.items c.deref_mut.result.now c.self.inside.links.items
      c.deref_mut-2.result.now c.self.inside.heads.items c.deref_mut-3.result.now c.self.inside.places.items
      c.deref_mut-4.result.now c.self.inside.candidates.0 c.deref_mut.ensures.value c.deref_mut-2.ensures.value
      c.deref_mut-3.ensures.value c.deref_mut-4.ensures.value c.self.invariant.0,
)

pub invariant_of-self : goal.invariant_of-self
invariant_of-self c = (
  let lent = kept_as c.self.inside.runs c.self.inside.records.items c.deref_mut.result.now c.self.inside.links.items
      c.deref_mut-2.result.now c.self.inside.heads.items c.deref_mut-3.result.now c.self.inside.places.items
      c.deref_mut-4.result.now c.self.inside.candidates.0 c.deref_mut.ensures.value c.deref_mut-2.ensures.value
      c.deref_mut-3.ensures.value c.deref_mut-4.ensures.value c.self.invariant.0 in
      kept_queued c.free.new.runs _ _ _ _ c.self.inside.candidates.0 c.pop_top.new.self.0 c.pop_top.ensures.size
      (λ n r e unused. c.pop_top.ensures.others n
      (λ same. free_not_linked r.state (c.free.ensures.free r
      (ap (slice_get c.free.new.records) (sym same)
      ∙ ap (λ l. slice_get l n) (sym (whole_slice c.free.new.records c.self.inside.records.items
      c.self.inside.records.len (c.free.auto.records ∙ c.deref_mut.ensures.len))) ∙ e)) unused.linked))
      (kept_whole c.free.new.runs c.free.new.records c.self.inside.records.items c.free.new.links
      c.self.inside.links.items c.free.new.heads c.self.inside.heads.items c.free.new.places
      c.self.inside.places.items c.self.inside.candidates.0 _ _ _ _
      (c.free.auto.records ∙ c.deref_mut.ensures.len) (c.free.auto.links ∙ c.deref_mut-2.ensures.len)
      (c.free.auto.heads ∙ c.deref_mut-3.ensures.len) (c.free.auto.places ∙ c.deref_mut-4.ensures.len)
      (c.free.ensures.kept c.self.inside.candidates.0 lent)),
  hashed_whole c.self.inside.runs c.free.new.runs c.free.new.records c.self.inside.records.items
      c.deref_mut.result.now c.self.inside.hashes.items c.self.inside.hashes.items _ c.deref_mut.ensures.value
      (c.free.auto.records ∙ c.deref_mut.ensures.len) (c.free.ensures.hashed c.self.inside.hashes.items)
      c.self.invariant.1,
  c.self.invariant.2,
)

pub returns-clause-nodes : goal.returns-clause-nodes
returns-clause-nodes c = is_nodes (invariant_of-self c).0.stored

pub free-requires-clause-hashed : goal.free-requires-clause-hashed
free-requires-clause-hashed c = λ stand.
    subst (λ h. AreHashed h (nodes_of c.self.inside.runs c.deref_mut.result.now)) (sym c.deref.ensures.value)
    (subst (λ rs. AreHashed c.self.inside.hashes.items (nodes_of c.self.inside.runs rs)) (sym c.deref_mut.ensures.value)
    c.self.invariant.1)

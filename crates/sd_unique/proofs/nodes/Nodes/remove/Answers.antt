use Rattle.std.proofs.Common.{◌∙◌}
use Rattle.sd_unique.proofs.Numbered.{is_nodes}
use Rattle.sd_unique.proofs.Whole.{kept_as, kept_whole}
use Rattle.sd_unique.proofs.Hashes.{hashed_whole}
use Rattle.sd_unique.proofs.nodes.Nodes.remove.Goals as goal

pub release-requires-clause-kept : goal.release-requires-clause-kept
release-requires-clause-kept c = (
  c.self.inside.chained,
  c.self.inside.candidates.0,
  kept_as c.self.inside.runs c.self.inside.records.items c.deref_mut.result.now c.self.inside.links.items
      c.deref_mut-2.result.now c.self.inside.heads.items c.deref_mut-3.result.now c.self.inside.places.items
      c.deref_mut-4.result.now c.self.inside.candidates.0 c.deref_mut.ensures.value c.deref_mut-2.ensures.value
      c.deref_mut-3.ensures.value c.deref_mut-4.ensures.value c.self.invariant.0,
)

pub invariant_of-self : goal.invariant_of-self
invariant_of-self c = (
  kept_whole c.release.new.runs c.release.new.records c.self.inside.records.items c.release.new.links
      c.self.inside.links.items c.release.new.heads c.self.inside.heads.items c.release.new.places
      c.self.inside.places.items c.self.inside.candidates.0 _ _ _ _
      (c.release.auto.records ∙ c.deref_mut.ensures.len) (c.release.auto.links ∙ c.deref_mut-2.ensures.len)
      (c.release.auto.heads ∙ c.deref_mut-3.ensures.len) (c.release.auto.places ∙ c.deref_mut-4.ensures.len)
      (c.release.ensures.kept c.self.inside.chained c.self.inside.candidates.0
      (kept_as c.self.inside.runs c.self.inside.records.items c.deref_mut.result.now c.self.inside.links.items
      c.deref_mut-2.result.now c.self.inside.heads.items c.deref_mut-3.result.now c.self.inside.places.items
      c.deref_mut-4.result.now c.self.inside.candidates.0 c.deref_mut.ensures.value c.deref_mut-2.ensures.value
      c.deref_mut-3.ensures.value c.deref_mut-4.ensures.value c.self.invariant.0)),
  hashed_whole c.self.inside.runs c.release.new.runs c.release.new.records c.self.inside.records.items
      c.deref_mut.result.now c.self.inside.hashes.items c.self.inside.hashes.items _ c.deref_mut.ensures.value
      (c.release.auto.records ∙ c.deref_mut.ensures.len) (c.release.ensures.hashed c.self.inside.hashes.items)
      c.self.invariant.1,
  c.self.invariant.2,
)

pub returns-clause-nodes : goal.returns-clause-nodes
returns-clause-nodes c = is_nodes (invariant_of-self c).0.stored

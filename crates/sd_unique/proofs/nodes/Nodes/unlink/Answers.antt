use Rattle.std.proofs.Common.{sym, subst, ◌∙◌}
use Rattle.sd_unique.specs.Chains.{AreHashed}
use Rattle.sd_unique.specs.Record.{nodes_of}
use Rattle.sd_unique.proofs.Numbered.{is_nodes}
use Rattle.sd_unique.proofs.Whole.{kept_as, kept_whole}
use Rattle.sd_unique.proofs.Hashes.{hashed_whole}
use Rattle.sd_unique.proofs.nodes.Nodes.unlink.Goals as goal

pub detach-requires-clause-kept : goal.detach-requires-clause-kept
detach-requires-clause-kept c = (
  c.self.inside.candidates.0,
  kept_as c.self.inside.runs c.self.inside.records.items c.deref_mut.result.now c.self.inside.links.items
      c.deref_mut-2.result.now c.self.inside.heads.items c.deref_mut-3.result.now c.self.inside.places.items
      c.deref_mut-4.result.now c.self.inside.candidates.0 c.deref_mut.ensures.value c.deref_mut-2.ensures.value
      c.deref_mut-3.ensures.value c.deref_mut-4.ensures.value c.self.invariant.0,
)

pub invariant_of-self : goal.invariant_of-self
invariant_of-self c = (
  kept_whole c.self.inside.runs c.detach.new.records c.self.inside.records.items c.detach.new.links
      c.self.inside.links.items c.detach.new.heads c.self.inside.heads.items c.detach.new.places
      c.self.inside.places.items c.self.inside.candidates.0 _ _ _ _
      (c.detach.auto.records ∙ c.deref_mut.ensures.len) (c.detach.auto.links ∙ c.deref_mut-2.ensures.len)
      (c.detach.auto.heads ∙ c.deref_mut-3.ensures.len) (c.detach.auto.places ∙ c.deref_mut-4.ensures.len)
      (c.detach.ensures.kept c.self.inside.candidates.0
      (kept_as c.self.inside.runs c.self.inside.records.items c.deref_mut.result.now c.self.inside.links.items
      c.deref_mut-2.result.now c.self.inside.heads.items c.deref_mut-3.result.now c.self.inside.places.items
      c.deref_mut-4.result.now c.self.inside.candidates.0 c.deref_mut.ensures.value c.deref_mut-2.ensures.value
      c.deref_mut-3.ensures.value c.deref_mut-4.ensures.value c.self.invariant.0)),
  hashed_whole c.self.inside.runs c.self.inside.runs c.detach.new.records c.self.inside.records.items
      c.deref_mut.result.now c.self.inside.hashes.items c.self.inside.hashes.items _ c.deref_mut.ensures.value
      (c.detach.auto.records ∙ c.deref_mut.ensures.len) (c.detach.ensures.hashed c.self.inside.hashes.items)
      c.self.invariant.1,
  c.self.invariant.2,
)

pub returns-clause-nodes : goal.returns-clause-nodes
returns-clause-nodes c = is_nodes (invariant_of-self c).0.stored

pub detach-requires-clause-hashed : goal.detach-requires-clause-hashed
detach-requires-clause-hashed c = λ stand.
    subst (λ h. AreHashed h (nodes_of c.self.inside.runs c.deref_mut.result.now)) (sym c.deref.ensures.value)
    (subst (λ rs. AreHashed c.self.inside.hashes.items (nodes_of c.self.inside.runs rs)) (sym c.deref_mut.ensures.value)
    c.self.invariant.1)

use Rattle.std.proofs.Common.{◌≡◌, if◌then◌else◌, length, subst, sym, ap, ◌∙◌, arith}
use Rattle.std.proofs.lemmas.List.{length-replicate}
use Rattle.sd_unique.specs.Nodes.{IsNodes}
use Rattle.sd_unique.specs.Chains.{head_of, list_under, no_record, AreInLists}
use Rattle.sd_unique.proofs.Growing.{no_heads}
use Rattle.sd_unique.proofs.ListsMade.{all_heads, kept_listed}
use Rattle.sd_unique.proofs.Numbered.{is_nodes}
use Rattle.sd_unique.proofs.Occupied.{kept_fields}
use Rattle.sd_unique.proofs.Reading.{whole_slice}
use Rattle.sd_unique.proofs.nodes.Nodes.list_places.Goals as goal

pub returns-then-not-is_empty-clause-nodes : goal.returns-then-not-is_empty-clause-nodes
returns-then-not-is_empty-clause-nodes c = subst IsNodes c.self.view_is (is_nodes c.self.invariant.0.stored)

pub list_all-requires-clause-empty : goal.list_all-requires-clause-empty
list_all-requires-clause-empty c =
    let heads = c.deref_mut-2.ensures.value
    ∙ all_heads c.self.inside.places.items _ c.self.inside.places.len 2049 _ (c.resize-2.ensures.succeeds
    (c.self.invariant.2.heads_fit))
    (sym c.is_empty.ensures ∙ c.if-not-is_empty.false) (omega arith) c.resize-2.ensures.items in
    λ b. subst (λ l. head_of l b ≡ no_record) (sym heads) (no_heads 2049 b)

pub invariant_of-self : goal.invariant_of-self
invariant_of-self c = (
  let heads = c.deref_mut-2.ensures.value
      ∙ all_heads c.self.inside.places.items _ c.self.inside.places.len 2049 _ (c.resize-2.ensures.succeeds
      (c.self.invariant.2.heads_fit))
      (sym c.is_empty.ensures ∙ c.if-not-is_empty.false) (omega arith) c.resize-2.ensures.items in
      let places = whole_slice c.list_all.new.places c.resize-2.new.self.items c.resize-2.new.self.len
      (c.list_all.auto.places ∙ c.deref_mut-2.ensures.len) in
      let links = whole_slice c.list_all.new.links c.resize.new.self.items c.resize.new.self.len
      (c.list_all.auto.links ∙ c.deref_mut.ensures.len) in
      kept_fields c.self.inside.runs c.self.inside.records.items c.list_all.new.links _ c.self.inside.heads.items
      c.list_all.new.places _ c.self.inside.candidates.0 links places
      (kept_listed c.self.inside.runs c.self.inside.records.items c.self.inside.links.items c.list_all.new.links
      c.self.inside.heads.items c.self.inside.places.items c.list_all.new.places c.self.inside.candidates.0
      (c.list_all.auto.places ∙ ap length heads ∙ length-replicate 2049 no_record)
      (subst (λ rs. AreInLists c.list_all.new.links c.list_all.new.places (list_under rs)) c.deref.ensures.value
      c.list_all.ensures)
      (c.list_all.auto.links ∙ c.deref_mut.ensures.len ∙ c.resize.ensures.len
      ∙ ap (λ b. if b then c.len.result else c.self.inside.links.len) (c.resize.ensures.succeeds (omega (
        arith,
        c.self.invariant.2.links_fit,
        c.len.ensures,
      )))
      ∙ c.len.ensures ∙ omega arith)
      c.self.invariant.0),
  c.self.invariant.1,
  record {
    links_fit = omega (arith, c.resize.ensures.capacity, c.self.invariant.2.links_fit);
    heads_fit = omega (arith, c.resize-2.ensures.capacity, c.self.invariant.2.heads_fit);
  },
)

pub returns-clause-nodes : goal.returns-clause-nodes
returns-clause-nodes c = is_nodes c.self.invariant.0.stored

use Rattle.std.proofs.Common.{◌≡◌, ◌++◌, length, take, drop, Some, sym, ap, subst, ◌∙◌, arith}
use Rattle.std.specs.FinMap.{get}
use Rattle.std.specs.Option.{IsSome}
use Rattle.sd_unique.specs.Record.{nodes_of}
use Rattle.sd_unique.proofs.Numbered.{is_nodes, detached_inside, detached_read}
use Rattle.sd_unique.proofs.Waiting.{kept_queued}
use Rattle.sd_unique.proofs.Standing.{detached_uses}
use Rattle.sd_unique.proofs.Whole.{kept_as, kept_whole}
use Rattle.sd_unique.specs.Chains.{AreHashed}
use Rattle.sd_unique.proofs.Reading.{whole_slice}
use Rattle.sd_unique.proofs.Hashes.{hashed_whole}
use Rattle.sd_unique.proofs.nodes.Nodes.relink.Goals as goal

pub index-requires : goal.index-requires
index-requires c =
    omega (
      arith,
      detached_inside c.self.inside.runs c.self.inside.records.items c.args.node
          (subst (λ a. IsSome (get a.detached c.args.node)) (sym c.self.view_is) c.requires.node),
    )

pub push_unused-requires : goal.push_unused-requires
push_unused-requires c = record {
  inside = omega (
    arith,
    c.self.invariant.0.flags_all,
    detached_inside c.self.inside.runs c.self.inside.records.items c.args.node
        (subst (λ a. IsSome (get a.detached c.args.node)) (sym c.self.view_is) c.requires.node),
  );
}

pub attach-requires-clause-absent : goal.attach-requires-clause-absent
attach-requires-clause-absent c = λ k e n f.
    c.requires.absent k
    (ap (λ a. get a.detached c.args.node) (sym c.self.view_is)
    ∙ ap (λ l. get (nodes_of c.self.inside.runs l).detached c.args.node) (sym c.deref_mut-2.ensures.value) ∙ e)
    n
    (ap (λ a. get a.linked n) (sym c.self.view_is)
    ∙ ap (λ l. get (nodes_of c.self.inside.runs l).linked n) (sym c.deref_mut-2.ensures.value) ∙ f)

pub attach-requires-clause-kept : goal.attach-requires-clause-kept
attach-requires-clause-kept c = (
  c.self.inside.chained,
  c.self.inside.candidates.0,
  kept_as c.self.inside.runs c.self.inside.records.items c.deref_mut-2.result.now c.self.inside.links.items
      c.deref_mut-3.result.now c.self.inside.heads.items c.deref_mut-4.result.now c.self.inside.places.items
      c.deref_mut-5.result.now c.self.inside.candidates.0 c.deref_mut-2.ensures.value c.deref_mut-3.ensures.value
      c.deref_mut-4.ensures.value c.deref_mut-5.ensures.value c.self.invariant.0,
)

pub invariant_of-self : goal.invariant_of-self
invariant_of-self c = (
  let node = subst (λ a. IsSome (get a.detached c.args.node)) (sym c.self.view_is) c.requires.node in
      let read = detached_read c.self.inside.runs c.self.inside.records.items c.args.node c.index.result.now
      c.index.ensures node in
      kept_whole c.self.inside.runs c.attach.new.records c.self.inside.records.items c.attach.new.links
      c.self.inside.links.items c.attach.new.heads c.self.inside.heads.items c.attach.new.places
      c.self.inside.places.items c.push_unused.new.self.0 _ _ _ _
      (c.attach.auto.records ∙ c.deref_mut-2.ensures.len) (c.attach.auto.links ∙ c.deref_mut-3.ensures.len)
      (c.attach.auto.heads ∙ c.deref_mut-4.ensures.len) (c.attach.auto.places ∙ c.deref_mut-5.ensures.len)
      (c.attach.ensures.kept c.self.inside.chained c.push_unused.new.self.0
      (λ e.
      let uses : Some c.index.result.now.uses ≡ Some 0 =
      sym (detached_uses c.self.inside.runs c.self.inside.records.items c.args.node c.index.result.now read.0 read.1)
      ∙ ap (λ l. get (nodes_of c.self.inside.runs l).uses c.args.node) (sym c.deref_mut-2.ensures.value) ∙ e in
      let none : c.index.result.now.uses ≡ 0 = cc in
      c.push_unused.ensures.here none)
      (kept_as c.self.inside.runs c.self.inside.records.items c.deref_mut-2.result.now c.self.inside.links.items
      c.deref_mut-3.result.now c.self.inside.heads.items c.deref_mut-4.result.now c.self.inside.places.items
      c.deref_mut-5.result.now c.push_unused.new.self.0 c.deref_mut-2.ensures.value c.deref_mut-3.ensures.value
      c.deref_mut-4.ensures.value c.deref_mut-5.ensures.value
      (kept_queued c.self.inside.runs c.self.inside.records.items c.self.inside.links.items c.self.inside.heads.items
      c.self.inside.places.items c.self.inside.candidates.0 c.push_unused.new.self.0 c.push_unused.ensures.size
      (λ n r e unused. c.push_unused.ensures.others n) c.self.invariant.0))),
  subst (λ h. AreHashed h (nodes_of c.self.inside.runs (take c.self.inside.records.len (c.attach.new.records
      ++ drop (length c.attach.new.records) c.self.inside.records.items)))) (sym (whole_slice c.attach.new.hashes
      c.self.inside.hashes.items c.self.inside.hashes.len
      (c.attach.auto.hashes ∙ c.deref_mut.ensures.len)))
      (hashed_whole c.self.inside.runs c.self.inside.runs c.attach.new.records c.self.inside.records.items
      c.deref_mut-2.result.now c.deref_mut.result.now c.attach.new.hashes _ c.deref_mut-2.ensures.value
      (c.attach.auto.records ∙ c.deref_mut-2.ensures.len) c.attach.ensures.hashed
      (subst (λ h. AreHashed h (nodes_of c.self.inside.runs c.self.inside.records.items))
      (sym c.deref_mut.ensures.value) c.self.invariant.1)),
  c.self.invariant.2,
)

pub returns-clause-nodes : goal.returns-clause-nodes
returns-clause-nodes c = is_nodes (invariant_of-self c).0.stored

pub attach-requires-clause-size : goal.attach-requires-clause-size
attach-requires-clause-size c =
    ap length c.deref_mut.ensures.value ∙ c.self.invariant.1.size ∙ sym (ap length c.deref_mut-2.ensures.value)

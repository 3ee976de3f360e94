use Rattle.std.proofs.Common.{sym, subst, ◌∙◌}
use Rattle.sd_unique.specs.Nodes.{IsNodes}
use Rattle.sd_unique.specs.Record.{nodes_of}
use Rattle.sd_unique.specs.Retiring.{none_retired, MayRetire}
use Rattle.sd_unique.proofs.Hashes.{hashed_whole}
use Rattle.sd_unique.proofs.Numbered.{is_nodes}
use Rattle.sd_unique.proofs.Whole.{kept_as, kept_in, kept_whole}
use Rattle.sd_unique.proofs.nodes.Nodes.retire_twos.Goals as goal

pub retire_twos-requires-clause-kept : goal.retire_twos-requires-clause-kept
retire_twos-requires-clause-kept c =
    let s = c.self.inside in
    kept_in (sym c.if-self.false)
    (kept_as s.runs s.records.items c.deref_mut.result.now s.links.items c.deref_mut-2.result.now s.heads.items
    c.deref_mut-3.result.now s.places.items c.deref_mut-4.result.now s.candidates.0 c.deref_mut.ensures.value
    c.deref_mut-2.ensures.value c.deref_mut-3.ensures.value c.deref_mut-4.ensures.value c.self.invariant.0)

pub retire_twos-requires-clause-may : goal.retire_twos-requires-clause-may
retire_twos-requires-clause-may c =
    subst (λ l. MayRetire c.args.first (nodes_of c.self.inside.runs l)) (sym c.deref_mut.ensures.value)
    (subst (MayRetire c.args.first) (sym c.self.view_is) c.requires.may)

pub returns-then-self-clause-retired : goal.returns-then-self-clause-retired
returns-then-self-clause-retired c = none_retired

pub returns-then-self-clause-nodes : goal.returns-then-self-clause-nodes
returns-then-self-clause-nodes c = subst IsNodes c.self.view_is (is_nodes c.self.invariant.0.stored)

pub invariant_of-self : goal.invariant_of-self
invariant_of-self c =
    let t = c.retire_twos in
    let s = c.self.inside in (
      kept_in c.if-self.false (kept_whole t.new.runs t.new.records s.records.items t.new.links s.links.items
          t.new.heads s.heads.items t.new.places s.places.items t.new.candidates.0 _ _ _ _
          (t.auto.records ∙ c.deref_mut.ensures.len) (t.auto.links ∙ c.deref_mut-2.ensures.len)
          (t.auto.heads ∙ c.deref_mut-3.ensures.len) (t.auto.places ∙ c.deref_mut-4.ensures.len) t.ensures.kept),
      hashed_whole s.runs t.new.runs t.new.records s.records.items c.deref_mut.result.now s.hashes.items s.hashes.items
          _ c.deref_mut.ensures.value (t.auto.records ∙ c.deref_mut.ensures.len) (t.ensures.hashed s.hashes.items)
          c.self.invariant.1,
      c.self.invariant.2,
    )

pub returns-clause-nodes : goal.returns-clause-nodes
returns-clause-nodes c = is_nodes (invariant_of-self c).0.stored

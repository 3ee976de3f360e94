use Rattle.std.proofs.Common.{◌<◌, ◌++◌, length, take, drop, ap, subst, ◌∙◌, arith}
use Rattle.sd_unique.specs.Chains.{KeepsRecords}
use Rattle.sd_unique.specs.Record.{nodes_of}
use Rattle.sd_unique.proofs.Ordering.{nodes_reordered, kept_reordered}
use Rattle.sd_unique.proofs.Rechained.{kept_rechained, kept_tables}
use Rattle.sd_unique.proofs.Relinked.{nodes_kept}
use Rattle.sd_unique.proofs.Reading.{whole_slice}
use Rattle.sd_unique.proofs.Hashes.{hashed_seen}
use Rattle.sd_unique.proofs.nodes.Nodes.rechain.Goals as goal

pub returns : goal.returns
returns c =
    let records = whole_slice c.chain_all.new.records c.self.inside.records.items c.self.inside.records.len
    (c.chain_all.auto.records ∙ c.deref_mut-2.ensures.len) in
    nodes_reordered c.self.inside.runs c.order_twos.new.self 2 c.order_twos.ensures.reordered
    c.self.invariant.0.stored.well c.order_twos.ensures.arena _
    ∙ ap (nodes_of c.self.inside.runs) records
    ∙ nodes_kept c.self.inside.records.items c.chain_all.new.records
    (subst (λ rs. KeepsRecords rs c.chain_all.new.records) c.deref_mut-2.ensures.value c.chain_all.ensures.kept)
    c.self.inside.runs
    ∙ c.self.view_is

pub invariant_of-self : goal.invariant_of-self
invariant_of-self c = (
  let records = whole_slice c.chain_all.new.records c.self.inside.records.items c.self.inside.records.len
      (c.chain_all.auto.records ∙ c.deref_mut-2.ensures.len) in
      let heads = whole_slice c.chain_all.new.heads (take c.self.inside.heads.len
      (c.empty_chains.new.heads ++ drop (length c.empty_chains.new.heads) c.self.inside.heads.items))
      c.self.inside.heads.len
      (c.chain_all.auto.heads ∙ c.deref_mut-3.ensures.len) in
      let some : 1 < length c.chain_all.new.heads = omega (
        arith,
        c.chain_all.auto.heads,
        c.deref_mut-3.ensures.len,
        c.deref_mut.ensures.len,
        ap length c.deref_mut.ensures.value,
        c.self.invariant.0.at_least_one,
      ) in
      kept_reordered c.self.inside.runs c.order_twos.new.self 2 c.order_twos.ensures.reordered
      c.self.invariant.0.stored.well c.order_twos.ensures.arena _ c.self.inside.links.items _
      c.self.inside.places.items c.self.inside.candidates.0
      (kept_tables c.self.inside.runs c.chain_all.new.records _ c.self.inside.links.items c.chain_all.new.heads _
      c.self.inside.places.items c.self.inside.candidates.0 records heads
      (kept_rechained c.self.inside.runs c.self.inside.records.items c.chain_all.new.records
      c.self.inside.links.items c.self.inside.heads.items c.chain_all.new.heads c.self.inside.places.items
      c.self.inside.candidates.0
      (subst (λ rs. KeepsRecords rs c.chain_all.new.records) c.deref_mut-2.ensures.value c.chain_all.ensures.kept)
      some c.chain_all.ensures.chained c.self.invariant.0)),
  hashed_seen c.self.inside.hashes.items _ c.args.self.now _ c.self.view_is (ap (λ a. a.linked) (returns c))
      (ap (λ a. a.records) (returns c)) c.self.invariant.1,
  c.self.invariant.2,
)

use Rattle.std.proofs.Common.{◌+◌, ◌*◌, ◌-◌, ◌<◌, length, ap, subst, ◌∙◌, arith}
use Rattle.std.proofs.lemmas.List.{length-replicate}
use Rattle.sd_unique.specs.Chains.{KeepsRecords, head_of, no_record}
use Rattle.sd_unique.specs.Record.{nodes_of}
use Rattle.sd_unique.proofs.Growing.{no_heads}
use Rattle.sd_unique.proofs.Rechained.{kept_rechained, kept_tables}
use Rattle.sd_unique.proofs.Relinked.{nodes_kept}
use Rattle.sd_unique.proofs.Reading.{whole_slice}
use Rattle.sd_unique.proofs.Hashes.{hashed_seen}
use Rattle.sd_unique.proofs.nodes.Nodes.double_buckets.Goals as goal

pub chain_all-requires-clause-empty : goal.chain_all-requires-clause-empty
chain_all-requires-clause-empty c = λ b.
    ap (λ hs. head_of hs b) (c.deref_mut-in-Ok.ensures.value ∙ c.in-Ok.ensures)
    ∙ no_heads (2 * (c.len-buckets.result - 1) + 1) b

pub returns-in-Ok : goal.returns-in-Ok
returns-in-Ok c =
    let records = whole_slice c.chain_all.new.records c.self.inside.records.items c.self.inside.records.len
    (c.chain_all.auto.records ∙ c.deref_mut.ensures.len) in
    ap (nodes_of c.self.inside.runs) records
    ∙ nodes_kept c.self.inside.records.items c.chain_all.new.records
    (subst (λ rs. KeepsRecords rs c.chain_all.new.records) c.deref_mut.ensures.value c.chain_all.ensures.kept)
    c.self.inside.runs
    ∙ c.self.view_is

pub invariant_of-self : goal.invariant_of-self
invariant_of-self c = (
  let records = whole_slice c.chain_all.new.records c.self.inside.records.items c.self.inside.records.len
      (c.chain_all.auto.records ∙ c.deref_mut.ensures.len) in
      let heads = whole_slice c.chain_all.new.heads c.in-Ok.heads.items c.in-Ok.heads.len
      (c.chain_all.auto.heads ∙ c.deref_mut-in-Ok.ensures.len) in
      let some : 1 < length c.chain_all.new.heads = omega (
        arith,
        c.chain_all.auto.heads,
        ap length c.deref_mut-in-Ok.ensures.value,
        ap length c.in-Ok.ensures,
        length-replicate (2 * (c.len-buckets.result - 1) + 1) no_record,
        c.self.invariant.0.at_least_one,
      ) in
      kept_tables c.self.inside.runs c.chain_all.new.records _ c.self.inside.links.items c.chain_all.new.heads _
      c.self.inside.places.items c.self.inside.candidates.0 records heads
      (kept_rechained c.self.inside.runs c.self.inside.records.items c.chain_all.new.records
      c.self.inside.links.items c.self.inside.heads.items c.chain_all.new.heads c.self.inside.places.items
      c.self.inside.candidates.0
      (subst (λ rs. KeepsRecords rs c.chain_all.new.records) c.deref_mut.ensures.value c.chain_all.ensures.kept)
      some c.chain_all.ensures.chained c.self.invariant.0),
  hashed_seen c.self.inside.hashes.items _ c.args.self.now _ c.self.view_is (ap (λ a. a.linked) (returns-in-Ok c))
      (ap (λ a. a.records) (returns-in-Ok c)) c.self.invariant.1,
  c.self.invariant.2,
)

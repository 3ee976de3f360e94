use Rattle.std.proofs.Common.{◌-◌, get_or, unwrap_or, refl, sym, ap, ◌∙◌, arith}
use Rattle.sd_unique.specs.declared.record.Record.{Record}
use Rattle.sd_unique.specs.declared.record.RecordState.TheVariants.{Free}
use Rattle.sd_unique.specs.Inserting.{with_uses}
use Rattle.sd_unique.specs.Record.{nodes_of}
use Rattle.sd_unique.proofs.Changed.{kept_record, nodes_used}
use Rattle.sd_unique.proofs.Numbered.{node_inside, read_node, uses_is}
use Rattle.sd_unique.proofs.Entries.{slice_get_at}
use Rattle.sd_unique.proofs.Reading.{get_or_any}
use Rattle.sd_unique.proofs.Waiting.{kept_queued}
use Rattle.sd_unique.proofs.sweeping.drop_code.Goals as goal

abbrev blank : Record
blank = record { place = 0; start = 0; length = 0; next = 0; uses = 0; mark = 0; state = Free }

pub bounds-records-node : goal.bounds-records-node
bounds-records-node c =
    node_inside c.args.runs.now c.args.records.now (c.args.code - c.args.first) (c.requires.used.node (omega arith))

pub overflow_sub-uses : goal.overflow_sub-uses
overflow_sub-uses c =
    let n = c.args.code - c.args.first in
    let node = c.requires.used.node (omega arith) in
    let inside = node_inside c.args.runs.now c.args.records.now n node in
    let r = get_or c.args.records.now n blank in
    let read = get_or_any c.args.records.now n blank r inside in
    let is = ap (λ o. unwrap_or o 0) (uses_is c.args.runs.now c.args.records.now n r read node) in
    omega (arith, c.requires.used.used (omega arith), is)

pub push_unused-requires : goal.push_unused-requires
push_unused-requires c = record {
  inside = omega (
    arith,
    c.requires.kept.3.flags_all,
    node_inside c.args.runs.now c.args.records.now (c.args.code - c.args.first) (c.requires.used.node (omega arith)),
  );
}

pub bounds-records-node-2 : goal.bounds-records-node-2
bounds-records-node-2 c =
    node_inside c.args.runs.now c.args.records.now (c.args.code - c.args.first) (c.requires.used.node (omega arith))

pub returns-clause-kept : goal.returns-clause-kept
returns-clause-kept c = λ links heads places k.
    let n = c.args.code - c.args.first in
    let node = c.requires.used.node (omega arith) in
    let inside = node_inside c.args.runs.now c.args.records.now n node in
    let r = get_or c.args.records.now n blank in
    let read = get_or_any c.args.records.now n blank r inside in
    kept_record c.args.runs.now c.args.records.now n r _ (slice_get_at c.args.records.now n blank inside) inside
    refl refl refl refl links heads places c.push_unused.new.self.0 refl read
    (λ linked none. c.push_unused.ensures.here none)
    (kept_queued c.args.runs.now c.args.records.now links heads places c.args.candidates.now.0
    c.push_unused.new.self.0 c.push_unused.ensures.size (λ m x e unused. c.push_unused.ensures.others m) k)

pub returns-clause-dropped : goal.returns-clause-dropped
returns-clause-dropped c = record {
  node = λ least.
      let n = c.args.code - c.args.first in
      let node = c.requires.used.node least in
      let inside = node_inside c.args.runs.now c.args.records.now n node in
      let r = get_or c.args.records.now n blank in
      let read = get_or_any c.args.records.now n blank r inside in
      let is = ap (λ o. unwrap_or o 0) (uses_is c.args.runs.now c.args.records.now n r read node) in
      nodes_used c.args.runs.now c.args.records.now n r _ (slice_get_at c.args.records.now n blank inside) inside
      refl refl refl refl (read_node c.args.runs.now c.args.records.now n r read node) refl
      ∙ ap (λ k. with_uses (nodes_of c.args.runs.now c.args.records.now) n (k - 1)) (sym is);
  none = λ low. absurd (omega (arith, low));
}

use Rattle.std.proofs.Common.{get_or, sym, ◌∙◌, arith}
use Rattle.std.proofs.lemmas.Bool.{false≢true}
use Rattle.std.proofs.lemmas.Slice.Eq.{slice_eq-Decides}
use Rattle.sd_unique.specs.declared.record.Record.{Record}
use Rattle.sd_unique.specs.declared.record.RecordState.TheVariants.{Free}
use Rattle.sd_unique.proofs.Entries.{slice_get_at}
use Rattle.sd_unique.proofs.Sought.{pair_decides, key_found, other_length, other_list, other_record, passed_on}
use Rattle.sd_unique.proofs.Sought.{passed_all}
use Rattle.sd_unique.proofs.listing.keyed_among.Goals.{else-is_at-via-then-is_at+then-record-list+else-eq}
use Rattle.sd_unique.proofs.listing.keyed_among.Goals.{else-is_at-via-then-is_at+else-record-list}
use Rattle.sd_unique.proofs.listing.keyed_among.Goals.{else-is_at-via-else-is_at}
use Rattle.sd_unique.proofs.listing.keyed_among.Goals as goal

abbrev blank : Record
blank = record { place = 0; start = 0; length = 0; next = 0; uses = 0; mark = 0; state = Free }

pub returns-then-eq-clause-some : goal.returns-then-eq-clause-some
returns-then-eq-clause-some c =
    key_found c.args.runs.now c.args.records.now (c.args.place, c.args.list.now) c.loop-number.number
    (get_or c.args.records.now c.loop-number.number blank)
    (slice_get_at c.args.records.now c.loop-number.number blank (omega arith)) c.if-is_at.ensures.linked
    c.get.result.now c.if-is_at.ensures.at c.get.ensures
    ((slice_eq-Decides pair_decides c.get.result.now c.args.list.now _ c.eq.ensures).0 c.if-eq.true)

pub loop-number-preserved : goal.loop-number-preserved
loop-number-preserved c =
    let there = slice_get_at c.args.records.now c.loop-number.number blank (omega arith) in
    passed_on c.args.runs.now c.args.records.now (c.args.place, c.args.list.now) c.loop-number.number
    c.loop-number.invariant
    (elim c.else-is_at.branch [
      | else-is_at-via-then-is_at+then-record-list+else-eq w ↦
          other_list c.args.runs.now c.args.records.now (c.args.place, c.args.list.now) c.loop-number.number
          (get_or c.args.records.now c.loop-number.number blank) there w.if-is_at.ensures.linked
          w.get.result.now w.get.ensures
          (λ same. false≢true (sym w.if-eq.false ∙
          (slice_eq-Decides pair_decides w.get.result.now c.args.list.now _ w.eq.ensures).1 same))
      | else-is_at-via-then-is_at+else-record-list w ↦
          other_length c.args.runs.now c.args.records.now (c.args.place, c.args.list.now) c.loop-number.number
          (get_or c.args.records.now c.loop-number.number blank) there w.if-is_at.ensures.linked
          c.requires.stored (λ same. w.if-record-list.false (same ∙ omega arith))
      | else-is_at-via-else-is_at w ↦
          other_record c.args.runs.now c.args.records.now c.args.place c.args.list.now c.loop-number.number
          (get_or c.args.records.now c.loop-number.number blank) there w.if-is_at.ensures
    ])

pub returns-clause-none : goal.returns-clause-none
returns-clause-none c = λ n.
    passed_all c.args.runs.now c.args.records.now (c.args.place, c.args.list.now) c.loop-number.number (omega arith)
    c.loop-number.invariant n

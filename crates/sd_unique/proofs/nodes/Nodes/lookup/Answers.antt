use Rattle.std.proofs.Common.{◌≡◌, ◌+◌, ◌-◌, suc, length, sym, ap, subst, ◌∙◌, arith}
use Rattle.std.proofs.lemmas.Bool.{false≢true}
use Rattle.std.proofs.lemmas.Slice.Eq.{slice_eq-Decides}
use Rattle.std.specs.FinMap.{get}
use Rattle.sd_unique.specs.Chains.{AreChained, bucket_of, head_of, no_record}
use Rattle.sd_unique.specs.Nodes.{IsNodes}
use Rattle.sd_unique.specs.Record.{IsNode}
use Rattle.sd_unique.specs.declared.record.Record.{Record}
use Rattle.sd_unique.specs.declared.record.RecordState.TheVariants.{Free}
use Rattle.sd_unique.proofs.Listed.{link_read}
use Rattle.sd_unique.proofs.Numbered.{is_nodes}
use Rattle.sd_unique.proofs.Sought.{pair_decides, sought_first, sought_end, sought_out, sought_inside}
use Rattle.sd_unique.proofs.Sought.{sought_read, sought_on, key_found, other_place, other_length, other_list}
use Rattle.sd_unique.proofs.Reading.{get_or_any}
use Rattle.sd_unique.proofs.nodes.Nodes.lookup.Goals.{else-record-place-via-then-record-place+then-record-list+else-eq}
use Rattle.sd_unique.proofs.nodes.Nodes.lookup.Goals.{else-record-place-via-then-record-place+else-record-list}
use Rattle.sd_unique.proofs.nodes.Nodes.lookup.Goals.{else-record-place-via-else-record-place}
use Rattle.sd_unique.proofs.nodes.Nodes.lookup.Goals as goal

abbrev blank : Record
blank = record { place = 0; start = 0; length = 0; next = 0; uses = 0; mark = 0; state = Free }

pub loop-step-init : goal.loop-step-init
loop-step-init c =
    let heads = c.self.inside.heads.items in
    let count : length heads - 1 ≡ c.len.result - 1 = omega arith in
    let at : suc (bucket_of (c.args.place, c.args.list.now) (length heads - 1)) ≡ c.bucket_at.result + 1 =
    ap (λ k. suc (bucket_of (c.args.place, c.args.list.now) k)) count
    ∙ ap suc (sym (c.bucket_at.ensures.is (c.args.place, c.args.list.now) c.requires.hash)) ∙ omega arith in
    sought_first c.self.inside.runs c.self.inside.records.items heads (c.args.place, c.args.list.now)
    (length heads - 1) c.index-number.result.now
    (subst (λ b. AreChained b c.self.inside.runs c.self.inside.records.items heads) c.if-not-self.false
    c.self.invariant.0.in_chains)
    (c.index-number.ensures
    ∙ get_or_any heads (c.bucket_at.result + 1) c.index-number.result.now no_record
    (omega (arith, c.bucket_at.ensures.inside))
    ∙ ap (head_of heads) (sym at))

pub returns-then-number-clause-none : goal.returns-then-number-clause-none
returns-then-number-clause-none c = λ n e.
    sought_end c.self.inside.runs c.self.inside.records.items c.self.inside.heads.items
    (c.args.place, c.args.list.now) c.loop-step.number c.loop-step._step n c.loop-step.invariant.0
    c.loop-step.invariant.1 c.if-number.true (ap (λ a. get a.linked n) c.self.view_is ∙ e)

pub returns-then-number-clause-nodes : goal.returns-then-number-clause-nodes
returns-then-number-clause-nodes c = subst IsNodes c.self.view_is (is_nodes c.self.invariant.0.stored)

pub returns-then-not-self-clause-nodes : goal.returns-then-not-self-clause-nodes
returns-then-not-self-clause-nodes c = subst IsNodes c.self.view_is (is_nodes c.self.invariant.0.stored)

pub index-record-requires : goal.index-record-requires
index-record-requires c =
    omega (
      arith,
      sought_inside c.self.inside.runs c.self.inside.records.items c.self.inside.heads.items
          (c.args.place, c.args.list.now) c.loop-step.number c.loop-step._step c.loop-step.invariant.0
          c.loop-step.invariant.1 c.if-number.false,
    )

pub get-requires : goal.get-requires
get-requires c =
    let read = sought_read c.self.inside.runs c.self.inside.records.items c.self.inside.heads.items
    (c.args.place, c.args.list.now) c.loop-step.number c.loop-step._step c.loop-step.invariant.0
    c.loop-step.invariant.1 c.if-number.false c.index-record.result.now c.index-record.ensures in
    c.self.invariant.0.stored.live c.loop-step.number c.index-record.result.now read.0
    (subst IsNode (sym read.1) tt)

pub returns-then-eq-clause-some : goal.returns-then-eq-clause-some
returns-then-eq-clause-some c =
    let read = sought_read c.self.inside.runs c.self.inside.records.items c.self.inside.heads.items
    (c.args.place, c.args.list.now) c.loop-step.number c.loop-step._step c.loop-step.invariant.0
    c.loop-step.invariant.1 c.if-number.false c.index-record.result.now c.index-record.ensures in
    ap (λ a. get a.linked c.loop-step.number) (sym c.self.view_is)
    ∙ key_found c.self.inside.runs c.self.inside.records.items (c.args.place, c.args.list.now) c.loop-step.number
    c.index-record.result.now read.0 read.1 c.get.result.now c.if-record-place.true c.get.ensures
    ((slice_eq-Decides pair_decides c.get.result.now c.args.list.now _ c.eq.ensures).0 c.if-eq.true)

pub returns-then-eq-clause-nodes : goal.returns-then-eq-clause-nodes
returns-then-eq-clause-nodes c = subst IsNodes c.self.view_is (is_nodes c.self.invariant.0.stored)

pub loop-step-preserved : goal.loop-step-preserved
loop-step-preserved c =
    let inside = sought_inside c.self.inside.runs c.self.inside.records.items c.self.inside.heads.items
    (c.args.place, c.args.list.now) c.loop-step.number c.loop-step._step c.loop-step.invariant.0
    c.loop-step.invariant.1 c.if-number.false in
    let read = sought_read c.self.inside.runs c.self.inside.records.items c.self.inside.heads.items
    (c.args.place, c.args.list.now) c.loop-step.number c.loop-step._step c.loop-step.invariant.0
    c.loop-step.invariant.1 c.if-number.false c.index-record.result.now c.index-record.ensures in
    sought_on c.self.inside.runs c.self.inside.records.items c.self.inside.heads.items
    (c.args.place, c.args.list.now) c.loop-step.number c.loop-step._step c.loop-step.invariant.0
    c.loop-step.invariant.1 c.if-number.false c.index-record.result.now c.index-record.ensures
    (elim c.else-record-place.branch [
      | else-record-place-via-then-record-place+then-record-list+else-eq w ↦
          other_list c.self.inside.runs c.self.inside.records.items (c.args.place, c.args.list.now) c.loop-step.number
          c.index-record.result.now read.0 read.1
          w.get.result.now w.get.ensures
          (λ same. false≢true (sym w.if-eq.false ∙
          (slice_eq-Decides pair_decides w.get.result.now c.args.list.now _ w.eq.ensures).1 same))
      | else-record-place-via-then-record-place+else-record-list w ↦
          other_length c.self.inside.runs c.self.inside.records.items (c.args.place, c.args.list.now) c.loop-step.number
          c.index-record.result.now read.0 read.1
          c.self.invariant.0.stored (λ same. w.if-record-list.false (same ∙ omega arith))
      | else-record-place-via-else-record-place w ↦
          other_place c.self.inside.runs c.self.inside.records.items (c.args.place, c.args.list.now) c.loop-step.number
          c.index-record.result.now read.0 read.1 w.if-record-place.false
    ])
    c.index-record.result.now.next
    (ap (λ (r : Record). r.next) c.index-record.ensures
    ∙ sym (link_read (λ (r : Record). r.next) c.self.inside.records.items c.loop-step.number
    c.index-record.result.now inside))

pub returns-clause-none : goal.returns-clause-none
returns-clause-none c = λ n e.
    sought_out c.self.inside.runs c.self.inside.records.items c.self.inside.heads.items
    (c.args.place, c.args.list.now) c.loop-step.number c.loop-step._step n c.loop-step.invariant.0
    c.loop-step.invariant.1 (omega arith) (ap (λ a. get a.linked n) c.self.view_is ∙ e)

pub returns-clause-nodes : goal.returns-clause-nodes
returns-clause-nodes c = subst IsNodes c.self.view_is (is_nodes c.self.invariant.0.stored)

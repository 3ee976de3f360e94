use Rattle.std.proofs.Common.{length, refl, sym, ap, subst, ◌∙◌}
use Rattle.std.proofs.lemmas.List.{nil_from_length}
use Rattle.sd_unique.specs.Inserting.{IsFull, IsRefusal}
use Rattle.sd_unique.specs.Record.{AreRecordsStored}
use Rattle.sd_unique.proofs.Appended.{all_named}
use Rattle.sd_unique.proofs.Counts.{count_is}
use Rattle.sd_unique.proofs.Numbered.{is_nodes}
use Rattle.sd_unique.proofs.Pushed.{free_kept, free_run, free_number, free_new, free_inserted}
use Rattle.sd_unique.proofs.Taken.{nodes_taken, refusal_is, refused_by}
use Rattle.sd_unique.proofs.Hashes.{hashed_same}
use Rattle.sd_unique.proofs.nodes.Nodes.add.Goals as goal

pub add_record-requires-clause-all : goal.add_record-requires-clause-all
add_record-requires-clause-all c = λ m below.
    all_named c.self.inside.runs c.self.inside.records.items c.self.inside.links.items c.self.inside.heads.items
    c.self.inside.places.items c.self.inside.candidates.0 c.self.invariant.0 c.args.self.now c.self.view_is
    c.index.result.now c.index.ensures c.if-index.true m below

pub returns-in_err-start-clause-nodes : goal.returns-in_err-start-clause-nodes
returns-in_err-start-clause-nodes c =
    is_nodes ((subst (λ a. AreRecordsStored a c.self.inside.records.items) (sym c.in_err-start.ensures.err)
    c.self.invariant.0.stored))

pub returns-in_err-start-clause-full : goal.returns-in_err-start-clause-full
returns-in_err-start-clause-full c =
    let refused = subst (λ a. IsRefusal a (length c.args.list.now) c.in_err-start.field-0.0) c.self.view_is
    (refusal_is c.self.inside.runs c.self.inside.records.items
    (length c.args.list.now) c.in_err-start.field-0.0 c.in_err-start.ensures.full) in
    refused_by c.from_residual.result c.in_err-start.field-0.0
    (λ e. IsRefusal c.args.self.now (length c.args.list.now) e) c.from_residual.ensures.1 refused

pub invariant_of-self-2 : goal.invariant_of-self-2
invariant_of-self-2 c = (
  free_kept c.self.inside.runs c.take.new.self c.self.inside.records.items c.self.inside.links.items
      c.self.inside.heads.items
      c.self.inside.places.items c.self.inside.candidates.0 c.self.invariant.0 c.take.ensures.arena c.args.list.now
      c.in_ok-start.start c.in_ok-start.ensures.ok c.in_ok-start.ensures.start c.in_ok-start.ensures.fresh
      c.in_ok-start.ensures.kept c.args.self.now c.self.view_is c.self.inside.records.items c.self.inside.links.items
      refl refl,
  let is = nodes_taken c.self.inside.runs c.take.new.self c.self.inside.records.items c.self.invariant.0.stored
      c.take.ensures.arena c.args.list.now c.in_ok-start.start c.in_ok-start.ensures.ok c.in_ok-start.ensures.start
      c.in_ok-start.ensures.fresh c.in_ok-start.ensures.kept in
      hashed_same c.self.inside.hashes.items _ _ (ap (λ a. a.linked) is) (ap (λ a. a.records) is) c.self.invariant.1,
  c.self.invariant.2,
)

pub occupy-requires-clause-run : goal.occupy-requires-clause-run
occupy-requires-clause-run c =
    free_run c.self.inside.runs c.take.new.self c.self.inside.records.items c.self.inside.links.items
    c.self.inside.heads.items
    c.self.inside.places.items c.self.inside.candidates.0 c.self.invariant.0 c.take.ensures.arena c.args.list.now
    c.in_ok-start.start c.in_ok-start.ensures.ok c.in_ok-start.ensures.start c.in_ok-start.ensures.fresh
    c.in_ok-start.ensures.kept c.args.self.now c.self.view_is c.self.inside.records.items c.self.inside.links.items
    refl refl
    c.args.hash c.args.place c.requires.hash c.requires.absent

pub occupy-requires-clause-free : goal.occupy-requires-clause-free
occupy-requires-clause-free c =
    free_number c.self.inside.runs c.take.new.self c.self.inside.records.items c.self.inside.links.items
    c.self.inside.heads.items
    c.self.inside.places.items c.self.inside.candidates.0 c.self.invariant.0 c.take.ensures.arena c.args.list.now
    c.in_ok-start.start c.in_ok-start.ensures.ok c.in_ok-start.ensures.start c.in_ok-start.ensures.fresh
    c.in_ok-start.ensures.kept c.args.self.now c.self.view_is c.self.inside.records.items c.self.inside.links.items
    refl refl
    c.index.result.now c.index.ensures c.if-index.false

pub returns-clause-number : goal.returns-clause-number
returns-clause-number c =
    free_new c.self.inside.runs c.take.new.self c.self.inside.records.items c.self.inside.links.items
    c.self.inside.heads.items
    c.self.inside.places.items c.self.inside.candidates.0 c.self.invariant.0 c.take.ensures.arena c.args.list.now
    c.in_ok-start.start c.in_ok-start.ensures.ok c.in_ok-start.ensures.start c.in_ok-start.ensures.fresh
    c.in_ok-start.ensures.kept c.args.self.now c.self.view_is c.self.inside.records.items c.self.inside.links.items
    refl refl
    c.occupy.result c.occupy.ensures.number

pub returns-clause-ok : goal.returns-clause-ok
returns-clause-ok c =
    free_inserted c.self.inside.runs c.take.new.self c.self.inside.records.items c.self.inside.links.items
    c.self.inside.heads.items
    c.self.inside.places.items c.self.inside.candidates.0 c.self.invariant.0 c.take.ensures.arena c.args.list.now
    c.in_ok-start.start c.in_ok-start.ensures.ok c.in_ok-start.ensures.start c.in_ok-start.ensures.fresh
    c.in_ok-start.ensures.kept c.args.self.now c.self.view_is c.self.inside.records.items c.self.inside.links.items
    refl refl
    c.occupy.result c.args.place c.occupy.new.self c.occupy.ensures.number c.occupy.ensures.ok

pub returns-clause-room : goal.returns-clause-room
returns-clause-room c =
    subst (λ a. IsFull a (length c.args.list.now) → ⊥) c.self.view_is
    (λ full. c.in_ok-start.ensures.room (
      nil_from_length _ (sym (count_is c.self.inside.runs c.self.inside.records.items (length c.args.list.now))
          ∙ full.0),
      full.1,
    ))

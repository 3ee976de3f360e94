use Rattle.std.proofs.Common.{◌<◌, length, get_or, refl, ap, ◌∙◌, arith}
use Rattle.sd_unique.specs.declared.record.Record.{Record}
use Rattle.sd_unique.specs.declared.record.RecordState.TheVariants.{Free}
use Rattle.sd_unique.specs.Chains.{list_under}
use Rattle.sd_unique.specs.Filed.{unfiled}
use Rattle.sd_unique.proofs.Both.{unfiled_here}
use Rattle.sd_unique.proofs.Detaching.{detached_kept, nodes_detached}
use Rattle.sd_unique.proofs.Standing.{list_inside, linked_here, linked_key_is, linked_place}
use Rattle.sd_unique.proofs.Standing.{is_record, unfiled_inside}
use Rattle.sd_unique.proofs.Entries.{slice_get_at}
use Rattle.sd_unique.proofs.Hashes.{hashed_without}
use Rattle.sd_unique.proofs.Numbered.{linked_inside}
use Rattle.sd_unique.specs.Record.{key_of, nodes_of}
use Rattle.sd_unique.proofs.states.detach.Goals as goal

abbrev blank : Record
blank = record { place = 0; start = 0; length = 0; next = 0; uses = 0; mark = 0; state = Free }

pub bounds-records-number : goal.bounds-records-number
bounds-records-number c = linked_inside c.args.runs.now c.args.records.now c.args.number c.requires.linked

pub take_out-requires-clause-inside : goal.take_out-requires-clause-inside
take_out-requires-clause-inside c = λ some.
    omega (
      arith,
      c.requires.kept.1.linked_all some,
      linked_inside c.args.runs.now c.args.records.now c.args.number c.requires.linked,
    )

pub take_out-requires-clause-listed : goal.take_out-requires-clause-listed
take_out-requires-clause-listed c = (
  list_under c.args.records.now,
  linked_place c.args.runs.now c.args.records.now c.args.number blank c.requires.linked,
  (λ some i b e. omega (arith, c.requires.kept.1.linked_all some, list_inside c.args.records.now i b e)),
  c.requires.kept.1.in_lists,
)

pub put_first-requires-clause-inside : goal.put_first-requires-clause-inside
put_first-requires-clause-inside c = λ some.
    omega (
      arith,
      c.take_out.auto.links,
      c.requires.kept.1.linked_all (omega (arith, some, c.take_out.auto.places)),
      linked_inside c.args.runs.now c.args.records.now c.args.number c.requires.linked,
    )

pub put_first-requires-clause-at_least_one : goal.put_first-requires-clause-at_least_one
put_first-requires-clause-at_least_one c =
    is_record c.args.number c.requires.kept.1.stored
    (linked_inside c.args.runs.now c.args.records.now c.args.number c.requires.linked)

pub put_first-requires-clause-listed : goal.put_first-requires-clause-listed
put_first-requires-clause-listed c = (
  unfiled c.args.number (list_under c.args.records.now),
  unfiled_here c.args.number (list_under c.args.records.now) c.args.number refl,
  λ some. unfiled_inside (list_under c.args.records.now) c.args.number (length c.take_out.new.links)
      (λ i b e. omega (
        arith,
        c.take_out.auto.links,
        c.requires.kept.1.linked_all (omega (arith, some, c.take_out.auto.places)),
        list_inside c.args.records.now i b e,
      )),
  c.take_out.ensures (list_under c.args.records.now)
      (linked_place c.args.runs.now c.args.records.now c.args.number blank c.requires.linked)
      c.requires.kept.1.in_lists,
)

pub bounds-records-number-2 : goal.bounds-records-number-2
bounds-records-number-2 c =
    omega (
      arith,
      c.leave_bucket.ensures.kept.size,
      linked_inside c.args.runs.now c.args.records.now c.args.number c.requires.linked,
    )

pub returns-clause-kept : goal.returns-clause-kept
returns-clause-kept c = λ flags k.
    let inside : c.args.number < length c.leave_bucket.new.records = omega (
      arith,
      c.leave_bucket.ensures.kept.size,
      linked_inside c.args.runs.now c.args.records.now c.args.number c.requires.linked,
    ) in
    detached_kept c.args.runs.now c.args.records.now c.leave_bucket.new.records c.args.number
    (get_or c.leave_bucket.new.records c.args.number blank) _ c.leave_bucket.ensures.kept
    (slice_get_at c.leave_bucket.new.records c.args.number blank inside) refl refl refl refl refl refl c.args.links.now
    c.put_first.new.links c.args.heads.now c.leave_bucket.new.heads c.args.places.now c.put_first.new.places flags
    c.requires.linked refl c.leave_bucket.auto.heads (c.put_first.auto.places ∙ c.take_out.auto.places)
    (c.put_first.auto.links ∙ c.take_out.auto.links)
    c.leave_bucket.ensures.left
    (c.put_first.ensures (unfiled c.args.number (list_under c.args.records.now))
    (unfiled_here c.args.number (list_under c.args.records.now) c.args.number refl)
    (c.take_out.ensures (list_under c.args.records.now)
    (linked_place c.args.runs.now c.args.records.now c.args.number blank c.requires.linked) k.in_lists))
    k

pub returns-clause-nodes : goal.returns-clause-nodes
returns-clause-nodes c = λ k e.
    let inside : c.args.number < length c.leave_bucket.new.records = omega (
      arith,
      c.leave_bucket.ensures.kept.size,
      linked_inside c.args.runs.now c.args.records.now c.args.number c.requires.linked,
    ) in
    nodes_detached c.args.runs.now c.args.records.now c.leave_bucket.new.records c.args.number
    (get_or c.leave_bucket.new.records c.args.number blank) _ c.leave_bucket.ensures.kept
    (slice_get_at c.leave_bucket.new.records c.args.number blank inside) refl refl refl refl refl refl k e

pub returns-clause-hashed : goal.returns-clause-hashed
returns-clause-hashed c = λ hashes.
    let r = get_or c.args.records.now c.args.number blank in
    let read = linked_here c.args.runs.now c.args.records.now c.args.number blank c.requires.linked in
    let is = returns-clause-nodes c (key_of c.args.runs.now r)
    (linked_key_is c.args.runs.now c.args.records.now c.args.number r read.0 read.1) in
    hashed_without hashes (nodes_of c.args.runs.now c.args.records.now) _ c.args.number (ap (λ a. a.linked) is)
    (ap (λ a. a.records) is)

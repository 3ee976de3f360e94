use Rattle.std.proofs.Common.{◌+◌, ◌<◌, ◌-◌, [], length, get_or, unwrap_or, Some, refl, sym, ap, ◌∙◌, arith}
use Rattle.sd_unique.specs.declared.record.Record.{Record}
use Rattle.sd_unique.specs.declared.record.RecordState.TheVariants.{Free}
use Rattle.sd_unique.specs.Chains.{hash_of, list_under, no_record}
use Rattle.sd_unique.specs.Filed.{unfiled}
use Rattle.sd_unique.specs.Record.{key_of, nodes_of}
use Rattle.sd_unique.proofs.Attaching.{bucket_at, attached_kept, nodes_attached}
use Rattle.sd_unique.proofs.Both.{unfiled_here}
use Rattle.sd_unique.proofs.Detached.{detached_node}
use Rattle.sd_unique.proofs.Hashes.{hashed_put}
use Rattle.sd_unique.proofs.Numbered.{detached_inside, is_nodes}
use Rattle.sd_unique.proofs.Reading.{get_or_any}
use Rattle.sd_unique.proofs.Standing.{list_inside, detached_here, detached_list, detached_key_is, detached_uses}
use Rattle.sd_unique.proofs.Standing.{is_record, unfiled_inside}
use Rattle.sd_unique.proofs.states.attach.Goals as goal

abbrev blank : Record
blank = record { place = 0; start = 0; length = 0; next = 0; uses = 0; mark = 0; state = Free }

pub slice_copy_out-record : goal.slice_copy_out-record
slice_copy_out-record c = detached_inside c.args.runs.now c.args.records.now c.args.number c.requires.detached

pub get-list-requires : goal.get-list-requires
get-list-requires c =
    let read = detached_here c.args.runs.now c.args.records.now c.args.number blank c.requires.detached in
    c.requires.kept.2.stored.live c.args.number (get_or c.args.records.now c.args.number blank) read.0
    (detached_node (get_or c.args.records.now c.args.number blank).state read.1)

pub take_out-requires-clause-inside : goal.take_out-requires-clause-inside
take_out-requires-clause-inside c = λ some.
    omega (
      arith,
      c.requires.kept.2.linked_all some,
      detached_inside c.args.runs.now c.args.records.now c.args.number c.requires.detached,
    )

pub take_out-requires-clause-listed : goal.take_out-requires-clause-listed
take_out-requires-clause-listed c =
    let read = detached_here c.args.runs.now c.args.records.now c.args.number blank c.requires.detached in (
      list_under c.args.records.now,
      detached_list c.args.runs.now c.args.records.now c.args.number (get_or c.args.records.now c.args.number blank)
          read.0 read.1,
      (λ some i b e. omega (arith, c.requires.kept.2.linked_all some, list_inside c.args.records.now i b e)),
      c.requires.kept.2.in_lists,
    )

pub put_first-requires-clause-inside : goal.put_first-requires-clause-inside
put_first-requires-clause-inside c = λ some.
    omega (
      arith,
      c.take_out.auto.links,
      c.requires.kept.2.linked_all (omega (arith, some, c.take_out.auto.places)),
      detached_inside c.args.runs.now c.args.records.now c.args.number c.requires.detached,
    )

pub put_first-requires-clause-at_least_one : goal.put_first-requires-clause-at_least_one
put_first-requires-clause-at_least_one c =
    is_record c.args.number c.requires.kept.2.stored
    (detached_inside c.args.runs.now c.args.records.now c.args.number c.requires.detached)

pub put_first-requires-clause-listed : goal.put_first-requires-clause-listed
put_first-requires-clause-listed c =
    let read = detached_here c.args.runs.now c.args.records.now c.args.number blank c.requires.detached in (
      unfiled c.args.number (list_under c.args.records.now),
      unfiled_here c.args.number (list_under c.args.records.now) c.args.number refl,
      λ some. unfiled_inside (list_under c.args.records.now) c.args.number (length c.take_out.new.links)
          (λ i b e. omega (
            arith,
            c.take_out.auto.links,
            c.requires.kept.2.linked_all (omega (arith, some, c.take_out.auto.places)),
            list_inside c.args.records.now i b e,
          )),
      c.take_out.ensures (list_under c.args.records.now)
          (detached_list c.args.runs.now c.args.records.now c.args.number
          (get_or c.args.records.now c.args.number blank) read.0 read.1)
          c.requires.kept.2.in_lists,
    )

pub bounds-records-number : goal.bounds-records-number
bounds-records-number c = detached_inside c.args.runs.now c.args.records.now c.args.number c.requires.detached

pub returns-clause-kept : goal.returns-clause-kept
returns-clause-kept c = λ chained flags queued k.
    let read = detached_here c.args.runs.now c.args.records.now c.args.number blank c.requires.detached in
    let inside : c.bucket_at-head.result + 1 < length c.args.heads.now = omega (
      arith,
      c.bucket_at-head.ensures.inside,
      c.requires.kept.2.at_least_one,
    ) in
    attached_kept c.args.runs.now c.args.records.now c.args.number (get_or c.args.records.now c.args.number blank) _
    read.0 refl refl refl refl refl read.1 refl c.args.links.now c.put_first.new.links c.args.heads.now
    c.args.places.now c.put_first.new.places flags c.bucket_at-head.result
    (bucket_at c.args.runs.now (get_or c.args.records.now c.args.number blank) c.get-list.result.now
    (length c.args.heads.now - 1) c.bucket_at-head.result c.get-list.ensures (c.bucket_at-head.ensures.is (
      (get_or c.args.records.now c.args.number blank).place,
      c.get-list.result.now,
    ) c.hash-hash.ensures))
    inside (get_or_any c.args.heads.now (c.bucket_at-head.result + 1) 0 no_record inside)
    (c.put_first.auto.places ∙ c.take_out.auto.places)
    (c.put_first.auto.links ∙ c.take_out.auto.links)
    (c.put_first.ensures (unfiled c.args.number (list_under c.args.records.now))
    (unfiled_here c.args.number (list_under c.args.records.now) c.args.number refl)
    (c.take_out.ensures (list_under c.args.records.now)
    (detached_list c.args.runs.now c.args.records.now c.args.number (get_or c.args.records.now c.args.number blank)
    read.0 read.1)
    k.in_lists))
    (c.requires.absent (key_of c.args.runs.now (get_or c.args.records.now c.args.number blank))
    (detached_key_is c.args.runs.now c.args.records.now c.args.number
    (get_or c.args.records.now c.args.number blank) read.0 read.1))
    (λ none. queued (detached_uses c.args.runs.now c.args.records.now c.args.number
    (get_or c.args.records.now c.args.number blank) read.0 read.1 ∙ ap Some none))
    k

pub returns-clause-nodes : goal.returns-clause-nodes
returns-clause-nodes c = λ k e.
    let read = detached_here c.args.runs.now c.args.records.now c.args.number blank c.requires.detached in
    nodes_attached c.args.runs.now c.args.records.now c.args.number (get_or c.args.records.now c.args.number blank) _
    read.0 refl refl refl refl refl read.1 refl k e

pub bounds-hashes-number : goal.bounds-hashes-number
bounds-hashes-number c =
    omega (
      arith,
      c.requires.size,
      detached_inside c.args.runs.now c.args.records.now c.args.number c.requires.detached,
    )

pub returns-clause-hashed : goal.returns-clause-hashed
returns-clause-hashed c =
    let r = get_or c.args.records.now c.args.number blank in
    let read = detached_here c.args.runs.now c.args.records.now c.args.number blank c.requires.detached in
    let is = returns-clause-nodes c (key_of c.args.runs.now r)
    (detached_key_is c.args.runs.now c.args.records.now c.args.number r read.0 read.1) in
    hashed_put c.args.hashes.now (nodes_of c.args.runs.now c.args.records.now) _ c.args.number c.hash-hash.result
    (key_of c.args.runs.now r)
    (omega (
      arith,
      c.requires.size,
      detached_inside c.args.runs.now c.args.records.now c.args.number c.requires.detached,
    ))
    (c.hash-hash.ensures ∙ ap (λ o. hash_of (r.place, unwrap_or o [])) (sym c.get-list.ensures))
    (ap (λ a. a.linked) is) (ap (λ a. a.records) is) (is_nodes c.requires.kept.2.stored)

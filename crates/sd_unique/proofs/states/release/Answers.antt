use Rattle.std.proofs.Common.{length, get_or, refl, ap, arith}
use Rattle.std.specs.FinMap.{get}
use Rattle.sd_unique.specs.declared.record.Record.{Record}
use Rattle.sd_unique.specs.declared.record.RecordState.TheVariants.{Free}
use Rattle.sd_unique.specs.Chains.{list_under, no_record}
use Rattle.sd_unique.proofs.Detached.{detached_node}
use Rattle.sd_unique.proofs.Entries.{option_map_some}
use Rattle.sd_unique.proofs.Freeing.{released_kept, nodes_released}
use Rattle.sd_unique.proofs.Hashes.{hashed_same}
use Rattle.sd_unique.proofs.Numbered.{detached_inside}
use Rattle.sd_unique.proofs.Reading.{get_or_any}
use Rattle.sd_unique.proofs.Standing.{list_inside, detached_here, detached_key_is, detached_list}
use Rattle.sd_unique.specs.Record.{key_of, nodes_of}
use Rattle.sd_unique.proofs.states.release.Goals as goal

abbrev blank : Record
blank = record { place = 0; start = 0; length = 0; next = 0; uses = 0; mark = 0; state = Free }

pub take_out-requires-clause-inside : goal.take_out-requires-clause-inside
take_out-requires-clause-inside c = λ some.
    omega (
      arith,
      c.requires.kept.2.linked_all some,
      detached_inside c.args.runs.now c.args.records.now c.args.number c.requires.detached,
    )

pub take_out-requires-clause-listed : goal.take_out-requires-clause-listed
take_out-requires-clause-listed c =
    let read = detached_here c.args.runs.now c.args.records.now c.args.number blank c.requires.detached in (
      list_under c.args.records.now,
      detached_list c.args.runs.now c.args.records.now c.args.number (get_or c.args.records.now c.args.number blank)
          read.0 read.1,
      (λ some i b e. omega (arith, c.requires.kept.2.linked_all some, list_inside c.args.records.now i b e)),
      c.requires.kept.2.in_lists,
    )

pub slice_copy_out-record : goal.slice_copy_out-record
slice_copy_out-record c = detached_inside c.args.runs.now c.args.records.now c.args.number c.requires.detached

pub bounds-records-number : goal.bounds-records-number
bounds-records-number c = detached_inside c.args.runs.now c.args.records.now c.args.number c.requires.detached

pub give-requires : goal.give-requires
give-requires c =
    let read = detached_here c.args.runs.now c.args.records.now c.args.number blank c.requires.detached in
    c.requires.kept.2.stored.live c.args.number (get_or c.args.records.now c.args.number blank) read.0
    (detached_node (get_or c.args.records.now c.args.number blank).state read.1)

pub returns-clause-kept : goal.returns-clause-kept
returns-clause-kept c = λ chained flags k.
    let read = detached_here c.args.runs.now c.args.records.now c.args.number blank c.requires.detached in
    let had = option_map_some length
    (get c.args.runs.now.live (get_or c.args.records.now c.args.number blank).start)
    (get_or c.args.records.now c.args.number blank).length
    (k.stored.live c.args.number (get_or c.args.records.now c.args.number blank) read.0
    (detached_node (get_or c.args.records.now c.args.number blank).state read.1)) in
    released_kept c.args.runs.now c.args.records.now c.args.number
    (get_or c.args.records.now c.args.number blank) _ read.0 read.1 refl c.give.new.self k.stored
    c.give.ensures.arena c.give.ensures.given_back had.0 had.1 had.2 c.args.links.now c.take_out.new.links
    c.args.heads.now c.args.places.now c.take_out.new.places flags
    (get_or_any c.args.heads.now 0 0 no_record (omega (arith, k.at_least_one))) c.take_out.auto.places
    c.take_out.auto.links
    (c.take_out.ensures (list_under c.args.records.now)
    (detached_list c.args.runs.now c.args.records.now c.args.number (get_or c.args.records.now c.args.number blank)
    read.0 read.1)
    k.in_lists)
    k

pub returns-clause-nodes : goal.returns-clause-nodes
returns-clause-nodes c = λ k e.
    let read = detached_here c.args.runs.now c.args.records.now c.args.number blank c.requires.detached in
    let had = option_map_some length
    (get c.args.runs.now.live (get_or c.args.records.now c.args.number blank).start)
    (get_or c.args.records.now c.args.number blank).length
    (c.requires.kept.2.stored.live c.args.number (get_or c.args.records.now c.args.number blank) read.0
    (detached_node (get_or c.args.records.now c.args.number blank).state read.1)) in
    nodes_released c.args.runs.now c.args.records.now c.args.number
    (get_or c.args.records.now c.args.number blank) _ read.0 read.1 refl c.give.new.self c.requires.kept.2.stored
    c.give.ensures.arena c.give.ensures.given_back had.0 had.1 had.2 k e

pub returns-clause-hashed : goal.returns-clause-hashed
returns-clause-hashed c = λ hashes.
    let r = get_or c.args.records.now c.args.number blank in
    let read = detached_here c.args.runs.now c.args.records.now c.args.number blank c.requires.detached in
    let is = returns-clause-nodes c (key_of c.args.runs.now r)
    (detached_key_is c.args.runs.now c.args.records.now c.args.number r read.0 read.1) in
    hashed_same hashes (nodes_of c.args.runs.now c.args.records.now) _ (ap (λ a. a.linked) is) (ap (λ a. a.records) is)

use Rattle.std.proofs.Common.{◌<◌, length, get_or, refl, ap, arith}
use Rattle.std.specs.FinMap.{get}
use Rattle.sd_unique.specs.declared.record.Record.{Record}
use Rattle.sd_unique.specs.declared.record.RecordState.TheVariants.{Free}
use Rattle.sd_unique.specs.Chains.{list_under, no_record}
use Rattle.sd_unique.proofs.Entries.{option_map_some, slice_get_at}
use Rattle.sd_unique.proofs.Hashes.{hashed_without}
use Rattle.sd_unique.proofs.Numbered.{linked_inside}
use Rattle.sd_unique.proofs.Retired.{run_live, retired_kept, nodes_retired, state_set}
use Rattle.sd_unique.proofs.Reading.{get_or_any}
use Rattle.sd_unique.proofs.Standing.{list_inside, linked_here, linked_key_is, linked_place}
use Rattle.sd_unique.specs.Record.{key_of, nodes_of}
use Rattle.sd_unique.proofs.states.free.Goals as goal

abbrev blank : Record
blank = record { place = 0; start = 0; length = 0; next = 0; uses = 0; mark = 0; state = Free }

pub bounds-records-node : goal.bounds-records-node
bounds-records-node c = linked_inside c.args.runs.now c.args.records.now c.args.node c.requires.linked

pub take_out-requires-clause-inside : goal.take_out-requires-clause-inside
take_out-requires-clause-inside c = λ some.
    omega (
      arith,
      c.requires.kept.1.linked_all some,
      linked_inside c.args.runs.now c.args.records.now c.args.node c.requires.linked,
    )

pub take_out-requires-clause-listed : goal.take_out-requires-clause-listed
take_out-requires-clause-listed c = (
  list_under c.args.records.now,
  linked_place c.args.runs.now c.args.records.now c.args.node blank c.requires.linked,
  (λ some i b e. omega (arith, c.requires.kept.1.linked_all some, list_inside c.args.records.now i b e)),
  c.requires.kept.1.in_lists,
)

pub slice_copy_out-record : goal.slice_copy_out-record
slice_copy_out-record c =
    omega (
      arith,
      c.leave_bucket.ensures.kept.size,
      linked_inside c.args.runs.now c.args.records.now c.args.node c.requires.linked,
    )

pub bounds-records-node-2 : goal.bounds-records-node-2
bounds-records-node-2 c =
    omega (
      arith,
      c.leave_bucket.ensures.kept.size,
      linked_inside c.args.runs.now c.args.records.now c.args.node c.requires.linked,
    )

pub give-requires : goal.give-requires
give-requires c =
    run_live c.args.runs.now c.args.records.now c.leave_bucket.new.records c.args.node
    (get_or c.leave_bucket.new.records c.args.node blank) c.leave_bucket.ensures.kept
    (slice_get_at c.leave_bucket.new.records c.args.node blank (omega (
      arith,
      c.leave_bucket.ensures.kept.size,
      linked_inside c.args.runs.now c.args.records.now c.args.node c.requires.linked,
    )))
    c.requires.linked c.requires.kept.1.stored

pub returns-clause-kept : goal.returns-clause-kept
returns-clause-kept c = λ flags k.
    let inside : c.args.node < length c.leave_bucket.new.records = omega (
      arith,
      c.leave_bucket.ensures.kept.size,
      linked_inside c.args.runs.now c.args.records.now c.args.node c.requires.linked,
    ) in
    let there = slice_get_at c.leave_bucket.new.records c.args.node blank inside in
    let had = option_map_some length
    (get c.args.runs.now.live (get_or c.leave_bucket.new.records c.args.node blank).start)
    (get_or c.leave_bucket.new.records c.args.node blank).length
    (run_live c.args.runs.now c.args.records.now c.leave_bucket.new.records c.args.node
    (get_or c.leave_bucket.new.records c.args.node blank) c.leave_bucket.ensures.kept there c.requires.linked
    k.stored) in
    retired_kept c.args.runs.now c.args.records.now c.leave_bucket.new.records c.args.node
    (get_or c.leave_bucket.new.records c.args.node blank) _ c.leave_bucket.ensures.kept there refl c.give.new.self
    k.stored c.requires.linked c.give.ensures.arena c.give.ensures.given_back had.0 had.1 had.2
    c.args.links.now c.take_out.new.links c.args.heads.now c.leave_bucket.new.heads c.args.places.now
    c.take_out.new.places flags
    (get_or_any c.leave_bucket.new.heads 0 0 no_record (omega (arith, k.at_least_one, c.leave_bucket.auto.heads)))
    c.leave_bucket.auto.heads c.take_out.auto.places c.take_out.auto.links
    c.leave_bucket.ensures.left
    (c.take_out.ensures (list_under c.args.records.now)
    (linked_place c.args.runs.now c.args.records.now c.args.node blank c.requires.linked) k.in_lists)
    k

pub returns-clause-free : goal.returns-clause-free
returns-clause-free c = λ r e.
    let inside : c.args.node < length c.leave_bucket.new.records = omega (
      arith,
      c.leave_bucket.ensures.kept.size,
      linked_inside c.args.runs.now c.args.records.now c.args.node c.requires.linked,
    ) in
    state_set c.leave_bucket.new.records c.args.node _ r inside refl e

pub returns-clause-nodes : goal.returns-clause-nodes
returns-clause-nodes c = λ k e.
    let inside : c.args.node < length c.leave_bucket.new.records = omega (
      arith,
      c.leave_bucket.ensures.kept.size,
      linked_inside c.args.runs.now c.args.records.now c.args.node c.requires.linked,
    ) in
    let there = slice_get_at c.leave_bucket.new.records c.args.node blank inside in
    let had = option_map_some length
    (get c.args.runs.now.live (get_or c.leave_bucket.new.records c.args.node blank).start)
    (get_or c.leave_bucket.new.records c.args.node blank).length
    (run_live c.args.runs.now c.args.records.now c.leave_bucket.new.records c.args.node
    (get_or c.leave_bucket.new.records c.args.node blank) c.leave_bucket.ensures.kept there c.requires.linked
    c.requires.kept.1.stored) in
    nodes_retired c.args.runs.now c.args.records.now c.leave_bucket.new.records c.args.node
    (get_or c.leave_bucket.new.records c.args.node blank) _ c.leave_bucket.ensures.kept there refl c.give.new.self
    c.requires.kept.1.stored c.requires.linked c.give.ensures.arena c.give.ensures.given_back had.0 had.1 had.2 k e

pub returns-clause-hashed : goal.returns-clause-hashed
returns-clause-hashed c = λ hashes.
    let r = get_or c.args.records.now c.args.node blank in
    let read = linked_here c.args.runs.now c.args.records.now c.args.node blank c.requires.linked in
    let is = returns-clause-nodes c (key_of c.args.runs.now r)
    (linked_key_is c.args.runs.now c.args.records.now c.args.node r read.0 read.1) in
    hashed_without hashes (nodes_of c.args.runs.now c.args.records.now) _ c.args.node (ap (λ a. a.linked) is)
    (ap (λ a. a.records) is)

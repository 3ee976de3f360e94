use Rattle.std.proofs.Common.{get_or, arith}
use Rattle.sd_unique.specs.declared.record.Record.{Record}
use Rattle.sd_unique.specs.declared.record.RecordState.TheVariants.{Free}
use Rattle.sd_unique.proofs.AtPlace.{found_at}
use Rattle.sd_unique.proofs.Entries.{slice_get_at, slice_get_inside}
use Rattle.sd_unique.proofs.ListsMade.{none_at}
use Rattle.sd_unique.proofs.listing.linked_among.Goals as goal

abbrev blank : Record
blank = record { place = 0; start = 0; length = 0; next = 0; uses = 0; mark = 0; state = Free }

pub returns-then-is_at-clause-some : goal.returns-then-is_at-clause-some
returns-then-is_at-clause-some c = λ arena.
    found_at arena c.args.records.now c.args.place c.loop-number.number
    (get_or c.args.records.now c.loop-number.number blank)
    (slice_get_at c.args.records.now c.loop-number.number blank (omega arith)) c.if-is_at.ensures

pub returns-clause-none : goal.returns-clause-none
returns-clause-none c = λ arena n at.
    none_at arena c.args.records.now c.args.place
    (λ m r there. c.loop-number.invariant m r (omega (arith, slice_get_inside c.args.records.now m r there)) there) n at

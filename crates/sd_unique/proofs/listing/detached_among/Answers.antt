use Rattle.std.proofs.Common.{get_or, arith}
use Rattle.sd_unique.specs.declared.record.Record.{Record}
use Rattle.sd_unique.specs.declared.record.RecordState.TheVariants.{Free}
use Rattle.sd_unique.proofs.Entries.{slice_get_at, slice_get_inside}
use Rattle.sd_unique.proofs.ListsMade.{found_detached, none_detached}
use Rattle.sd_unique.proofs.listing.detached_among.Goals as goal

abbrev blank : Record
blank = record { place = 0; start = 0; length = 0; next = 0; uses = 0; mark = 0; state = Free }

pub returns-in-Detached-clause-some : goal.returns-in-Detached-clause-some
returns-in-Detached-clause-some c = λ arena.
    found_detached arena c.args.records.now c.loop-number.number (get_or c.args.records.now c.loop-number.number blank)
    (slice_get_at c.args.records.now c.loop-number.number blank (omega arith)) c.in-Detached.is

pub returns-clause-none : goal.returns-clause-none
returns-clause-none c = λ arena.
    none_detached arena c.args.records.now
    (λ m r there. c.loop-number.invariant m r (omega (arith, slice_get_inside c.args.records.now m r there)) there)

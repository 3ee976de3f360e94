use Rattle.std.proofs.Common.{length, ap, arith}
use Rattle.std.proofs.lemmas.List.{length-map}
use Rattle.sd_counts.specs.declared.count.Count.{Count}
use Rattle.sd_counts.specs.Queued.{with_blanks}
use Rattle.sd_counts.proofs.Filled.{filled_size, kept_grown}
use Rattle.sd_counts.proofs.live_counts.LiveCounts.grow.Goals as goal

pub invariant_of-self-2 : goal.invariant_of-self-2
invariant_of-self-2 c =
    let s = c.self.inside in
    kept_grown s.counts.items c.make_room.new.counts.items s.size _ _ s.rising s.falling c.args.number
    c.self.invariant c.in_ok-make_room.ensures.same
    (omega (
      arith,
      c.if-number-self.false,
      c.requires.next,
      ap (λ v. length v.live) c.self.view_is,
      length-map (with_blanks s.counts.items s.size) (λ (c : Count). c.live),
      filled_size s.counts.items s.size c.self.invariant.inside,
    ))
    (omega (arith, c.if-number-eq-NO_NUMBER.false, c.ranges.number.fits))
    c.in_ok-make_room.ensures.room

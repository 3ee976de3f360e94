use Rattle.std.proofs.Common.{arith, subst, sym}
use Rattle.sd_counts.specs.Queued.{AreQueued}
use Rattle.sd_counts.proofs.TakenOff.{taken_down, down_top, queued_inside}
use Rattle.sd_counts.proofs.Steps.{down_inside, stays_up, less_to_fall, fewer_to_fall, falls_node, falls_live}
use Rattle.sd_counts.proofs.Steps.{falls_total, has_fallen}
use Rattle.sd_counts.proofs.settling.fall.Goals as goal

pub take_off-next-requires : goal.take_off-next-requires
take_off-next-requires c =
    record {
      inside = queued_inside c.args.counts.now c.args.number
          (down_top c.args.counts.now c.requires.queued.0 c.args.number c.requires.queued.1 c.requires.some).0;
    }

pub bounds-counts-number : goal.bounds-counts-number
bounds-counts-number c =
    let inside = down_inside c.args.counts.now c.take_off-next.new.counts c.args.number c.take_off-next.ensures.taken
    c.requires.some c.requires.queued.0 c.requires.queued.1 in
    omega (arith, inside, c.take_off-next.auto.counts)

pub returns-then-counts-number-clause-queued : goal.returns-then-counts-number-clause-queued
returns-then-counts-number-clause-queued c = λ rising q.
    subst (λ top. AreQueued c.take_off-next.new.counts rising top) (sym c.take_off-next.ensures.next)
    (taken_down c.args.counts.now c.take_off-next.new.counts c.args.number c.take_off-next.ensures.taken
    (down_inside c.args.counts.now c.take_off-next.new.counts c.args.number c.take_off-next.ensures.taken
    c.requires.some rising q) rising q c.requires.some)

pub returns-then-counts-number-clause-right : goal.returns-then-counts-number-clause-right
returns-then-counts-number-clause-right c = λ held of.
    stays_up c.args.counts.now c.take_off-next.new.counts c.args.number c.take_off-next.ensures.taken c.requires.some
    c.requires.queued.0 c.requires.queued.1 c.if-counts-number.true c.args.nodes.now held c.args.total of

pub returns-then-counts-number-clause-fewer : goal.returns-then-counts-number-clause-fewer
returns-then-counts-number-clause-fewer c =
    less_to_fall c.args.counts.now c.take_off-next.new.counts c.args.number c.take_off-next.ensures.taken
    c.requires.some c.requires.queued.0 c.requires.queued.1 c.if-counts-number.true

pub list-list-requires : goal.list-list-requires
list-list-requires c =
    falls_node c.args.counts.now c.take_off-next.new.counts c.args.number c.take_off-next.ensures.taken
    c.requires.some c.requires.queued.0 c.requires.queued.1 c.if-counts-number.false c.args.nodes.now
    c.requires.nodes c.requires.right.0 c.args.total c.requires.right.1

pub lower_all-top-requires-clause-used : goal.lower_all-top-requires-clause-used
lower_all-top-requires-clause-used c =
    falls_live c.args.counts.now c.take_off-next.new.counts c.args.number c.take_off-next.ensures.taken
    c.requires.some c.requires.queued.0 c.requires.queued.1 c.if-counts-number.false c.args.nodes.now
    c.requires.nodes c.requires.right.0 c.args.total c.requires.right.1 c.list-list.result.now c.list-list.ensures

pub lower_all-top-requires-clause-queued : goal.lower_all-top-requires-clause-queued
lower_all-top-requires-clause-queued c = (
  c.requires.queued.0,
  subst (λ top. AreQueued c.take_off-next.new.counts c.requires.queued.0 top) (sym c.take_off-next.ensures.next)
      (taken_down c.args.counts.now c.take_off-next.new.counts c.args.number c.take_off-next.ensures.taken
      (down_inside c.args.counts.now c.take_off-next.new.counts c.args.number c.take_off-next.ensures.taken
      c.requires.some c.requires.queued.0 c.requires.queued.1) c.requires.queued.0 c.requires.queued.1 c.requires.some),
)

pub overflow_cast-result : goal.overflow_cast-result
overflow_cast-result c =
    omega (
      arith,
      falls_total c.args.counts.now c.take_off-next.new.counts c.args.number c.take_off-next.ensures.taken
          c.requires.some c.requires.queued.0 c.requires.queued.1 c.if-counts-number.false c.args.nodes.now
          c.requires.nodes c.requires.right.0 c.args.total c.requires.right.1 c.list-list.result.now
          c.list-list.ensures,
    )

pub overflow_sub-result : goal.overflow_sub-result
overflow_sub-result c =
    omega (
      arith,
      falls_total c.args.counts.now c.take_off-next.new.counts c.args.number c.take_off-next.ensures.taken
          c.requires.some c.requires.queued.0 c.requires.queued.1 c.if-counts-number.false c.args.nodes.now
          c.requires.nodes c.requires.right.0 c.args.total c.requires.right.1 c.list-list.result.now
          c.list-list.ensures,
    )

pub returns-clause-queued : goal.returns-clause-queued
returns-clause-queued c = λ rising q. c.lower_all-top.ensures.queued rising
    (subst (λ top. AreQueued c.take_off-next.new.counts rising top) (sym c.take_off-next.ensures.next)
    (taken_down c.args.counts.now c.take_off-next.new.counts c.args.number c.take_off-next.ensures.taken
    (down_inside c.args.counts.now c.take_off-next.new.counts c.args.number c.take_off-next.ensures.taken
    c.requires.some rising q) rising q c.requires.some))

pub returns-clause-right : goal.returns-clause-right
returns-clause-right c = λ held of.
    has_fallen c.args.counts.now c.take_off-next.new.counts c.args.number c.take_off-next.ensures.taken
    c.requires.some c.requires.queued.0 c.requires.queued.1 c.if-counts-number.false c.args.nodes.now
    c.requires.nodes held c.args.total of c.list-list.result.now c.list-list.ensures c.lower_all-top.new.counts _
    (omega (arith, overflow_sub-result c)) c.lower_all-top.ensures.lowered

pub returns-clause-fewer : goal.returns-clause-fewer
returns-clause-fewer c =
    fewer_to_fall c.args.counts.now c.take_off-next.new.counts c.args.number c.take_off-next.ensures.taken
    c.requires.some c.requires.queued.0 c.requires.queued.1 c.if-counts-number.false c.lower_all-top.new.counts
    _ c.lower_all-top.ensures.lowered c.lower_all-top.auto.counts

use Rattle.std.proofs.Common.{arith, subst, sym}
use Rattle.sd_counts.specs.Queued.{AreQueued}
use Rattle.sd_counts.proofs.TakenOff.{taken_up, up_top, queued_inside}
use Rattle.sd_counts.proofs.Steps.{up_inside, stays_down, less_to_rise, fewer_to_rise, rises_node, rises_within}
use Rattle.sd_counts.proofs.Steps.{rises_live}
use Rattle.sd_counts.proofs.Steps.{rises_total, has_risen}
use Rattle.sd_counts.proofs.settling.rise.Goals as goal

pub take_off-next-requires : goal.take_off-next-requires
take_off-next-requires c =
    record {
      inside = queued_inside c.args.counts.now c.args.number
          (up_top c.args.counts.now c.args.number c.requires.queued.0 c.requires.queued.1 c.requires.some).0;
    }

pub bounds-counts-number : goal.bounds-counts-number
bounds-counts-number c =
    let inside = up_inside c.args.counts.now c.take_off-next.new.counts c.args.number c.take_off-next.ensures.taken
    c.requires.some c.requires.queued.0 c.requires.queued.1 in
    omega (arith, inside, c.take_off-next.auto.counts)

pub returns-then-not-counts-number-clause-queued : goal.returns-then-not-counts-number-clause-queued
returns-then-not-counts-number-clause-queued c = λ falling q.
    subst (λ top. AreQueued c.take_off-next.new.counts top falling) (sym c.take_off-next.ensures.next)
    (taken_up c.args.counts.now c.take_off-next.new.counts c.args.number c.take_off-next.ensures.taken
    (up_inside c.args.counts.now c.take_off-next.new.counts c.args.number c.take_off-next.ensures.taken
    c.requires.some falling q) falling q c.requires.some)

pub returns-then-not-counts-number-clause-right : goal.returns-then-not-counts-number-clause-right
returns-then-not-counts-number-clause-right c = λ held of.
    stays_down c.args.counts.now c.take_off-next.new.counts c.args.number c.take_off-next.ensures.taken c.requires.some
    c.requires.queued.0 c.requires.queued.1 c.if-not-counts-number.true c.args.nodes.now held c.args.total of

pub returns-then-not-counts-number-clause-fewer : goal.returns-then-not-counts-number-clause-fewer
returns-then-not-counts-number-clause-fewer c =
    less_to_rise c.args.counts.now c.take_off-next.new.counts c.args.number c.take_off-next.ensures.taken
    c.requires.some c.requires.queued.0 c.requires.queued.1 c.if-not-counts-number.true

pub list-list-requires : goal.list-list-requires
list-list-requires c =
    rises_node c.args.counts.now c.take_off-next.new.counts c.args.number c.take_off-next.ensures.taken
    c.requires.some c.requires.queued.0 c.requires.queued.1 c.if-not-counts-number.false c.args.nodes.now
    c.requires.nodes c.requires.right.0 c.args.total c.requires.right.1

pub raise_all-top-requires-clause-within : goal.raise_all-top-requires-clause-within
raise_all-top-requires-clause-within c =
    rises_within c.args.counts.now c.take_off-next.new.counts c.args.number c.take_off-next.ensures.taken
    c.requires.some c.requires.queued.0 c.requires.queued.1 c.if-not-counts-number.false c.args.nodes.now
    c.requires.nodes c.requires.right.0 c.args.total c.requires.right.1 c.list-list.result.now c.list-list.ensures

pub raise_all-top-requires-clause-room : goal.raise_all-top-requires-clause-room
raise_all-top-requires-clause-room c =
    rises_live c.args.counts.now c.take_off-next.new.counts c.args.number c.take_off-next.ensures.taken
    c.requires.some c.requires.queued.0 c.requires.queued.1 c.if-not-counts-number.false c.args.nodes.now
    c.requires.nodes c.requires.right.0 c.args.total c.requires.right.1 c.list-list.result.now c.list-list.ensures

pub raise_all-top-requires-clause-queued : goal.raise_all-top-requires-clause-queued
raise_all-top-requires-clause-queued c = (
  c.requires.queued.0,
  subst (λ top. AreQueued c.take_off-next.new.counts top c.requires.queued.0) (sym c.take_off-next.ensures.next)
      (taken_up c.args.counts.now c.take_off-next.new.counts c.args.number c.take_off-next.ensures.taken
      (up_inside c.args.counts.now c.take_off-next.new.counts c.args.number c.take_off-next.ensures.taken
      c.requires.some c.requires.queued.0 c.requires.queued.1) c.requires.queued.0 c.requires.queued.1 c.requires.some),
)

pub overflow_cast-result : goal.overflow_cast-result
overflow_cast-result c =
    omega (
      arith,
      rises_total c.args.counts.now c.take_off-next.new.counts c.args.number c.take_off-next.ensures.taken
          c.requires.some c.requires.queued.0 c.requires.queued.1 c.if-not-counts-number.false c.args.nodes.now
          c.requires.nodes c.requires.right.0 c.args.total c.requires.right.1 c.list-list.result.now
          c.list-list.ensures,
    )

pub overflow_add-result : goal.overflow_add-result
overflow_add-result c =
    omega (
      arith,
      rises_total c.args.counts.now c.take_off-next.new.counts c.args.number c.take_off-next.ensures.taken
          c.requires.some c.requires.queued.0 c.requires.queued.1 c.if-not-counts-number.false c.args.nodes.now
          c.requires.nodes c.requires.right.0 c.args.total c.requires.right.1 c.list-list.result.now
          c.list-list.ensures,
    )

pub returns-clause-queued : goal.returns-clause-queued
returns-clause-queued c = λ falling q. c.raise_all-top.ensures.queued falling
    (subst (λ top. AreQueued c.take_off-next.new.counts top falling) (sym c.take_off-next.ensures.next)
    (taken_up c.args.counts.now c.take_off-next.new.counts c.args.number c.take_off-next.ensures.taken
    (up_inside c.args.counts.now c.take_off-next.new.counts c.args.number c.take_off-next.ensures.taken
    c.requires.some falling q) falling q c.requires.some))

pub returns-clause-right : goal.returns-clause-right
returns-clause-right c = λ held of.
    has_risen c.args.counts.now c.take_off-next.new.counts c.args.number c.take_off-next.ensures.taken
    c.requires.some c.requires.queued.0 c.requires.queued.1 c.if-not-counts-number.false c.args.nodes.now
    c.requires.nodes held c.args.total of c.list-list.result.now c.list-list.ensures c.raise_all-top.new.counts
    c.raise_all-top.ensures.raised

pub returns-clause-fewer : goal.returns-clause-fewer
returns-clause-fewer c =
    fewer_to_rise c.args.counts.now c.take_off-next.new.counts c.args.number c.take_off-next.ensures.taken
    c.requires.some c.requires.queued.0 c.requires.queued.1 c.if-not-counts-number.false c.raise_all-top.new.counts
    _ c.raise_all-top.ensures.raised c.raise_all-top.auto.counts

use Rattle.sd_move.proofs.DetachedAll.{may_detach, detaching_on, detaching_less}
use Rattle.sd_move.proofs.detaching.detach_all.Goals as goal

pub detach-requires-clause-top : goal.detach-requires-clause-top
detach-requires-clause-top c =
    (may_detach c.args.m.now c.loop-number.m c.args.place c.loop-number.numbers.items c.loop-number.invariant
    c.in-Some.number c.in-Some.ensures.some c.requires.may).2

pub loop-number-smaller : goal.loop-number-smaller
loop-number-smaller c =
    detaching_less c.args.m.now c.loop-number.m c.args.place c.loop-number.numbers.items c.loop-number.invariant
    c.in-Some.number c.in-Some.ensures.some c.detach.new.self c.detach.ensures.detached

pub loop-number-preserved : goal.loop-number-preserved
loop-number-preserved c =
    detaching_on c.args.m.now c.loop-number.m c.args.place c.loop-number.numbers.items c.loop-number.invariant
    c.in-Some.number c.in-Some.ensures.some c.detach.new.self c.push.new.self.items c.detach.ensures.detached
    c.detach.ensures.table c.in_ok-push.ensures.items

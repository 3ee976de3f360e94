use Rattle.std.proofs.Common.{[], ◌∷◌, ◌++◌, refl}
use Rattle.sd_move.proofs.DetachedAll.{detaching_first, may_detach, detaching_on, detaching_less}
use Rattle.sd_move.proofs.going_back.clear.Goals as goal

pub detach-requires-clause-moving : goal.detach-requires-clause-moving
detach-requires-clause-moving c =
    let i = c.loop-number.invariant in
    (may_detach c.args.m.now c.loop-number.m c.args.place i.0 i.1 c.in-Some.number c.in-Some.ensures.some
    c.requires.may).0

pub detach-requires-clause-linked : goal.detach-requires-clause-linked
detach-requires-clause-linked c =
    let i = c.loop-number.invariant in
    (may_detach c.args.m.now c.loop-number.m c.args.place i.0 i.1 c.in-Some.number c.in-Some.ensures.some
    c.requires.may).1

pub detach-requires-clause-top : goal.detach-requires-clause-top
detach-requires-clause-top c =
    let i = c.loop-number.invariant in
    (may_detach c.args.m.now c.loop-number.m c.args.place i.0 i.1 c.in-Some.number c.in-Some.ensures.some
    c.requires.may).2

pub loop-number-init : goal.loop-number-init
loop-number-init c = ([], detaching_first c.args.m.now c.args.place [] c.requires.table refl)

pub loop-number-smaller : goal.loop-number-smaller
loop-number-smaller c =
    let i = c.loop-number.invariant in
    detaching_less c.args.m.now c.loop-number.m c.args.place i.0 i.1 c.in-Some.number c.in-Some.ensures.some
    c.detach.new.self c.detach.ensures.detached

pub loop-number-preserved : goal.loop-number-preserved
loop-number-preserved c =
    let i = c.loop-number.invariant in
    let longer = i.0 ++ c.in-Some.number ∷ [] in (
      longer,
      detaching_on c.args.m.now c.loop-number.m c.args.place i.0 i.1 c.in-Some.number c.in-Some.ensures.some
          c.detach.new.self longer c.detach.ensures.detached c.detach.ensures.table refl,
    )

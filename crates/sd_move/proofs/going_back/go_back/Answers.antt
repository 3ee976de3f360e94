use Rattle.std.proofs.Common.{refl, sym, subst, arith}
use Rattle.sd_move.specs.GoingBack.{return_of, HasGoneBack}
use Rattle.sd_move.proofs.ReturnEnd.{gone_back}
use Rattle.sd_move.proofs.going_back.go_back.Goals as goal

pub turn_back-requires-clause-can : goal.turn_back-requires-clause-can
turn_back-requires-clause-can c = let r = c.requires.can in (r.0, c.args.named.now, r.1)

pub link_all_kept-requires-clause-returning : goal.link_all_kept-requires-clause-returning
link_all_kept-requires-clause-returning c =
    let w = c.requires.can in
    let r = return_of w.0 c.args.m.now c.args.kind c.args.upper c.args.lower c.args.named.now in
    (r, c.turn_back.ensures.returning w.0 c.args.named.now w.1)

pub put_all_back-requires-clause-returning : goal.put_all_back-requires-clause-returning
put_all_back-requires-clause-returning c =
    let w = c.requires.can in
    let r = return_of w.0 c.args.m.now c.args.kind c.args.upper c.args.lower c.args.named.now in
    (r, c.link_all_kept.ensures.returning r (c.turn_back.ensures.returning w.0 c.args.named.now w.1))

pub leave_none_detached-requires-clause-returning : goal.leave_none_detached-requires-clause-returning
leave_none_detached-requires-clause-returning c =
    let w = c.requires.can in
    let r = return_of w.0 c.args.m.now c.args.kind c.args.upper c.args.lower c.args.named.now in (
      r,
      refl,
      c.put_all_back.ensures.returning r
          (c.link_all_kept.ensures.returning r (c.turn_back.ensures.returning w.0 c.args.named.now w.1)),
    )

pub end-requires-clause-going : goal.end-requires-clause-going
end-requires-clause-going c =
    let w = c.requires.can in
    let r = return_of w.0 c.args.m.now c.args.kind c.args.upper c.args.lower c.args.named.now in
    let s =
    c.leave_none_detached.ensures.returning r refl
    (c.put_all_back.ensures.returning r
    (c.link_all_kept.ensures.returning r (c.turn_back.ensures.returning w.0 c.args.named.now w.1))) in
    (w.0.start, c.args.upper, s.progress, w.0.valuation, s.going)

pub returns-clause-back : goal.returns-clause-back
returns-clause-back c w can =
    let r = return_of w c.args.m.now c.args.kind c.args.upper c.args.lower c.args.named.now in
    let s =
    c.leave_none_detached.ensures.returning r refl
    (c.put_all_back.ensures.returning r
    (c.link_all_kept.ensures.returning r (c.turn_back.ensures.returning w c.args.named.now can))) in
    subst (λ t. HasGoneBack w.target c.args.m.now t c.args.kind c.args.upper c.args.lower c.args.named.now)
    (sym c.end.ensures.ended)
    (gone_back r c.leave_none_detached.new.m s c.leave_none_detached.ensures.table
    c.leave_none_detached.ensures.none_detached (omega arith))

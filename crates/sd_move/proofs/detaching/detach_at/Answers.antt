use Rattle.std.proofs.Common.{subst, sym}
use Rattle.sd_move.specs.Steps.{CanLinkAll, AreLinkedAt}
use Rattle.sd_move.proofs.LinkedAgain.{may_link_again, linked_again}
use Rattle.sd_move.proofs.detaching.detach_at.Goals as goal

pub link_all-requires-clause-may : goal.link_all-requires-clause-may
link_all-requires-clause-may c =
    let w = c.requires.may in
    let k = w.4 in
    let mid = c.detach_all.new.m in (
      w.0,
      w.1,
      w.2,
      w.3,
      subst (CanLinkAll w.0 mid w.1 w.2 w.3 c.args.place) (sym c.deref.ensures.value)
          (may_link_again w.0 c.args.m.now w.1 w.2 w.3 c.args.place c.requires.table k.may k.settled mid _
          c.detach_all.ensures.detached (c.detach_all.ensures.going w.0 w.1 w.2 w.3 k.may) (k.may.old k.there)),
    )

pub returns-in-Err-clause-err : goal.returns-in-Err-clause-err
returns-in-Err-clause-err c =
    linked_again c.args.m.now c.detach_all.new.m c.link_all.new.m c.args.place _ c.requires.table
    c.detach_all.ensures.detached
    (subst (AreLinkedAt c.detach_all.new.m c.link_all.new.m c.args.place) c.deref.ensures.value
    c.link_all.ensures.linked)

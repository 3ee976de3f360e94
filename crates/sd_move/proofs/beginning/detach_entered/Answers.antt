use Rattle.std.proofs.Common.{◌++◌, map, subst, sym, ◌∙◌, ap}
use Rattle.sd_move.specs.Sorting.{place_entry}
use Rattle.sd_move.specs.Steps.{CanLinkAll, AreLinkedAt}
use Rattle.sd_move.proofs.LinkedAgain.{may_link_again, linked_again}
use Rattle.sd_move.proofs.beginning.detach_entered.Goals as goal

pub link_all-requires-clause-may : goal.link_all-requires-clause-may
link_all-requires-clause-may c =
    let w = c.requires.may in
    let k = w.4 in
    let mid = c.detach_at.new.m in
    let e = c.in_ok-numbers.ensures in (
      w.0,
      w.1,
      w.2,
      w.3,
      subst (CanLinkAll w.0 mid w.1 w.2 w.3 c.args.place) (sym c.deref-in-Err.ensures.value)
          (may_link_again w.0 c.args.m.now w.1 w.2 w.3 c.args.place c.requires.table k.may k.settled mid _
          e.detached (e.going w.0 w.1 w.2 w.3 k.may) (k.may.old k.there)),
    )

pub returns-in-Err-clause-err : goal.returns-in-Err-clause-err
returns-in-Err-clause-err c =
    linked_again c.args.m.now c.detach_at.new.m c.link_all.new.m c.args.place _ c.requires.table
    c.in_ok-numbers.ensures.detached
    (subst (AreLinkedAt c.detach_at.new.m c.link_all.new.m c.args.place) c.deref-in-Err.ensures.value
    c.link_all.ensures.linked)

pub returns-in-Ok-clause-entered : goal.returns-in-Ok-clause-entered
returns-in-Ok-clause-entered c =
    c.in-Ok.ensures.ok
    ∙ ap (λ l. c.args.entries.now.items ++ map (place_entry c.args.place) l) c.deref.ensures.value

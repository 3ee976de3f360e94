use Rattle.std.proofs.Common.{subst, sym}
use Rattle.std.specs.FinMap.{get}
use Rattle.sd_laws.proofs.Evaluated.{value_of}
use Rattle.sd_move.specs.Moving.{no_progress}
use Rattle.sd_move.specs.Steps.{CanLinkAll, AreLinkedAt}
use Rattle.sd_move.proofs.BegunBoth.{second_can_detach, both_detached, upper_may_link, linked_back, none_back}
use Rattle.sd_move.proofs.BegunBoth.{known_back, ended_back}
use Rattle.sd_move.proofs.beginning.begin_at_both.Goals as goal

pub detach_entered-requires-clause-may : goal.detach_entered-requires-clause-may
detach_entered-requires-clause-may c =
    let m = c.args.m.now in
    let e = c.in_ok-upper_nodes.ensures in (
      m,
      c.args.upper,
      no_progress,
      value_of (get m.linked),
      second_can_detach m c.begin_at.new.m c.args.upper c.args.lower _ c.requires.table c.requires.no_move
          c.begin_at.ensures.at_begin c.requires.child c.begin_at.ensures.table e.going e.detached e.none_left,
    )

pub link_all-requires-clause-may : goal.link_all-requires-clause-may
link_all-requires-clause-may c =
    let m = c.args.m.now in
    let e = c.in_ok-upper_nodes.ensures in (
      m,
      c.args.upper,
      no_progress,
      value_of (get m.linked),
      subst (CanLinkAll m c.detach_entered.new.m c.args.upper no_progress (value_of (get m.linked)) c.args.upper)
          (sym c.deref.ensures.value)
          (upper_may_link m c.begin_at.new.m c.args.upper c.args.lower _ c.requires.table c.requires.no_move
          c.begin_at.ensures.at_begin c.requires.child c.begin_at.ensures.table e.going e.detached e.none_left
          c.detach_entered.new.m c.in-Err.ensures.err),
    )

pub end_move-requires-clause-none_detached : goal.end_move-requires-clause-none_detached
end_move-requires-clause-none_detached c =
    let m = c.args.m.now in
    let e = c.in_ok-upper_nodes.ensures in
    let same = linked_back m c.begin_at.new.m c.args.upper c.args.lower _ c.requires.table c.requires.no_move
    c.begin_at.ensures.at_begin c.requires.child c.begin_at.ensures.table e.going e.detached e.none_left
    c.detach_entered.new.m c.link_all.new.m c.in-Err.ensures.err
    (subst (AreLinkedAt c.detach_entered.new.m c.link_all.new.m c.args.upper) c.deref.ensures.value
    c.link_all.ensures.linked) in
    none_back m c.begin_at.new.m c.args.upper c.args.lower _ c.requires.table c.requires.no_move
    c.begin_at.ensures.at_begin c.requires.child c.begin_at.ensures.table e.going e.detached e.none_left
    c.link_all.new.m same

pub end_move-requires-clause-known : goal.end_move-requires-clause-known
end_move-requires-clause-known c =
    let m = c.args.m.now in
    let e = c.in_ok-upper_nodes.ensures in
    let same = linked_back m c.begin_at.new.m c.args.upper c.args.lower _ c.requires.table c.requires.no_move
    c.begin_at.ensures.at_begin c.requires.child c.begin_at.ensures.table e.going e.detached e.none_left
    c.detach_entered.new.m c.link_all.new.m c.in-Err.ensures.err
    (subst (AreLinkedAt c.detach_entered.new.m c.link_all.new.m c.args.upper) c.deref.ensures.value
    c.link_all.ensures.linked) in
    known_back m c.begin_at.new.m c.args.upper c.args.lower _ c.requires.table c.requires.no_move
    c.begin_at.ensures.at_begin c.requires.child c.begin_at.ensures.table e.going e.detached e.none_left
    c.link_all.new.m c.link_all.ensures.table same

pub returns-in-Ok-clause-ok : goal.returns-in-Ok-clause-ok
returns-in-Ok-clause-ok c =
    let m = c.args.m.now in
    let e = c.in_ok-upper_nodes.ensures in
    let k = second_can_detach m c.begin_at.new.m c.args.upper c.args.lower _ c.requires.table c.requires.no_move
    c.begin_at.ensures.at_begin c.requires.child c.begin_at.ensures.table e.going e.detached e.none_left in
    both_detached m c.begin_at.new.m c.args.upper c.args.lower _ c.requires.table c.requires.no_move
    c.begin_at.ensures.at_begin c.requires.child c.begin_at.ensures.table e.going e.detached e.none_left
    c.detach_entered.new.m _ (c.in-Ok.ensures.going m c.args.upper no_progress (value_of (get m.linked)) k.may)
    c.in-Ok.ensures.detached c.in-Ok.ensures.none_left

pub returns-in-Err-clause-err : goal.returns-in-Err-clause-err
returns-in-Err-clause-err c =
    let m = c.args.m.now in
    let e = c.in_ok-upper_nodes.ensures in
    let same = linked_back m c.begin_at.new.m c.args.upper c.args.lower _ c.requires.table c.requires.no_move
    c.begin_at.ensures.at_begin c.requires.child c.begin_at.ensures.table e.going e.detached e.none_left
    c.detach_entered.new.m c.link_all.new.m c.in-Err.ensures.err
    (subst (AreLinkedAt c.detach_entered.new.m c.link_all.new.m c.args.upper) c.deref.ensures.value
    c.link_all.ensures.linked) in
    ended_back m c.begin_at.new.m c.args.upper c.args.lower _ c.requires.table c.requires.no_move
    c.begin_at.ensures.at_begin c.requires.child c.begin_at.ensures.table e.going e.detached e.none_left
    c.link_all.new.m c.end_move.new.self same c.end_move.ensures.ended

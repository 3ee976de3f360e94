use Rattle.std.proofs.Common.{true}
use Rattle.sd_move.proofs.TurnedBack.{upper_may_detach, lower_may_detach, back_moving, back_going, back_moved}
use Rattle.sd_move.proofs.TurnedBack.{back_movable}
use Rattle.sd_move.proofs.TurnedBack.{back_cleared, is_returning}
use Rattle.sd_move.proofs.going_back.turn_back.Goals as goal

pub clear-requires-clause-may : goal.clear-requires-clause-may
clear-requires-clause-may c =
    let r = c.requires.can in
    upper_may_detach r.0 c.args.m.now c.args.kind c.args.upper c.args.lower r.1 r.2 c.requires.table

pub clear_lower-requires-clause-may : goal.clear_lower-requires-clause-may
clear_lower-requires-clause-may c y e =
    let r = c.requires.can in
    lower_may_detach r.0 c.args.m.now c.args.kind c.args.upper c.args.lower r.1 r.2 c.requires.table c.clear.new.m
    c.clear.ensures.cleared c.clear.ensures.table y e

pub turn_at-requires-clause-moving : goal.turn_at-requires-clause-moving
turn_at-requires-clause-moving c =
    let r = c.requires.can in
    back_moving r.0 c.args.m.now c.args.kind c.args.upper c.args.lower r.1 r.2 c.requires.table c.clear.new.m
    c.clear.ensures.cleared c.clear.ensures.table c.clear_lower.new.m c.clear_lower.ensures.cleared
    c.clear_lower.ensures.table

pub turn_at-requires-clause-movable : goal.turn_at-requires-clause-movable
turn_at-requires-clause-movable c =
    let r = c.requires.can in
    back_movable r.0 c.args.m.now c.args.kind c.args.upper c.args.lower r.1 r.2 c.requires.table c.clear.new.m
    c.clear.ensures.cleared c.clear.ensures.table c.clear_lower.new.m c.clear_lower.ensures.cleared
    c.clear_lower.ensures.table

pub turn_at-requires-clause-cleared : goal.turn_at-requires-clause-cleared
turn_at-requires-clause-cleared c =
    let r = c.requires.can in
    back_cleared r.0 c.args.m.now c.args.kind c.args.upper c.args.lower r.1 r.2 c.requires.table c.clear.new.m
    c.clear.ensures.cleared c.clear.ensures.table c.clear_lower.new.m c.clear_lower.ensures.cleared
    c.clear_lower.ensures.table

pub returns-clause-returning : goal.returns-clause-returning
returns-clause-returning c w named can =
    let m = c.clear.new.m in
    let a = c.clear.ensures in
    let m2 = c.clear_lower.new.m in
    let d = c.clear_lower.ensures in
    is_returning w c.args.m.now c.args.kind c.args.upper c.args.lower named can c.requires.table m a.cleared a.table m2
    d.cleared d.table c.turn_at.new.m
    (c.turn_at.ensures.turned can.tree
    (back_moved w c.args.m.now c.args.kind c.args.upper c.args.lower named can c.requires.table m a.cleared a.table m2
    d.cleared d.table))
    (c.turn_at.ensures.going w.start (record w.progress { goes_back = true }) w.valuation
    (back_going w c.args.m.now c.args.kind c.args.upper c.args.lower named can c.requires.table m a.cleared a.table m2
    d.cleared d.table))

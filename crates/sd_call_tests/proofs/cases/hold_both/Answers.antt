use Rattle.std.proofs.Common.{sym, subst, ap, ◌∙◌, arith}
use Rattle.sd_manager.specs.Table.{Table}
use Rattle.sd_manager.specs.Marking.{AreUnmarked}
use Rattle.sd_call_tests.proofs.Tried.{tried_held, tried_room}
use Rattle.sd_call_tests.proofs.Steps.{no_root, node_held, serves_held, ready_held}
use Rattle.sd_call_tests.proofs.cases.hold_both.Goals as goal

pub hold-requires-clause-room : goal.hold-requires-clause-room
hold-requires-clause-room c = omega (arith, no_root c.args.m c.args.c c.requires.fresh)

pub hold-requires-2-clause-shown : goal.hold-requires-2-clause-shown
hold-requires-2-clause-shown c =
    node_held c.args.m c.hold.new.self c.in_ok-first.first c.args.one c.args.other c.in_ok-first.ensures.ok
    c.requires.other

pub hold-requires-2-clause-room : goal.hold-requires-2-clause-room
hold-requires-2-clause-room c =
    tried_room c.args.m c.hold.new.self c.in_ok-first.first c.args.one c.in_ok-first.ensures.ok
    (no_root c.args.m c.args.c c.requires.fresh)

pub invariant_of-result : goal.invariant_of-result
invariant_of-result c =
    let is = c.in_ok-first.ensures.ok in
    let f = c.requires.fresh in
    ready_held c.hold.new.self c.hold-2.new.self c.args.c c.in_ok-first.first c.in_ok-second.second c.args.other
    (ap (λ (t : Table). t.moving) is ∙ f.no_move) (subst AreUnmarked (sym is) f.unmarked)
    (serves_held c.args.c c.args.m c.hold.new.self c.in_ok-first.first c.args.one is f.serves)
    (tried_held c.args.m c.hold.new.self c.in_ok-first.first c.args.one is) c.in_ok-second.ensures.absent
    c.in_ok-second.ensures.ok

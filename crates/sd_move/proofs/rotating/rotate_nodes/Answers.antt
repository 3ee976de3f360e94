use Rattle.std.proofs.Common.{◌++◌, ◌≤◌, inl, inr, map, Some, sym, ◌∙◌, ap, subst, arith}
use Rattle.std.specs.Prelude.{IfOk}
use Rattle.sd_apply.specs.Serving.{Serves}
use Rattle.sd_move.specs.Moves.{IsMoved}
use Rattle.sd_move.specs.OnTheWay.{IsOnTheWay}
use Rattle.sd_move.specs.Sorting.{rotation_of, place_entry, CanRotate}
use Rattle.sd_move.proofs.MoveEnd.{last_way}
use Rattle.sd_move.proofs.RotationWhole.{lower_child, can_rotate}
use Rattle.sd_move.proofs.ServesLater.{serves_later, serves_rest}
use Rattle.sd_sweep.proofs.NeverFalling.{never_same}
use Rattle.sd_move.proofs.rotating.rotate_nodes.Goals as goal

pub begin_at_both-requires-clause-child : goal.begin_at_both-requires-clause-child
begin_at_both-requires-clause-child c =
    lower_child c.args.m.now (rotation_of c.args.rotation.side) c.args.rotation.upper c.args.rotation.lower c.requires.table.numbered
    c.requires.lower

pub rotate_and_rewrite-done-requires-clause-may : goal.rotate_and_rewrite-done-requires-clause-may
rotate_and_rewrite-done-requires-clause-may c =
    let m0 = c.args.m.now in
    let m1 = c.begin_at_both.new.m in
    let side = c.args.rotation.side in
    let x = c.args.rotation.upper in
    let w = c.args.rotation.lower in
    let f = c.requires.lower in
    let us = c.in-Ok.nodes.0.items in
    let ls = c.in-Ok.nodes.1.items in
    let can = can_rotate m0 m1 side x w us ls c.requires.table c.requires.no_move f c.in-Ok.ensures.ok in
    let may = subst (λ l. CanRotate m0 m1 side x w l c.deref-in-Ok.result.now f.0.0) (sym c.deref.ensures.value)
    (subst (λ l. CanRotate m0 m1 side x w us l f.0.0) (sym c.deref-in-Ok.ensures.value) can) in
    (m0, f.0.0, may, c.requires.serves)

pub rotate_and_rewrite-done-requires-clause-entered : goal.rotate_and_rewrite-done-requires-clause-entered
rotate_and_rewrite-done-requires-clause-entered c =
    c.in-Ok.ensures.entered
    ∙ ap (λ l. l ++ map (place_entry c.args.rotation.lower) c.in-Ok.nodes.1.items) c.new-named.ensures.items
    ∙ ap (map (place_entry c.args.rotation.lower)) (sym c.deref-in-Ok.ensures.value)

pub end_or_go_back-requires-clause-way : goal.end_or_go_back-requires-clause-way
end_or_go_back-requires-clause-way c =
    let m0 = c.args.m.now in
    let m1 = c.begin_at_both.new.m in
    let side = c.args.rotation.side in
    let x = c.args.rotation.upper in
    let w = c.args.rotation.lower in
    let f = c.requires.lower in
    let us = c.in-Ok.nodes.0.items in
    let ls = c.in-Ok.nodes.1.items in
    let can = can_rotate m0 m1 side x w us ls c.requires.table c.requires.no_move f c.in-Ok.ensures.ok in
    let may = subst (λ l. CanRotate m0 m1 side x w l c.deref-in-Ok.result.now f.0.0) (sym c.deref.ensures.value)
    (subst (λ l. CanRotate m0 m1 side x w us l f.0.0) (sym c.deref-in-Ok.ensures.value) can) in
    let way = c.rotate_and_rewrite-done.ensures.way m0 f.0.0 may in
    let kind = subst
    (λ k. IsOnTheWay m0 c.rotate_and_rewrite-done.new.m k x (Some w) c.rotate_and_rewrite-done.new.named.items)
    (sym c.rotation_of.ensures) way in
    (m0, kind)

pub returns-in-Ok-clause-moved : goal.returns-in-Ok-clause-moved
returns-in-Ok-clause-moved c =
    let m0 = c.args.m.now in
    let m1 = c.begin_at_both.new.m in
    let side = c.args.rotation.side in
    let x = c.args.rotation.upper in
    let w = c.args.rotation.lower in
    let f = c.requires.lower in
    let us = c.in-Ok.nodes.0.items in
    let ls = c.in-Ok.nodes.1.items in
    let can = can_rotate m0 m1 side x w us ls c.requires.table c.requires.no_move f c.in-Ok.ensures.ok in
    let may = subst (λ l. CanRotate m0 m1 side x w l c.deref-in-Ok.result.now f.0.0) (sym c.deref.ensures.value)
    (subst (λ l. CanRotate m0 m1 side x w us l f.0.0) (sym c.deref-in-Ok.ensures.value) can) in
    let way = c.rotate_and_rewrite-done.ensures.way m0 f.0.0 may in
    let kind = subst
    (λ k. IsOnTheWay m0 c.rotate_and_rewrite-done.new.m k x (Some w) c.rotate_and_rewrite-done.new.named.items)
    (sym c.rotation_of.ensures) way in
    let last : m0.epoch ≤ 18446744073709551615 = omega (arith, c.epoch.type_inv, c.epoch.ensures.epoch) in
    subst (λ k. IfOk c.end_or_go_back.result (λ j. IsMoved m0 c.end_or_go_back.new.m k x j)) c.rotation_of.ensures
    (c.end_or_go_back.ensures.moved m0 kind c.requires.swept last)

pub returns-in-Ok-clause-back : goal.returns-in-Ok-clause-back
returns-in-Ok-clause-back c =
    let m0 = c.args.m.now in
    let m1 = c.begin_at_both.new.m in
    let side = c.args.rotation.side in
    let x = c.args.rotation.upper in
    let w = c.args.rotation.lower in
    let f = c.requires.lower in
    let us = c.in-Ok.nodes.0.items in
    let ls = c.in-Ok.nodes.1.items in
    let can = can_rotate m0 m1 side x w us ls c.requires.table c.requires.no_move f c.in-Ok.ensures.ok in
    let may = subst (λ l. CanRotate m0 m1 side x w l c.deref-in-Ok.result.now f.0.0) (sym c.deref.ensures.value)
    (subst (λ l. CanRotate m0 m1 side x w us l f.0.0) (sym c.deref-in-Ok.ensures.value) can) in
    let way = c.rotate_and_rewrite-done.ensures.way m0 f.0.0 may in
    let kind = subst
    (λ k. IsOnTheWay m0 c.rotate_and_rewrite-done.new.m k x (Some w) c.rotate_and_rewrite-done.new.named.items)
    (sym c.rotation_of.ensures) way in
    c.end_or_go_back.ensures.back m0 kind

pub returns-in-Ok-clause-bound : goal.returns-in-Ok-clause-bound
returns-in-Ok-clause-bound c =
    let m0 = c.args.m.now in
    let m1 = c.begin_at_both.new.m in
    let side = c.args.rotation.side in
    let x = c.args.rotation.upper in
    let w = c.args.rotation.lower in
    let f = c.requires.lower in
    let us = c.in-Ok.nodes.0.items in
    let ls = c.in-Ok.nodes.1.items in
    let can = can_rotate m0 m1 side x w us ls c.requires.table c.requires.no_move f c.in-Ok.ensures.ok in
    let may = subst (λ l. CanRotate m0 m1 side x w l c.deref-in-Ok.result.now f.0.0) (sym c.deref.ensures.value)
    (subst (λ l. CanRotate m0 m1 side x w us l f.0.0) (sym c.deref-in-Ok.ensures.value) can) in
    let way = c.rotate_and_rewrite-done.ensures.way m0 f.0.0 may in
    let kind = subst
    (λ k. IsOnTheWay m0 c.rotate_and_rewrite-done.new.m k x (Some w) c.rotate_and_rewrite-done.new.named.items)
    (sym c.rotation_of.ensures) way in
    c.end_or_go_back.ensures.bound m0 kind

pub returns-in-Ok-clause-unmarked : goal.returns-in-Ok-clause-unmarked
returns-in-Ok-clause-unmarked c =
    let m0 = c.args.m.now in
    let m1 = c.begin_at_both.new.m in
    let side = c.args.rotation.side in
    let x = c.args.rotation.upper in
    let w = c.args.rotation.lower in
    let f = c.requires.lower in
    let us = c.in-Ok.nodes.0.items in
    let ls = c.in-Ok.nodes.1.items in
    let can = can_rotate m0 m1 side x w us ls c.requires.table c.requires.no_move f c.in-Ok.ensures.ok in
    let may = subst (λ l. CanRotate m0 m1 side x w l c.deref-in-Ok.result.now f.0.0) (sym c.deref.ensures.value)
    (subst (λ l. CanRotate m0 m1 side x w us l f.0.0) (sym c.deref-in-Ok.ensures.value) can) in
    let way = c.rotate_and_rewrite-done.ensures.way m0 f.0.0 may in
    let kind = subst
    (λ k. IsOnTheWay m0 c.rotate_and_rewrite-done.new.m k x (Some w) c.rotate_and_rewrite-done.new.named.items)
    (sym c.rotation_of.ensures) way in
    c.end_or_go_back.ensures.unmarked m0 kind

pub returns-in-Ok-clause-serves : goal.returns-in-Ok-clause-serves
returns-in-Ok-clause-serves c =
    let m0 = c.args.m.now in
    let m1 = c.begin_at_both.new.m in
    let side = c.args.rotation.side in
    let x = c.args.rotation.upper in
    let w = c.args.rotation.lower in
    let f = c.requires.lower in
    let us = c.in-Ok.nodes.0.items in
    let ls = c.in-Ok.nodes.1.items in
    let can = can_rotate m0 m1 side x w us ls c.requires.table c.requires.no_move f c.in-Ok.ensures.ok in
    let may = subst (λ l. CanRotate m0 m1 side x w l c.deref-in-Ok.result.now f.0.0) (sym c.deref.ensures.value)
    (subst (λ l. CanRotate m0 m1 side x w us l f.0.0) (sym c.deref-in-Ok.ensures.value) can) in
    let way = c.rotate_and_rewrite-done.ensures.way m0 f.0.0 may in
    let last : m0.epoch ≤ 18446744073709551615 = omega (arith, c.epoch.type_inv, c.epoch.ensures.epoch) in
    let m2 = c.rotate_and_rewrite-done.new.m in
    let e = last_way m0 m2 (rotation_of side) x (Some w) c.rotate_and_rewrite-done.new.named.items way last in
    elim c.end_or_go_back.ensures.later [
      | inl same ↦ subst (Serves c.rotate_and_rewrite-done.new.c) (sym same)
          (serves_rest _ m2 c.rotate_and_rewrite-done.ensures.serves)
      | inr later ↦ serves_later _ m2 c.end_or_go_back.new.m e later c.rotate_and_rewrite-done.ensures.serves
    ]

pub returns-in-Ok-clause-never_falls : goal.returns-in-Ok-clause-never_falls
returns-in-Ok-clause-never_falls c =
    let m0 = c.args.m.now in
    let m1 = c.begin_at_both.new.m in
    let side = c.args.rotation.side in
    let x = c.args.rotation.upper in
    let w = c.args.rotation.lower in
    let f = c.requires.lower in
    let us = c.in-Ok.nodes.0.items in
    let ls = c.in-Ok.nodes.1.items in
    let can = can_rotate m0 m1 side x w us ls c.requires.table c.requires.no_move f c.in-Ok.ensures.ok in
    let may = subst (λ l. CanRotate m0 m1 side x w l c.deref-in-Ok.result.now f.0.0) (sym c.deref.ensures.value)
    (subst (λ l. CanRotate m0 m1 side x w us l f.0.0) (sym c.deref-in-Ok.ensures.value) can) in
    let way = c.rotate_and_rewrite-done.ensures.way m0 f.0.0 may in
    let kind = subst
    (λ k. IsOnTheWay m0 c.rotate_and_rewrite-done.new.m k x (Some w) c.rotate_and_rewrite-done.new.named.items)
    (sym c.rotation_of.ensures) way in
    let last : m0.epoch ≤ 18446744073709551615 = omega (arith, c.epoch.type_inv, c.epoch.ensures.epoch) in
    c.end_or_go_back.ensures.never_falls m0 kind last

pub returns-in-Err-clause-never_falls : goal.returns-in-Err-clause-never_falls
returns-in-Err-clause-never_falls c = never_same c.args.m.now c.begin_at_both.new.m c.in-Err.ensures.err

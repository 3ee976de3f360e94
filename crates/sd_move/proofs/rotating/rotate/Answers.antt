use Rattle.std.proofs.Common.{◌≤◌, inl, inr, refl, sym, subst, arith, ◌∙◌}
use Rattle.sd_apply.specs.Serving.{Serves}
use Rattle.sd_manager.proofs.Extending.{extends_self}
use Rattle.sd_sweep.proofs.Keeping.{keeps_both, keeps_extended, keeps_swept, unmarked_swept}
use Rattle.sd_move.specs.Sorting.{rotation_of}
use Rattle.sd_move.proofs.AfterSweep.{moved_swept}
use Rattle.sd_move.proofs.RotationWhole.{lower_same}
use Rattle.sd_move.proofs.ServesLater.{serves_later, serves_swept}
use Rattle.sd_move.proofs.SwapWhole.{refusal_on_way}
use Rattle.sd_sweep.proofs.NeverFalling.{never_both, never_same, never_swept}
use Rattle.sd_move.proofs.rotating.rotate.Goals as goal

pub rotate_nodes-requires-clause-lower : goal.rotate_nodes-requires-clause-lower
rotate_nodes-requires-clause-lower c =
    lower_same c.args.m.now c.sweep.new.m (rotation_of c.args.side) c.args.place c.in-Some.lower
    c.sweep.ensures.swept.vtree c.in-Some.ensures.found

pub rotate_nodes-requires-clause-serves : goal.rotate_nodes-requires-clause-serves
rotate_nodes-requires-clause-serves c =
    let old = c.args.m.now in
    let last : old.epoch ≤ 18446744073709551615 = omega (arith, c.epoch.type_inv, c.epoch.ensures.epoch) in
    serves_swept _ old c.sweep.new.m last c.sweep.ensures.swept c.requires.serves

pub within-requires-clause-unmarked : goal.within-requires-clause-unmarked
within-requires-clause-unmarked c =
    c.rotate_nodes.ensures.unmarked
    (unmarked_swept c.args.m.now c.sweep.new.m c.sweep.ensures.swept c.requires.unmarked)

pub returns-in-Ok-clause-moved : goal.returns-in-Ok-clause-moved
returns-in-Ok-clause-moved c =
    let old = c.args.m.now in
    let t = c.epoch.ensures.table in
    let last : old.epoch ≤ 18446744073709551615 = omega (arith, c.epoch.type_inv, c.epoch.ensures.epoch) in
    let m = moved_swept old c.sweep.new.m c.rotate_nodes.new.m (rotation_of c.args.side) c.args.place _ last
    c.sweep.ensures.swept c.in-Ok.ensures.moved in
    c.within.ensures.moved old (rotation_of c.args.side) c.args.place m

pub returns-in-Ok-clause-size : goal.returns-in-Ok-clause-size
returns-in-Ok-clause-size c =
    let old = c.args.m.now in
    let t = c.epoch.ensures.table in
    let last : old.epoch ≤ 18446744073709551615 = omega (arith, c.epoch.type_inv, c.epoch.ensures.epoch) in
    let m = moved_swept old c.sweep.new.m c.rotate_nodes.new.m (rotation_of c.args.side) c.args.place _ last
    c.sweep.ensures.swept c.in-Ok.ensures.moved in
    c.within.ensures.size old (rotation_of c.args.side) c.args.place t c.requires.no_move m

pub returns-in-Ok-clause-refused : goal.returns-in-Ok-clause-refused
returns-in-Ok-clause-refused c =
    let old = c.args.m.now in
    let t = c.epoch.ensures.table in
    let last : old.epoch ≤ 18446744073709551615 = omega (arith, c.epoch.type_inv, c.epoch.ensures.epoch) in
    let m = moved_swept old c.sweep.new.m c.rotate_nodes.new.m (rotation_of c.args.side) c.args.place _ last
    c.sweep.ensures.swept c.in-Ok.ensures.moved in
    c.within.ensures.refused old (rotation_of c.args.side) c.args.place t c.requires.no_move m

pub returns-in-Ok-clause-back : goal.returns-in-Ok-clause-back
returns-in-Ok-clause-back c =
    let old = c.args.m.now in
    let t = c.epoch.ensures.table in
    let last : old.epoch ≤ 18446744073709551615 = omega (arith, c.epoch.type_inv, c.epoch.ensures.epoch) in
    let m = moved_swept old c.sweep.new.m c.rotate_nodes.new.m (rotation_of c.args.side) c.args.place _ last
    c.sweep.ensures.swept c.in-Ok.ensures.moved in
    c.within.ensures.back old (rotation_of c.args.side) c.args.place t m

pub returns-in-Ok-clause-serves : goal.returns-in-Ok-clause-serves
returns-in-Ok-clause-serves c =
    let n = c.rotate_nodes.new.m in
    let last : n.epoch ≤ 18446744073709551615 =
    omega (arith, c.epoch-in-Ok.type_inv, c.epoch-in-Ok.ensures.epoch) in
    elim c.within.ensures.later [
      | inl same ↦ subst (Serves c.rotate_nodes.new.c) (sym same) c.rotate_nodes.ensures.serves
      | inr later ↦ serves_later _ n c.within.new.m last later c.rotate_nodes.ensures.serves
    ]

pub returns-in-Err-clause-refused : goal.returns-in-Err-clause-refused
returns-in-Err-clause-refused c =
    refusal_on_way c.args.m.now c.rotate_nodes.new.m (rotation_of c.args.side) c.args.place c.args.most _
    c.in-Some.ensures.found.0 c.in-Err.ensures.refused

pub returns-in-Ok-clause-bound : goal.returns-in-Ok-clause-bound
returns-in-Ok-clause-bound c =
    c.within.ensures.bound ∙ c.rotate_nodes.ensures.bound ∙ c.sweep.ensures.swept.bound

pub returns-in-Err-clause-bound : goal.returns-in-Err-clause-bound
returns-in-Err-clause-bound c = c.rotate_nodes.ensures.bound ∙ c.sweep.ensures.swept.bound

pub returns-in-Ok-clause-never_falls : goal.returns-in-Ok-clause-never_falls
returns-in-Ok-clause-never_falls c =
    let old = c.args.m.now in
    let last : old.epoch ≤ 18446744073709551615 = omega (arith, c.epoch.type_inv, c.epoch.ensures.epoch) in
    let m = moved_swept old c.sweep.new.m c.rotate_nodes.new.m (rotation_of c.args.side) c.args.place _ last
    c.sweep.ensures.swept
    c.in-Ok.ensures.moved in
    c.within.ensures.never_falls old (rotation_of c.args.side) c.args.place last m

pub returns-in-Err-clause-never_falls : goal.returns-in-Err-clause-never_falls
returns-in-Err-clause-never_falls c =
    let old = c.args.m.now in
    let last : old.epoch ≤ 18446744073709551615 = omega (arith, c.epoch.type_inv, c.epoch.ensures.epoch) in
    never_both old c.sweep.new.m c.rotate_nodes.new.m (never_swept old c.sweep.new.m last c.sweep.ensures.swept)
    c.in-Err.ensures.never_falls

pub returns-in_default-clause-back : goal.returns-in_default-clause-back
returns-in_default-clause-back c =
    let old = c.args.m.now in (keeps_extended old old (extends_self old), c.requires.no_move)

pub returns-in_default-clause-never_falls : goal.returns-in_default-clause-never_falls
returns-in_default-clause-never_falls c = never_same c.args.m.now c.args.m.now refl

pub returns-in-Err-clause-back : goal.returns-in-Err-clause-back
returns-in-Err-clause-back c = (
  keeps_both c.args.m.now c.sweep.new.m c.rotate_nodes.new.m
      (keeps_swept c.args.m.now c.sweep.new.m c.sweep.ensures.swept) c.in-Err.ensures.back.0,
  c.in-Err.ensures.back.1,
)

pub returns-in-Err-clause-unmarked : goal.returns-in-Err-clause-unmarked
returns-in-Err-clause-unmarked c =
    c.rotate_nodes.ensures.unmarked
    (unmarked_swept c.args.m.now c.sweep.new.m c.sweep.ensures.swept c.requires.unmarked)

use Rattle.std.proofs.Common.{◌≡◌, ◌≤◌, ◌<◌, inl, inr, None, length, refl, sym, ◌∙◌, ap, subst, arith}
use Rattle.std.specs.Option.{IsSome}
use Rattle.sd_model.specs.declared.trees.Move.TheVariants.{Swap}
use Rattle.sd_vtree.specs.Numbered.{Numbered, numbers, children_at}
use Rattle.sd_vtree.specs.NumberedMoves.{moved_number}
use Rattle.sd_vtree.proofs.Movable.{leaf_not_movable}
use Rattle.sd_manager.proofs.Extending.{extends_self}
use Rattle.sd_apply.specs.Serving.{Serves}
use Rattle.sd_move.proofs.AfterSweep.{moved_swept}
use Rattle.sd_move.proofs.ServesLater.{serves_later, serves_swept}
use Rattle.sd_move.proofs.SwapWhole.{swap_movable, refusal_on_way}
use Rattle.sd_sweep.proofs.Keeping.{keeps_both, keeps_extended, keeps_swept, unmarked_swept}
use Rattle.sd_sweep.proofs.NeverFalling.{never_both, never_same, never_swept}
use Rattle.sd_move.proofs.swapping.swap.Goals as goal

pub returns-in_default-clause-refused : goal.returns-in_default-clause-refused
returns-in_default-clause-refused c =
    let is = c.vtree.ensures.vtree in
    subst (λ (v : Numbered). moved_number Swap v c.args.place ≡ None) is
    (leaf_not_movable Swap c.vtree.result.now c.args.place c.children.ensures.numbered
    (subst (λ (v : Numbered). c.args.place < length (numbers v)) (sym is) c.requires.place)
    c.in_default.ensures.children)

pub swap_nodes-requires-clause-movable : goal.swap_nodes-requires-clause-movable
swap_nodes-requires-clause-movable c =
    let some = subst (λ (v : Numbered). IsSome (children_at v c.args.place)) c.vtree.ensures.vtree
    (subst IsSome c.in-Some.ensures.children refl) in
    let can = swap_movable c.args.m.now c.args.place c.epoch.ensures.table.numbered some in
    (can.0, ap (λ (v : Numbered). moved_number Swap v c.args.place) c.sweep.ensures.swept.vtree ∙ can.1)

pub swap_nodes-requires-clause-serves : goal.swap_nodes-requires-clause-serves
swap_nodes-requires-clause-serves c =
    let old = c.args.m.now in
    let t = c.epoch.ensures.table in
    let last : old.epoch ≤ 18446744073709551615 = omega (arith, c.epoch.type_inv, c.epoch.ensures.epoch) in
    serves_swept _ old c.sweep.new.m last c.sweep.ensures.swept c.requires.serves

pub returns-in-Ok-clause-moved : goal.returns-in-Ok-clause-moved
returns-in-Ok-clause-moved c =
    let old = c.args.m.now in
    let t = c.epoch.ensures.table in
    let last : old.epoch ≤ 18446744073709551615 = omega (arith, c.epoch.type_inv, c.epoch.ensures.epoch) in
    let m = moved_swept old c.sweep.new.m c.swap_nodes.new.m Swap c.args.place _ last c.sweep.ensures.swept
    c.in-Ok.ensures.moved in
    c.within.ensures.moved old Swap c.args.place m

pub returns-in-Ok-clause-size : goal.returns-in-Ok-clause-size
returns-in-Ok-clause-size c =
    let old = c.args.m.now in
    let t = c.epoch.ensures.table in
    let last : old.epoch ≤ 18446744073709551615 = omega (arith, c.epoch.type_inv, c.epoch.ensures.epoch) in
    let m = moved_swept old c.sweep.new.m c.swap_nodes.new.m Swap c.args.place _ last c.sweep.ensures.swept
    c.in-Ok.ensures.moved in
    c.within.ensures.size old Swap c.args.place t c.requires.no_move m

pub returns-in-Ok-clause-refused : goal.returns-in-Ok-clause-refused
returns-in-Ok-clause-refused c =
    let old = c.args.m.now in
    let t = c.epoch.ensures.table in
    let last : old.epoch ≤ 18446744073709551615 = omega (arith, c.epoch.type_inv, c.epoch.ensures.epoch) in
    let m = moved_swept old c.sweep.new.m c.swap_nodes.new.m Swap c.args.place _ last c.sweep.ensures.swept
    c.in-Ok.ensures.moved in
    c.within.ensures.refused old Swap c.args.place t c.requires.no_move m

pub returns-in-Ok-clause-back : goal.returns-in-Ok-clause-back
returns-in-Ok-clause-back c =
    let old = c.args.m.now in
    let t = c.epoch.ensures.table in
    let last : old.epoch ≤ 18446744073709551615 = omega (arith, c.epoch.type_inv, c.epoch.ensures.epoch) in
    let m = moved_swept old c.sweep.new.m c.swap_nodes.new.m Swap c.args.place _ last c.sweep.ensures.swept
    c.in-Ok.ensures.moved in
    c.within.ensures.back old Swap c.args.place t m

pub returns-in-Ok-clause-bound : goal.returns-in-Ok-clause-bound
returns-in-Ok-clause-bound c =
    c.within.ensures.bound ∙ c.swap_nodes.ensures.bound ∙ c.sweep.ensures.swept.bound

pub returns-in-Err-clause-bound : goal.returns-in-Err-clause-bound
returns-in-Err-clause-bound c = c.swap_nodes.ensures.bound ∙ c.sweep.ensures.swept.bound

pub returns-in-Ok-clause-serves : goal.returns-in-Ok-clause-serves
returns-in-Ok-clause-serves c =
    let n = c.swap_nodes.new.m in
    let last : n.epoch ≤ 18446744073709551615 =
    omega (arith, c.epoch-in-Ok.type_inv, c.epoch-in-Ok.ensures.epoch) in
    elim c.within.ensures.later [
      | inl same ↦ subst (Serves c.swap_nodes.new.c) (sym same) c.swap_nodes.ensures.serves
      | inr later ↦ serves_later _ n c.within.new.m last later c.swap_nodes.ensures.serves
    ]

pub returns-in-Err-clause-refused : goal.returns-in-Err-clause-refused
returns-in-Err-clause-refused c =
    let some = subst (λ (v : Numbered). IsSome (children_at v c.args.place)) c.vtree.ensures.vtree
    (subst IsSome c.in-Some.ensures.children refl) in
    let can = swap_movable c.args.m.now c.args.place c.epoch.ensures.table.numbered some in
    refusal_on_way c.args.m.now c.swap_nodes.new.m Swap c.args.place c.args.most _ can c.in-Err.ensures.refused

pub returns-in-Ok-clause-never_falls : goal.returns-in-Ok-clause-never_falls
returns-in-Ok-clause-never_falls c =
    let old = c.args.m.now in
    let last : old.epoch ≤ 18446744073709551615 = omega (arith, c.epoch.type_inv, c.epoch.ensures.epoch) in
    let m = moved_swept old c.sweep.new.m c.swap_nodes.new.m Swap c.args.place _ last c.sweep.ensures.swept
    c.in-Ok.ensures.moved in
    c.within.ensures.never_falls old Swap c.args.place last m

pub returns-in-Err-clause-never_falls : goal.returns-in-Err-clause-never_falls
returns-in-Err-clause-never_falls c =
    let old = c.args.m.now in
    let last : old.epoch ≤ 18446744073709551615 = omega (arith, c.epoch.type_inv, c.epoch.ensures.epoch) in
    never_both old c.sweep.new.m c.swap_nodes.new.m (never_swept old c.sweep.new.m last c.sweep.ensures.swept)
    c.in-Err.ensures.never_falls

pub returns-in_default-clause-back : goal.returns-in_default-clause-back
returns-in_default-clause-back c =
    let old = c.args.m.now in (keeps_extended old old (extends_self old), c.requires.no_move)

pub returns-in_default-clause-never_falls : goal.returns-in_default-clause-never_falls
returns-in_default-clause-never_falls c = never_same c.args.m.now c.args.m.now refl

pub returns-in-Err-clause-back : goal.returns-in-Err-clause-back
returns-in-Err-clause-back c = (
  keeps_both c.args.m.now c.sweep.new.m c.swap_nodes.new.m
      (keeps_swept c.args.m.now c.sweep.new.m c.sweep.ensures.swept) c.in-Err.ensures.back.0,
  c.in-Err.ensures.back.1,
)

pub returns-in-Err-clause-unmarked : goal.returns-in-Err-clause-unmarked
returns-in-Err-clause-unmarked c =
    c.swap_nodes.ensures.unmarked
    (unmarked_swept c.args.m.now c.sweep.new.m c.sweep.ensures.swept c.requires.unmarked)

pub within-requires-clause-unmarked : goal.within-requires-clause-unmarked
within-requires-clause-unmarked c =
    c.swap_nodes.ensures.unmarked
    (unmarked_swept c.args.m.now c.sweep.new.m c.sweep.ensures.swept c.requires.unmarked)

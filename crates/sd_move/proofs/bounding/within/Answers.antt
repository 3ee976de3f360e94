use Rattle.std.proofs.Common.{refl, subst, arith}
use Rattle.sd_manager.specs.Table.{Table}
use Rattle.sd_manager.specs.Valid.{IsTable}
use Rattle.sd_move.specs.Journal.{Rollback}
use Rattle.sd_move.proofs.AfterSweep.{size_after}
use Rattle.sd_move.proofs.SwapWhole.{back_again}
use Rattle.sd_move.proofs.NeverFalling.{never_undone}
use Rattle.sd_move.proofs.bounding.within.Goals as goal

pub returns-then-size-most-clause-refused : goal.returns-then-size-most-clause-refused
returns-then-size-most-clause-refused c old kind place t still m =
    let now = c.args.m.now in
    let u = subst IsTable c.size-size.ensures.same c.size-size.ensures.table in (
      refl,
      omega (arith, c.if-size-most.true),
      size_after old now kind place c.args.journal t u m still c.size-size.result c.size-size.ensures.size,
    )

pub returns-then-size-most-clause-back : goal.returns-then-size-most-clause-back
returns-then-size-most-clause-back c old kind place t m =
    let now = c.args.m.now in
    let u = subst IsTable c.size-size.ensures.same c.size-size.ensures.table in
    let r = subst (λ (s : Table). Rollback c.args.journal s c.undo.new.m) c.size-size.ensures.same
    c.undo.ensures.undone in
    (back_again old now c.undo.new.m kind place c.args.journal t u m r, r.moving)

pub returns-clause-size : goal.returns-clause-size
returns-clause-size c old kind place t still m =
    let now = c.args.m.now in
    let u = subst IsTable c.size-size.ensures.same c.size-size.ensures.table in
    size_after old now kind place c.args.journal t u m still c.size-size.result c.size-size.ensures.size

pub returns-then-size-most-clause-never_falls : goal.returns-then-size-most-clause-never_falls
returns-then-size-most-clause-never_falls c old kind place last m =
    let now = c.args.m.now in
    let r = subst (λ (s : Table). Rollback c.args.journal s c.undo.new.m) c.size-size.ensures.same
    c.undo.ensures.undone in
    never_undone old now c.undo.new.m kind place c.args.journal last m r

use Rattle.std.proofs.Common.{◌≤◌, ◌<◌, length, subst, sym, arith}
use Rattle.sd_vtree.specs.Numbered.{numbers}
use Rattle.sd_move.specs.Journal.{Journal, CanUndo, Rollback}
use Rattle.sd_move.proofs.UndoBack.{way_of, upper_there, undo_swept, may_go_back, undone_so, undone_unmarked}
use Rattle.sd_move.proofs.UndoneFunctions.{undone_function}
use Rattle.sd_move.proofs.undone.undo.Goals as goal

pub begin_move-requires-clause-place : goal.begin_move-requires-clause-place
begin_move-requires-clause-place c =
    let s = c.sweep.new.m in
    subst (λ (j : Journal). j.upper < length (numbers s.vtree)) (sym c.journal.view_is)
    (upper_there c.args.journal s c.sweep.ensures.table
    (undo_swept c.args.journal c.args.m.now s c.epoch.ensures.table c.requires.can_undo c.sweep.ensures.swept))

pub go_back-requires-clause-can : goal.go_back-requires-clause-can
go_back-requires-clause-can c =
    let t = c.args.m.now in
    let s = c.sweep.new.m in
    let k = c.journal.inside in
    let j : Journal = record { kind = k.kind; upper = k.upper; lower = k.lower; named = k.named.items } in
    let can : CanUndo j t = subst (λ (j : Journal). CanUndo j t) (sym c.journal.view_is) c.requires.can_undo in (
      way_of j s,
      may_go_back j t s c.begin_move.new.self c.inverse_of.result c.deref.result.now c.epoch.ensures.table
          c.sweep.ensures.table can c.sweep.ensures.swept c.sweep.ensures.unused c.begin_move.ensures.begun
          c.inverse_of.ensures.inverse c.deref.ensures.value,
    )

pub returns-clause-undone : goal.returns-clause-undone
returns-clause-undone c =
    let t = c.args.m.now in
    let s = c.sweep.new.m in
    let k = c.journal.inside in
    let j : Journal = record { kind = k.kind; upper = k.upper; lower = k.lower; named = k.named.items } in
    let can : CanUndo j t = subst (λ (j : Journal). CanUndo j t) (sym c.journal.view_is) c.requires.can_undo in
    let most : t.epoch ≤ 18446744073709551615 = omega (arith, c.epoch.type_inv, c.epoch.ensures.epoch) in
    subst (λ (j : Journal). Rollback j t c.go_back.new.m) c.journal.view_is
    (undone_so j t s c.begin_move.new.self c.inverse_of.result c.deref.result.now c.epoch.ensures.table
    c.sweep.ensures.table can c.sweep.ensures.swept c.sweep.ensures.unused c.begin_move.ensures.begun
    c.inverse_of.ensures.inverse c.deref.ensures.value c.go_back.new.m most
    (c.go_back.ensures.back (way_of j s)
    (may_go_back j t s c.begin_move.new.self c.inverse_of.result c.deref.result.now c.epoch.ensures.table
    c.sweep.ensures.table can c.sweep.ensures.swept c.sweep.ensures.unused c.begin_move.ensures.begun
    c.inverse_of.ensures.inverse c.deref.ensures.value)))

pub returns-clause-functions : goal.returns-clause-functions
returns-clause-functions c n h =
    undone_function c.args.journal c.args.m.now c.go_back.new.m c.requires.can_undo (returns-clause-undone c) n h

pub returns-clause-unmarked : goal.returns-clause-unmarked
returns-clause-unmarked c =
    let t = c.args.m.now in
    let s = c.sweep.new.m in
    let k = c.journal.inside in
    let j : Journal = record { kind = k.kind; upper = k.upper; lower = k.lower; named = k.named.items } in
    let can : CanUndo j t = subst (λ (j : Journal). CanUndo j t) (sym c.journal.view_is) c.requires.can_undo in
    undone_unmarked j t s c.begin_move.new.self c.inverse_of.result c.deref.result.now c.epoch.ensures.table
    c.sweep.ensures.table can c.sweep.ensures.swept c.sweep.ensures.unused c.begin_move.ensures.begun
    c.inverse_of.ensures.inverse c.deref.ensures.value c.go_back.new.m c.go_back.ensures.table
    (c.go_back.ensures.back (way_of j s)
    (may_go_back j t s c.begin_move.new.self c.inverse_of.result c.deref.result.now c.epoch.ensures.table
    c.sweep.ensures.table can c.sweep.ensures.swept c.sweep.ensures.unused c.begin_move.ensures.begun
    c.inverse_of.ensures.inverse c.deref.ensures.value))

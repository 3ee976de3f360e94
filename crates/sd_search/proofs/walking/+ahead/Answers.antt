use Rattle.std.proofs.Common.{map, sym, ap, refl, arith}
use Rattle.sd_search.specs.Walking.{move_of}
use Rattle.sd_vtree.specs.Numbered.{plain_tree}
use Rattle.sd_search.proofs.AlongPaths.{along_same, along_at}
use Rattle.sd_search.proofs.KeptRoots.{kept_itself, kept_reached}
use Rattle.sd_search.proofs.AlongPaths.{place_along}
use Rattle.sd_search.proofs.StepsAhead.{no_moves, ahead_none}
use Rattle.sd_search.proofs.StepsAhead.{ahead_refused}
use Rattle.sd_search.proofs.StepsAhead.{stop_rule, can_go_on, lesser_of}
use Rattle.sd_search.proofs.Journals.{along_reached, can_settle, settled_kept, undone_reached, undone_kept, undoable}
use Rattle.sd_search.proofs.Journals.{serves_runs, serves_undone}
use Rattle.sd_search.proofs.AfterStep.{along_settled, unmarked_settled, rule_back, found_some, found_none, back_then}
use Rattle.sd_sweep.proofs.NeverFalling.{never_same, never_both}
use Rattle.sd_move.proofs.NeverFalling.{never_back_from, never_settled}
use Rattle.sd_search.proofs.walking.+ahead.Goals as goal

pub returns-in_default-clause-ahead : goal.returns-in_default-clause-ahead
returns-in_default-clause-ahead t c fs path bound held at capped =
    ahead_none fs bound (plain_tree c.args.m.now.vtree) (plain_tree c.args.m.now.vtree) path
    (map move_of c.args.steps.now) c.args.least
    (no_moves c.args.steps.now c.in_default.ensures.cases)

pub returns-in_default-clause-along : goal.returns-in_default-clause-along
returns-in_default-clause-along t c path at = along_same c.args.m.now.vtree path c.args.place at

pub returns-in_default-clause-none : goal.returns-in_default-clause-none
returns-in_default-clause-none t c =
    record { vtree = refl; nodes = λ n k r e. e; roots = refl; loose = refl }

pub returns-in_default-clause-kept : goal.returns-in_default-clause-kept
returns-in_default-clause-kept t c = kept_itself c.args.m.now c.requires.table c.requires.no_move

pub returns-in-Some-stop_of-clause-along : goal.returns-in-Some-stop_of-clause-along
returns-in-Some-stop_of-clause-along t c path at =
    along_reached c.args.m.now c.make.new.m path c.args.place c.in-Err.ensures.back.0 at

pub returns-in-Some-stop_of-clause-back : goal.returns-in-Some-stop_of-clause-back
returns-in-Some-stop_of-clause-back t c =
    c.in-Err.ensures.back.0

pub returns-in-Some-stop_of-clause-kept : goal.returns-in-Some-stop_of-clause-kept
returns-in-Some-stop_of-clause-kept t c =
    kept_reached c.args.m.now c.make.new.m c.requires.table c.requires.no_move c.in-Err.ensures.back.0
    c.make.ensures.bound c.in-Err.ensures.back.1

pub returns-in-Some-stop_of-clause-refused : goal.returns-in-Some-stop_of-clause-refused
returns-in-Some-stop_of-clause-refused t c =
    stop_rule c.args.m.now c.make.new.m c.args.place c.args.most (move_of c.in-Some.step.now) c.in-Err.error
    c.in-Some-stop_of.stop (sym c.in-Some-stop_of.ensures.stop) c.in-Err.ensures.refused

pub returns-in-None-clause-ahead : goal.returns-in-None-clause-ahead
returns-in-None-clause-ahead t c fs path bound held at capped =
    ahead_refused fs bound c.args.m.now c.make.new.m (plain_tree c.make.new.m.vtree) path c.args.place c.args.most
    c.args.least
    c.in-Some.step.now (map move_of c.args.steps.now) (map move_of c.in-Some.others.now)
    c.in-Err.error (ap (map move_of) c.in-Some.ensures.cases.0) at
    c.requires.possible (sym c.in-None.ensures.stop) c.stop_of.ensures.small c.in-Err.ensures.refused held capped

pub returns-in-None-clause-along : goal.returns-in-None-clause-along
returns-in-None-clause-along t c path at =
    along_reached c.args.m.now c.make.new.m path c.args.place c.in-Err.ensures.back.0 at

pub returns-in-None-clause-none : goal.returns-in-None-clause-none
returns-in-None-clause-none t c =
    c.in-Err.ensures.back.0

pub returns-in-None-clause-kept : goal.returns-in-None-clause-kept
returns-in-None-clause-kept t c =
    kept_reached c.args.m.now c.make.new.m c.requires.table c.requires.no_move c.in-Err.ensures.back.0
    c.make.ensures.bound c.in-Err.ensures.back.1

pub ahead-found-requires : goal.ahead-found-requires
ahead-found-requires t c =
    let p = c.requires.possible in
    let s = c.in-Ok.ensures.stepped in (
      omega (arith, c.decreases, c.in-Some.ensures.cases.1),
      (
        s.is.no_move,
        (
          place_along c.args.m.now.vtree c.make.new.m.vtree p.path c.args.place (s.along p.path p.here)
              c.requires.place,
          (
            can_go_on c.args.m.now.vtree c.make.new.m.vtree c.args.place (move_of c.in-Some.step.now)
                (map move_of c.args.steps.now) (map move_of c.in-Some.others.now)
                (ap (map move_of) c.in-Some.ensures.cases.0) p
                s.led s.along,
            (c.make.ensures.unmarked, (c.make.ensures.serves, c.make.ensures.table)),
          ),
        ),
      ),
    )

pub settle-requires : goal.settle-requires
settle-requires t c =
    record {
      runs = can_settle c.in-Ok.moved.journal c.make.new.m c.ahead-found.new.m
          c.in-Ok.ensures.stepped.is.can_undo c.ahead-found.ensures.kept.loose;
    }

pub undo-requires : goal.undo-requires
undo-requires t c =
    record {
      can_undo = undoable c.args.m.now c.make.new.m c.ahead-found.new.m c.ahead-found.new.m (move_of c.in-Some.step.now)
          c.args.place c.in-Ok.moved.journal
          c.requires.table c.make.ensures.table c.requires.no_move c.in-Ok.ensures.stepped
          c.ahead-found.ensures.kept (back_then c.make.new.m c.ahead-found.new.m c.in-Ok-found.later
          c.in-Ok.moved.size c.args.least c.in-None-best.ensures.best
          c.in-Ok-found.ensures.none);
    }

pub undo-requires-in-Err-found : goal.undo-requires-in-Err-found
undo-requires-in-Err-found t c =
    record {
      can_undo = undoable c.args.m.now c.make.new.m c.ahead-found.new.m c.ahead-found.new.m (move_of c.in-Some.step.now)
          c.args.place c.in-Ok.moved.journal
          c.requires.table c.make.ensures.table c.requires.no_move c.in-Ok.ensures.stepped
          c.ahead-found.ensures.kept c.in-Err-found.ensures.back;
    }

pub returns-in-Some-best-clause-ahead : goal.returns-in-Some-best-clause-ahead
returns-in-Some-best-clause-ahead t c fs path bound held at capped =
    let lesser = lesser_of c.in-Ok.moved.size c.args.least c.min-so_far.result c.min-so_far.ensures in
    found_some c.args.m.now c.make.new.m c.ahead-found.new.m c.settle.new.m c.in-Some.step.now c.args.place c.args.most
    c.args.least
    c.in-Ok.moved.size c.min-so_far.result c.in-Ok.moved.journal (map move_of c.args.steps.now)
    (map move_of c.in-Some.others.now) c.in-Ok-found.later c.requires.table c.make.ensures.table
    c.requires.no_move c.in-Ok.ensures.stepped (ap (map move_of) c.in-Some.ensures.cases.0)
    c.in-Ok.ensures.sized c.in-Ok.ensures.within
    lesser.0 lesser.1 lesser.2 c.in-Ok-found.ensures.ahead
    c.in-Ok-found.ensures.none
    c.in-Some-best.best c.in-Some-best.ensures.best c.settle.ensures.settled fs path bound held at capped

pub returns-in-Some-best-clause-along : goal.returns-in-Some-best-clause-along
returns-in-Some-best-clause-along t c path at =
    let s = c.in-Ok.ensures.stepped in
    along_settled c.args.m.now c.make.new.m c.ahead-found.new.m c.settle.new.m path c.in-Ok.moved.journal
    c.settle.ensures.settled
    (s.along path at)
    (c.ahead-found.ensures.along path
    (along_at c.args.m.now.vtree c.make.new.m.vtree path c.args.place (s.along path at) at))

pub returns-in-Some-best-clause-kept : goal.returns-in-Some-best-clause-kept
returns-in-Some-best-clause-kept t c =
    settled_kept c.args.m.now c.make.new.m c.ahead-found.new.m c.settle.new.m (move_of c.in-Some.step.now) c.args.place
    c.in-Ok.moved.journal
    c.requires.table c.make.ensures.table c.requires.no_move c.in-Ok.ensures.stepped
    c.ahead-found.ensures.kept c.settle.ensures.settled

pub returns-in-Some-best-clause-unmarked : goal.returns-in-Some-best-clause-unmarked
returns-in-Some-best-clause-unmarked t c =
    unmarked_settled c.ahead-found.new.m c.settle.new.m c.in-Ok.moved.journal c.settle.ensures.settled
    c.ahead-found.ensures.unmarked

pub returns-in-Some-best-clause-serves : goal.returns-in-Some-best-clause-serves
returns-in-Some-best-clause-serves t c =
    serves_runs c.ahead-found.new.c c.ahead-found.new.m c.settle.new.m _ _ c.settle.ensures.settled.same
    c.ahead-found.ensures.serves

pub returns-in-None-best-clause-ahead : goal.returns-in-None-best-clause-ahead
returns-in-None-best-clause-ahead t c fs path bound held at capped =
    let lesser = lesser_of c.in-Ok.moved.size c.args.least c.min-so_far.result c.min-so_far.ensures in
    found_none c.args.m.now c.make.new.m c.ahead-found.new.m c.undo.new.m c.in-Some.step.now c.args.place c.args.most
    c.args.least
    c.in-Ok.moved.size c.min-so_far.result c.in-Ok.moved.journal (map move_of c.args.steps.now)
    (map move_of c.in-Some.others.now) c.in-Ok-found.later c.requires.table c.make.ensures.table
    c.requires.no_move c.in-Ok.ensures.stepped (ap (map move_of) c.in-Some.ensures.cases.0)
    c.in-Ok.ensures.sized c.in-Ok.ensures.within
    lesser.0 lesser.1 lesser.2 c.in-Ok-found.ensures.ahead
    c.in-Ok-found.ensures.none
    c.in-None-best.ensures.best fs path bound held at capped

pub returns-in-None-best-clause-none : goal.returns-in-None-best-clause-none
returns-in-None-best-clause-none t c =
    undone_reached c.args.m.now c.make.new.m c.ahead-found.new.m c.undo.new.m (move_of c.in-Some.step.now) c.args.place
    c.in-Ok.moved.journal
    c.requires.table c.make.ensures.table c.requires.no_move c.in-Ok.ensures.stepped
    (back_then c.make.new.m c.ahead-found.new.m c.in-Ok-found.later c.in-Ok.moved.size c.args.least
    c.in-None-best.ensures.best
    c.in-Ok-found.ensures.none) c.undo.ensures.undone

pub returns-in-None-best-clause-along : goal.returns-in-None-best-clause-along
returns-in-None-best-clause-along t c path at =
    along_reached c.args.m.now c.undo.new.m path c.args.place
    (undone_reached c.args.m.now c.make.new.m c.ahead-found.new.m c.undo.new.m (move_of c.in-Some.step.now) c.args.place
    c.in-Ok.moved.journal
    c.requires.table c.make.ensures.table c.requires.no_move c.in-Ok.ensures.stepped
    (back_then c.make.new.m c.ahead-found.new.m c.in-Ok-found.later c.in-Ok.moved.size c.args.least
    c.in-None-best.ensures.best
    c.in-Ok-found.ensures.none) c.undo.ensures.undone) at

pub returns-in-None-best-clause-kept : goal.returns-in-None-best-clause-kept
returns-in-None-best-clause-kept t c =
    undone_kept c.args.m.now c.make.new.m c.ahead-found.new.m c.undo.new.m (move_of c.in-Some.step.now) c.args.place
    c.in-Ok.moved.journal
    c.requires.table c.make.ensures.table c.requires.no_move c.in-Ok.ensures.stepped
    c.ahead-found.ensures.kept (back_then c.make.new.m c.ahead-found.new.m c.in-Ok-found.later c.in-Ok.moved.size
    c.args.least c.in-None-best.ensures.best
    c.in-Ok-found.ensures.none) c.undo.ensures.undone

pub returns-in-None-best-clause-serves : goal.returns-in-None-best-clause-serves
returns-in-None-best-clause-serves t c =
    serves_undone c.ahead-found.new.c c.in-Ok.moved.journal c.ahead-found.new.m c.undo.new.m
    (omega (arith, c.epoch.type_inv, c.epoch.ensures.epoch)) c.undo.ensures.undone c.ahead-found.ensures.serves

pub returns-in-None-best-clause-unmarked : goal.returns-in-None-best-clause-unmarked
returns-in-None-best-clause-unmarked t c =
    c.undo.ensures.unmarked c.ahead-found.ensures.unmarked

pub returns-in-Err-found-clause-back : goal.returns-in-Err-found-clause-back
returns-in-Err-found-clause-back t c =
    undone_reached c.args.m.now c.make.new.m c.ahead-found.new.m c.undo-in-Err-found.new.m (move_of c.in-Some.step.now)
    c.args.place c.in-Ok.moved.journal
    c.requires.table c.make.ensures.table c.requires.no_move c.in-Ok.ensures.stepped
    c.in-Err-found.ensures.back c.undo-in-Err-found.ensures.undone

pub returns-in-Err-found-clause-refused : goal.returns-in-Err-found-clause-refused
returns-in-Err-found-clause-refused t c =
    rule_back c.args.m.now c.make.new.m c.ahead-found.new.m c.undo-in-Err-found.new.m (move_of c.in-Some.step.now)
    c.args.place c.in-Ok.moved.journal
    c.in-Err-found.error c.requires.table c.make.ensures.table c.requires.no_move c.in-Ok.ensures.stepped
    c.ahead-found.ensures.kept c.in-Err-found.ensures.back c.undo-in-Err-found.ensures.undone
    c.in-Err-found.ensures.refused

pub returns-in-Err-found-clause-along : goal.returns-in-Err-found-clause-along
returns-in-Err-found-clause-along t c path at =
    along_reached c.args.m.now c.undo-in-Err-found.new.m path c.args.place
    (undone_reached c.args.m.now c.make.new.m c.ahead-found.new.m c.undo-in-Err-found.new.m (move_of c.in-Some.step.now)
    c.args.place c.in-Ok.moved.journal
    c.requires.table c.make.ensures.table c.requires.no_move c.in-Ok.ensures.stepped
    c.in-Err-found.ensures.back c.undo-in-Err-found.ensures.undone) at

pub returns-in-Err-found-clause-kept : goal.returns-in-Err-found-clause-kept
returns-in-Err-found-clause-kept t c =
    undone_kept c.args.m.now c.make.new.m c.ahead-found.new.m c.undo-in-Err-found.new.m (move_of c.in-Some.step.now)
    c.args.place c.in-Ok.moved.journal
    c.requires.table c.make.ensures.table c.requires.no_move c.in-Ok.ensures.stepped
    c.ahead-found.ensures.kept c.in-Err-found.ensures.back c.undo-in-Err-found.ensures.undone

pub returns-in-Err-found-clause-serves : goal.returns-in-Err-found-clause-serves
returns-in-Err-found-clause-serves t c =
    serves_undone c.ahead-found.new.c c.in-Ok.moved.journal c.ahead-found.new.m c.undo-in-Err-found.new.m
    (omega (arith, c.epoch.type_inv, c.epoch.ensures.epoch)) c.undo-in-Err-found.ensures.undone
    c.ahead-found.ensures.serves

pub returns-in-Err-found-clause-unmarked : goal.returns-in-Err-found-clause-unmarked
returns-in-Err-found-clause-unmarked t c =
    c.undo-in-Err-found.ensures.unmarked c.ahead-found.ensures.unmarked

-- ---- what never falls

pub returns-in_default-clause-never_falls : goal.returns-in_default-clause-never_falls
returns-in_default-clause-never_falls t c = never_same c.args.m.now c.args.m.now refl

pub returns-in-Some-best-clause-never_falls : goal.returns-in-Some-best-clause-never_falls
returns-in-Some-best-clause-never_falls t c =
    never_both c.args.m.now c.make.new.m c.settle.new.m c.make.ensures.never_falls
    (never_both c.make.new.m c.ahead-found.new.m c.settle.new.m c.ahead-found.ensures.never_falls
    (never_settled c.ahead-found.new.m c.settle.new.m c.in-Ok.moved.journal c.settle.ensures.settled))

pub returns-in-None-best-clause-never_falls : goal.returns-in-None-best-clause-never_falls
returns-in-None-best-clause-never_falls t c =
    never_both c.args.m.now c.make.new.m c.undo.new.m c.make.ensures.never_falls
    (never_both c.make.new.m c.ahead-found.new.m c.undo.new.m c.ahead-found.ensures.never_falls
    (never_back_from c.in-Ok.moved.journal c.ahead-found.new.m c.undo.new.m
    (omega (arith, c.epoch.type_inv, c.epoch.ensures.epoch)) c.undo.ensures.undone))

pub returns-in-Err-found-clause-never_falls : goal.returns-in-Err-found-clause-never_falls
returns-in-Err-found-clause-never_falls t c =
    never_both c.args.m.now c.make.new.m c.undo-in-Err-found.new.m c.make.ensures.never_falls
    (never_both c.make.new.m c.ahead-found.new.m c.undo-in-Err-found.new.m c.ahead-found.ensures.never_falls
    (never_back_from c.in-Ok.moved.journal c.ahead-found.new.m c.undo-in-Err-found.new.m
    (omega (arith, c.epoch.type_inv, c.epoch.ensures.epoch)) c.undo-in-Err-found.ensures.undone))

use Rattle.std.proofs.Common.{subst, sym}
use Rattle.std.specs.FinMap.{get}
use Rattle.sd_laws.proofs.Evaluated.{value_of}
use Rattle.sd_manager.specs.Table.{Table}
use Rattle.sd_move.specs.Moving.{no_progress}
use Rattle.sd_move.specs.Steps.{MayDetachFirst, CanDetachAt}
use Rattle.sd_move.proofs.BegunAt.{first_can_detach}
use Rattle.sd_move.proofs.beginning.begin_at.Goals as goal

pub detach_at-requires-clause-may : goal.detach_at-requires-clause-may
detach_at-requires-clause-may c =
    let m = c.args.m.now in
    subst (λ (t : Table). MayDetachFirst t c.args.place) (sym c.begin_move.ensures.begun) (
      m,
      c.args.place,
      no_progress,
      value_of (get m.linked),
      first_can_detach m c.args.place c.requires.table c.requires.no_move,
    )

pub returns-in-Ok-clause-going : goal.returns-in-Ok-clause-going
returns-in-Ok-clause-going c =
    let m = c.args.m.now in
    c.in-Ok.ensures.going m c.args.place no_progress (value_of (get m.linked))
    (subst (λ (t : Table). CanDetachAt m t c.args.place no_progress (value_of (get m.linked)) c.args.place)
    (sym c.begin_move.ensures.begun)
    (first_can_detach m c.args.place c.requires.table c.requires.no_move).may)

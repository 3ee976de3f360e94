use Rattle.std.proofs.Common.{subst}
use Rattle.std.specs.FinMap.{get}
use Rattle.sd_laws.proofs.Evaluated.{value_of}
use Rattle.sd_move.specs.Moving.{no_progress}
use Rattle.sd_move.specs.Steps.{AreLinkedAt}
use Rattle.sd_move.proofs.RotatedAt.{cleared_there, rotated_may_link}
use Rattle.sd_move.proofs.beginning.rotate_detached.Goals as goal

pub turn-requires-clause-cleared : goal.turn-requires-clause-cleared
turn-requires-clause-cleared c =
    let r = c.requires.ready in
    cleared_there r.0 c.args.m.now c.args.kind c.args.upper r.1 r.2 c.args.lower_nodes.now r.3 c.requires.table r.4 r.5
    r.6

pub link_all-requires-clause-may : goal.link_all-requires-clause-may
link_all-requires-clause-may c =
    let r = c.requires.ready in
    let d = r.4 in (
      r.0,
      c.args.upper,
      no_progress,
      value_of (get r.0.linked),
      rotated_may_link r.0 c.args.m.now c.args.kind c.args.upper r.1 r.2 c.args.lower_nodes.now r.3 c.requires.table d
          r.5 r.6 c.turn.new.self (c.turn.ensures.turned c.args.upper r.3 d.going.moving r.6) c.turn.ensures.meanings,
    )

pub returns-clause-going : goal.returns-clause-going
returns-clause-going c old w numbers d is =
    let r = c.requires.ready in
    c.link_all.ensures.going old c.args.upper no_progress (value_of (get old.linked))
    (rotated_may_link old c.args.m.now c.args.kind c.args.upper w numbers c.args.lower_nodes.now r.3 c.requires.table d
    is r.6 c.turn.new.self (c.turn.ensures.turned c.args.upper r.3 d.going.moving r.6) c.turn.ensures.meanings)

pub returns-clause-linked : goal.returns-clause-linked
returns-clause-linked c u moved =
    subst (λ t. AreLinkedAt t c.link_all.new.m c.args.upper c.args.lower_nodes.now)
    (c.turn.ensures.turned c.args.upper u c.requires.ready.4.going.moving moved) c.link_all.ensures.linked

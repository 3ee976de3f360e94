use Rattle.std.proofs.Common.{subst, sym, ◌∙◌}
use Rattle.std.proofs.lemmas.Option.{same_Some}
use Rattle.sd_manager.specs.Moving.{IsCleared, KeepsMeanings}
use Rattle.sd_move.specs.Moving.{MoveInProgress}
use Rattle.sd_move.proofs.TurnedMove.{turned_move}
use Rattle.sd_move.proofs.turning.turn_at.Goals as goal

pub turn-requires-clause-cleared : goal.turn-requires-clause-cleared
turn-requires-clause-cleared c y e =
    subst (IsCleared c.args.m.now c.args.kind) (same_Some c.args.place y (sym c.requires.moving ∙ e))
    c.requires.cleared

pub returns-clause-going : goal.returns-clause-going
returns-clause-going c m0 h v g =
    let m = c.args.m.now in
    let r = c.requires.movable in
    let same = c.turn.ensures.turned c.args.place r.0 c.requires.moving r.1 in
    subst (λ t. MoveInProgress m0 t c.args.place h v) (sym same)
    (turned_move m0 m c.args.place h v c.args.kind r.0 c.requires.table.numbered r.1 c.requires.cleared
    (subst (KeepsMeanings m) same c.turn.ensures.meanings) g)

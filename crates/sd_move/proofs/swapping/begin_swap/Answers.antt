use Rattle.std.proofs.Common.{sym, ◌∙◌, subst}
use Rattle.std.proofs.lemmas.Option.{same_Some}
use Rattle.sd_model.specs.declared.trees.Move.TheVariants.{Swap}
use Rattle.sd_manager.specs.Moving.{IsCleared}
use Rattle.sd_move.proofs.SwapWaits.{cleared, moved_there}
use Rattle.sd_move.proofs.swapping.begin_swap.Goals as goal

pub turn-requires-clause-movable : goal.turn-requires-clause-movable
turn-requires-clause-movable c =
    let m = c.args.m.now in
    let e = c.in_ok-numbers.ensures in
    let u = c.requires.movable in (
      c.args.place,
      u.0,
      e.going.moving,
      moved_there m c.begin_at.new.m c.args.place u.0 _ c.requires.table c.requires.no_move
          c.begin_at.ensures.at_begin c.begin_at.ensures.table e.going e.detached e.none_left u.1,
    )

pub turn-requires-clause-cleared : goal.turn-requires-clause-cleared
turn-requires-clause-cleared c y f =
    let m = c.args.m.now in
    let e = c.in_ok-numbers.ensures in
    let u = c.requires.movable in
    subst (IsCleared c.begin_at.new.m Swap) (same_Some c.args.place y (sym e.going.moving ∙ f))
    (cleared m c.begin_at.new.m c.args.place u.0 _ c.requires.table c.requires.no_move
    c.begin_at.ensures.at_begin c.begin_at.ensures.table e.going e.detached e.none_left u.1)

pub returns-clause-swapped : goal.returns-clause-swapped
returns-clause-swapped c =
    let m = c.args.m.now in
    let e = c.in_ok-numbers.ensures in
    let u = c.requires.movable in
    record {
      between = c.begin_at.new.m;
      tree = u.0;
      at_begin = c.begin_at.ensures.at_begin;
      table = c.begin_at.ensures.table;
      begun = e.going;
      detached = e.detached;
      none_left = e.none_left;
      moved = u.1;
      turned = c.turn.ensures.turned c.args.place u.0 e.going.moving
          (moved_there m c.begin_at.new.m c.args.place u.0 _ c.requires.table c.requires.no_move
          c.begin_at.ensures.at_begin c.begin_at.ensures.table e.going e.detached e.none_left u.1);
      meanings = c.turn.ensures.meanings;
    }

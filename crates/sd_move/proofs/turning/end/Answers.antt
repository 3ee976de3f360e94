use Rattle.std.proofs.Common.{subst, sym, refl}
use Rattle.std.specs.Option.{IsSome}
use Rattle.sd_move.proofs.KnownAtEnd.{may_end}
use Rattle.sd_move.proofs.turning.end.Goals as goal

pub end_move-requires-clause-moving : goal.end_move-requires-clause-moving
end_move-requires-clause-moving c = subst IsSome (sym c.requires.going.4.moving) refl

pub end_move-requires-clause-known : goal.end_move-requires-clause-known
end_move-requires-clause-known c =
    let g = c.requires.going in
    may_end g.0 c.args.m.now g.1 g.2 g.3 c.requires.table g.4 c.requires.none_detached

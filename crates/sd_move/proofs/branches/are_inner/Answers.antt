use Rattle.sd_move.proofs.Branching.{middle_under}
use Rattle.sd_move.proofs.branches.are_inner.Goals as goal

pub is_below-requires-clause-under : goal.is_below-requires-clause-under
is_below-requires-clause-under c =
    let k = c.args.corner.now in
    middle_under c.args.m.now c.requires.table k.lower k.left k.middle c.requires.corner.lower

use Rattle.sd_apply.proofs.Joining.{whole_halves}
use Rattle.sd_apply.proofs.halves.halves_of.Goals as goal

pub returns-then-is_right : goal.returns-then-is_right
returns-then-is_right c =
    whole_halves c.args.m.now c.args.at c.args.split.now.right c.args.split.now.variable c.args.node c.requires.table
    (c.is_right.ensures c.if-is_right.true)

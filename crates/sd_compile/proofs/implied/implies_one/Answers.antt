use Rattle.sd_compile.proofs.Implying.{odd_implied}
use Rattle.sd_compile.proofs.implied.implies_one.Goals as goal

pub returns-then-is_false_where : goal.returns-then-is_false_where
returns-then-is_false_where c = λ both.
    odd_implied c.args.m.now c.args.node c.args.pair.now c.requires.two
    (c.is_false_where.ensures c.if-is_false_where.true) (c.is_false_where-then-is_false_where.ensures both)

use Rattle.std.proofs.Common.{arith}
use Rattle.sd_manager.proofs.Counted.{drops_one}
use Rattle.sd_manager.proofs.uses.drop_use.Goals as goal

pub drop_use-requires-clause-node : goal.drop_use-requires-clause-node
drop_use-requires-clause-node c = c.requires.counted (omega arith)

pub returns-then-code-ge2050-clause-uses : goal.returns-then-code-ge2050-clause-uses
returns-then-code-ge2050-clause-uses c =
    drops_one c.args.nodes.now c.drop_use.new.self c.args.code c.requires.valid (omega arith)
    (c.requires.counted (omega arith)) c.drop_use.ensures.uses

use Rattle.std.proofs.Common.{arith}
use Rattle.sd_manager.proofs.Counted.{adds_one}
use Rattle.sd_manager.proofs.uses.add_use.Goals as goal

pub add_use-requires-clause-node : goal.add_use-requires-clause-node
add_use-requires-clause-node c = c.requires.counted (omega arith)

pub returns-then-code-ge2050-clause-uses : goal.returns-then-code-ge2050-clause-uses
returns-then-code-ge2050-clause-uses c =
    adds_one c.args.nodes.now c.add_use.new.self c.args.code c.requires.valid (omega arith)
    (c.requires.counted (omega arith)) c.add_use.ensures.uses

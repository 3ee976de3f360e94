use Rattle.sd_vtree.proofs.PlainMoves.{plain_move}
use Rattle.sd_vtree.proofs.laws.plain_move.Goals as goal

pub returns : goal.returns
returns c = λ p e. plain_move c.args.kind c.args.tree.now c.position.ensures.numbered c.args.node p e

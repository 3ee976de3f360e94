use Rattle.std.proofs.lemmas.Result.{on_ok_weaker}
use Rattle.sd_laws.proofs.Turning.{turned_swap}
use Rattle.sd_laws.proofs.Turns.{rotated_right, rotated_left}
use Rattle.sd_laws.proofs.laws.turn.Goals as goal

pub returns-in-RotateRight-clause-right : goal.returns-in-RotateRight-clause-right
returns-in-RotateRight-clause-right c k =
    on_ok_weaker c.rotate_right.result
    (rotated_right c.args.kind c.args.tree.now c.rotate_right.new.self c.args.node k c.position.ensures.numbered)
    c.rotate_right.ensures.moved

pub returns-in-RotateLeft-clause-left : goal.returns-in-RotateLeft-clause-left
returns-in-RotateLeft-clause-left c k =
    on_ok_weaker c.rotate_left.result
    (rotated_left c.args.kind c.args.tree.now c.rotate_left.new.self c.args.node k c.position.ensures.numbered)
    c.rotate_left.ensures.moved

pub returns-in-Swap-clause-swap : goal.returns-in-Swap-clause-swap
returns-in-Swap-clause-swap c k =
    on_ok_weaker c.swap.result
    (turned_swap c.args.tree.now c.swap.new.self c.args.node c.position.ensures.numbered)
    c.swap.ensures.moved

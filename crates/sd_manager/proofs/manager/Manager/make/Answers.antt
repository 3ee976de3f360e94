use Rattle.std.proofs.Common.{arith}
use Rattle.sd_manager.proofs.Linking.{turned_two}
use Rattle.sd_manager.proofs.manager.Manager.make.Goals as goal

pub make_two-requires-then-other-one-clause-order : goal.make_two-requires-then-other-one-clause-order
make_two-requires-then-other-one-clause-order c =
    turned_two c.args.elements.now c.first-item.result c.second-item.result _ _
    (omega (arith, c.in-len2.len_at_least)) (omega (arith, c.in-len2.len_below)) c.first-item.is c.second-item.is
    c.first.view_is c.second.view_is

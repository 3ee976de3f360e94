use Rattle.sd_model.proofs.SizeSteps.{past_end}
use Rattle.sd_model.proofs.sizes.total.Goals as goal

-- a sum that has no 64 bits is no more than the whole sum
pub returns-in_err-sum : goal.returns-in_err-sum
returns-in_err-sum c =
    rw c.from_residual.ensures
    (past_end c.loop-node.sum c.element_count.result c.loop-node.node-index c.args.nodes.now c.node-item.result
    c.loop-node-test.true c.node-item.is c.element_count.ensures c.loop-node.invariant.whole c.in_err-sum.ensures)

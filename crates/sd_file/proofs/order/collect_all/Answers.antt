use Rattle.sd_file.proofs.Roots.{collected_root}
use Rattle.sd_file.proofs.order.collect_all.Goals as goal

-- one node more is collected
pub loop-node-preserved : goal.loop-node-preserved
loop-node-preserved c =
    collected_root c.args.m.now c.loop-node.o c.collect.new.o c.loop-node.found c.collect.new.found c.args.nodes.now
    c.loop-node.node-index c.node-item.result c.loop-node.invariant c.loop-node-test.true c.node-item.is
    c.in_ok-collect.ensures.collected c.in_ok-collect.ensures.keeps_all c.in_ok-collect.ensures.stands

use Rattle.sd_model.specs.declared.trees.Operation.TheVariants.{Xor}
use Rattle.sd_manager.proofs.Extending.{extends_on}
use Rattle.sd_call_tests.proofs.Tried.{combined_node}
use Rattle.sd_call_tests.proofs.Steps.{fresh_on}
use Rattle.sd_call_tests.proofs.cases.parity.Goals as goal

pub loop-index-preserved : goal.loop-index-preserved
loop-index-preserved c =
    let l = c.literal-literal.ensures.shown in
    let i = c.loop-index.invariant in
    record {
      shown = combined_node c.loop-index.m c.xor.new.m Xor c.literal-literal.result c.loop-index.node c.in_ok-node.node
          (record { diagram = l.0; is = l.1 }) i.shown c.in_ok-node.ensures.ok;
      kept = extends_on c.args.m.now c.loop-index.m c.xor.new.m i.kept c.in_ok-node.ensures.kept;
      fresh = fresh_on c.loop-index.m c.xor.new.m c.loop-index.c c.xor.new.c i.fresh c.in_ok-node.ensures.kept
          c.in_ok-node.ensures.serves;
    }

use Rattle.std.proofs.Common.{arith}
use Rattle.sd_call_tests.proofs.Steps.{alone_more, alone_all}
use Rattle.sd_call_tests.proofs.moves.is_alone.Goals as goal

pub loop-number-preserved : goal.loop-number-preserved
loop-number-preserved c =
    alone_more c.args.state.now.m c.args.place c.node_of-node.result c.loop-number.number c.loop-number.invariant
    (c.is_another.ensures.no c.if-is_another.false)

pub returns : goal.returns
returns c = record {
  alone = λ yes. alone_all c.args.state.now.m c.args.state.now.first c.args.place c.node_of-node.result
      c.loop-number.number c.node_of-node.ensures.table c.node_of-node.ensures.held c.loop-number.invariant
      (omega (arith, c.loop-number-test.false, c.records-number-end.ensures.records));
}

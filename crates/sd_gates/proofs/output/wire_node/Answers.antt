-- The node of a wire, made of that of its negation where it has none.
use Rattle.std.proofs.Common.{arith, length}
use Rattle.sd_apply.specs.Answers.{HasAnswer}
use Rattle.sd_compile.proofs.Joining.{answer_node}
use Rattle.sd_gates.specs.Sharing.{wire_function}
use Rattle.sd_gates.proofs.Shared.{ready_on, ready_kept}
use Rattle.sd_gates.proofs.Signs.{twice_negated}
use Rattle.sd_gates.proofs.output.wire_node.Goals as goal
use Rattle.sd_gates.proofs.output.wire_node.Goals.{After-keep}

pub negate-requires-clause-node : goal.negate-requires-clause-node
negate-requires-clause-node c = answer_node _ _ _ c.signed_node-found.ensures

pub returns-in_err-node-clause-ready : goal.returns-in_err-node-clause-ready
returns-in_err-node-clause-ready c = ready_on _ c.args.gates.now _ _ c.negate.ensures.kept c.requires.ready

pub keep-requires : goal.keep-requires
keep-requires c = record {
  within = (
    c.args.circuit.now,
    length c.args.circuit.now.order,
    c.requires.within,
    omega (arith, c.requires.ready.size),
  );
}

-- the negation of what stands for the negation
answer : (c : After-keep) → HasAnswer c.negate.new.m (wire_function c.args.circuit.now c.args.wire) c.in_ok-node.node
answer c = twice_negated c.args.m.now c.negate.new.m (wire_function c.args.circuit.now c.args.wire)
    c.signed_node-found.result c.in_ok-node.node c.if-found.false c.signed_node-found.ensures c.in_ok-node.ensures.ok

pub returns-clause-ok : goal.returns-clause-ok
returns-clause-ok c = answer c

pub returns-clause-ready : goal.returns-clause-ready
returns-clause-ready c = ready_kept c.args.circuit.now c.args.gates.now c.keep.new.self c.negate.new.m c.args.wire
    c.in_ok-node.node (ready_on _ c.args.gates.now _ _ c.negate.ensures.kept c.requires.ready) c.requires.within
    (answer c) c.keep.ensures.nodes c.keep.ensures.epoch

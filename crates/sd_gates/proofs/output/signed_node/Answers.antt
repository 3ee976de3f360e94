-- What stands for a gate or for its negation stands for the wire by a sign.
use Rattle.std.proofs.Common.{sym, subst}
use Rattle.sd_apply.specs.Answers.{HasAnswer}
use Rattle.sd_circuit.specs.Circuits.{signed_value}
use Rattle.sd_gates.specs.Sharing.{wire_function}
use Rattle.sd_gates.proofs.Shared.{signed_shared}
use Rattle.sd_gates.proofs.output.signed_node.Goals as goal

pub returns-in-Gate : goal.returns-in-Gate
returns-in-Gate c =
    let r = c.signed.result in
    subst (λ w. HasAnswer c.args.m.now (λ a. signed_value r.positive (wire_function c.args.circuit.now w a)) r.node)
    (sym c.in-Gate.is)
    (signed_shared c.args.circuit.now c.args.gates.now.nodes.items c.args.m.now c.requires.ready.shared c.in-Gate.index
    r.node r.positive c.in-Gate.positive c.signed.ensures)

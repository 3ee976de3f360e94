-- A gate is made of its sides.
use Rattle.std.proofs.Common.{◌≡◌, ◌∙◌, ◌<◌, ◌&&◌, ◌||◌, false, get_or, refl, sym, ap, arith, length}
use Rattle.sd_apply.specs.Answers.{HasAnswer}
use Rattle.sd_circuit.specs.Circuits.{gate_values, signed_value}
use Rattle.sd_circuit.specs.declared.wire.Wire.TheVariants.{Gate}
use Rattle.sd_compile.proofs.Joining.{answer_node, answer_same}
use Rattle.sd_gates.specs.Sharing.{wire_function, place_of}
use Rattle.sd_gates.specs.Making.{blanks}
use Rattle.sd_gates.proofs.Shared.{ready_on, ready_put, gate_fewer, place_inside}
use Rattle.sd_gates.proofs.output.make_gate.Goals as goal
use Rattle.sd_gates.proofs.output.make_gate.Goals.{After-put, then-first, else-first}

pub conjunction-requires-clause-first : goal.conjunction-requires-clause-first
conjunction-requires-clause-first c = answer_node _ _ _ c.signed_node-first.ensures

pub conjunction-requires-clause-second : goal.conjunction-requires-clause-second
conjunction-requires-clause-second c = answer_node _ _ _ c.signed_node-second.ensures

pub returns-in_err-node-clause-ready : goal.returns-in_err-node-clause-ready
returns-in_err-node-clause-ready c =
    ready_on _ c.args.gates.now _ _ c.conjunction.ensures.kept c.requires.ready

pub returns-clause-fewer : goal.returns-clause-fewer
returns-clause-fewer c =
    let old = c.args.gates.now.nodes.items in
    let sign = c.if-first.put in
    let inside : place_of c.args.gate sign < length old =
    rw c.requires.ready.size (place_inside c.args.gate _ sign c.requires.gate) in
    let less = gate_fewer old c.args.gate c.in_ok-node.node sign inside c.requires.unknown in
    let is = ap blanks c.put.ensures.nodes in
    omega (arith, less, is)

-- the sign is positive where one of the sides is
sign_is : (c : After-put)
    → c.if-first.put ≡ (c.signed_node-first.result.positive || c.signed_node-second.result.positive)
sign_is c = elim c.if-first.branch [
  | then-first w ↦ rw (w.put-is, w.if-first.true) refl
  | else-first w ↦ rw (w.put-is, w.if-first.false) refl
]

-- the node stands for the gate by its sign
answer : (c : After-put) → HasAnswer c.conjunction.new.m
    (wire_function c.args.circuit.now (Gate c.args.gate c.if-first.put)) c.in_ok-node.node
answer c =
    let f = wire_function c.args.circuit.now c.args.sides.0 in
    let g = wire_function c.args.circuit.now c.args.sides.1 in
    let s = c.signed_node-first.result.positive || c.signed_node-second.result.positive in
    answer_same c.conjunction.new.m (λ a. signed_value s (f a && g a))
    (wire_function c.args.circuit.now (Gate c.args.gate c.if-first.put)) c.in_ok-node.node
    (λ a. ap (signed_value s) (sym (c.requires.value a))
    ∙ ap (λ z. signed_value z (get_or (gate_values c.args.circuit.now a) c.args.gate false)) (sym (sign_is c)))
    (c.in_ok-node.ensures.ok f g c.signed_node-first.ensures c.signed_node-second.ensures)

pub returns-clause-ready : goal.returns-clause-ready
returns-clause-ready c = ready_put c.args.circuit.now c.args.gates.now c.put.new.self c.conjunction.new.m c.args.gate
    c.in_ok-node.node c.if-first.put
    (ready_on _ c.args.gates.now _ _ c.conjunction.ensures.kept c.requires.ready) c.requires.gate
    (answer c) c.put.ensures.nodes c.put.ensures.epoch

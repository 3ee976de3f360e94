-- What a literal is.
use Rattle.std.proofs.Common.{◌≡◌, length, ◌∙◌, ap, arith}
use Rattle.sd_circuit.specs.Circuits.{OrderedCircuit}
use Rattle.sd_circuit.proofs.Read.{input_back, gate_back, gate_within, input_within}
use Rattle.sd_circuit.proofs.circuit.Circuit.wire.Goals as goal
use Rattle.sd_circuit.proofs.circuit.Circuit.wire.Goals.{After-len-inputs}

-- how many inputs there are
counted : (c : After-len-inputs) → c.len-inputs.result ≡ length c.args.self.now.text.inputs
counted c = c.len-inputs.ensures ∙ c.self.inside.inputs.ok.0
    ∙ ap (λ (x : OrderedCircuit). length x.text.inputs) c.self.view_is

pub returns-then-origin-inputs-clause-literal : goal.returns-then-origin-inputs-clause-literal
returns-then-origin-inputs-clause-literal c = input_back _ c.args.self.now _ c.self.view_is c.self.invariant
    c.args.literal c.index-origin.result.now c.len-inputs.result c.if-variable-eq0.false c.index-origin.ensures
    (counted (goal.at.returns-then-origin-inputs-clause-literal c).After-len-inputs) c.requires
    c.requires c.if-origin-inputs.true

pub returns-then-origin-inputs-clause-within : goal.returns-then-origin-inputs-clause-within
returns-then-origin-inputs-clause-within c = λ gates all told. (
  input_within _ c.args.self.now _ c.self.view_is c.self.invariant c.args.literal c.index-origin.result.now
      c.len-inputs.result c.if-variable-eq0.false c.index-origin.ensures
      (counted (goal.at.returns-then-origin-inputs-clause-within c).After-len-inputs) c.requires c.requires,
  omega (
    arith,
    c.if-origin-inputs.true,
    counted (goal.at.returns-then-origin-inputs-clause-within c).After-len-inputs,
  ),
)

pub returns-else-origin-inputs-clause-literal : goal.returns-else-origin-inputs-clause-literal
returns-else-origin-inputs-clause-literal c = gate_back _ c.args.self.now _ c.self.view_is c.self.invariant
    c.args.literal c.index-origin.result.now c.len-inputs.result c.if-variable-eq0.false c.index-origin.ensures
    (counted (goal.at.returns-else-origin-inputs-clause-literal c).After-len-inputs) c.requires
    c.requires c.if-origin-inputs.false

pub returns-else-origin-inputs-clause-within : goal.returns-else-origin-inputs-clause-within
returns-else-origin-inputs-clause-within c = λ gates all told. gate_within _ c.args.self.now _ c.self.view_is
    c.self.invariant c.args.literal c.index-origin.result.now c.len-inputs.result c.if-variable-eq0.false
    c.index-origin.ensures (counted (goal.at.returns-else-origin-inputs-clause-within c).After-len-inputs) c.requires
    gates all told c.if-origin-inputs.false

-- What the sides of a gate are.
use Rattle.std.proofs.Common.{◌≡◌, sym, ◌∙◌, ap, subst, arith}
use Rattle.sd_model.specs.Circuit.{AndLine}
use Rattle.sd_circuit.specs.Circuits.{gate_line}
use Rattle.sd_circuit.specs.Stored.{IsTold}
use Rattle.sd_circuit.proofs.Outputs.{gate_is_and}
use Rattle.sd_circuit.proofs.Sound.{IsSound}
use Rattle.sd_circuit.proofs.Read.{sound_of, told_more, line_read}
use Rattle.sd_circuit.proofs.circuit.Circuit.gate.Goals as goal
use Rattle.sd_circuit.proofs.circuit.Circuit.gate.Goals.{After-line}

-- the circuit is sound
sound : (c : After-line) → IsSound c.args.self.now.text c.args.self.now.order
sound c = sound_of _ _ _ c.self.view_is c.self.invariant

-- the sides that are read are those of the gate's and-line
first : (c : After-line) → c.line.inside.first ≡ (gate_line c.args.self.now c.args.index).first
first c = ap (λ (l : AndLine). l.first) (c.line.view_is ∙ line_read _ _ _ c.args.index _ _ c.self.view_is
    c.self.invariant c.requires c.index.ensures c.index-line.ensures)

second : (c : After-line) → c.line.inside.second ≡ (gate_line c.args.self.now c.args.index).second
second c = ap (λ (l : AndLine). l.second) (c.line.view_is ∙ line_read _ _ _ c.args.index _ _ c.self.view_is
    c.self.invariant c.requires c.index.ensures c.index-line.ensures)

-- they are told by what comes before the gate, and so by all gates
first_told : (c : After-line)
    → IsTold c.args.self.now.text c.args.self.now.order c.args.index c.line.inside.first
first_told c = subst (IsTold c.args.self.now.text c.args.self.now.order c.args.index) (sym (first c))
    ((sound c).first c.args.index c.requires)

second_told : (c : After-line)
    → IsTold c.args.self.now.text c.args.self.now.order c.args.index c.line.inside.second
second_told c = subst (IsTold c.args.self.now.text c.args.self.now.order c.args.index) (sym (second c))
    ((sound c).second c.args.index c.requires)

pub wire-requires : goal.wire-requires
wire-requires c = told_more c.args.self.now.text c.args.self.now.order c.args.index _ _ (omega (arith, c.requires))
    (first_told c)

pub wire-requires-2 : goal.wire-requires-2
wire-requires-2 c = let l = (goal.at.wire-requires-2 c).After-line in
    told_more c.args.self.now.text c.args.self.now.order c.args.index _ _ (omega (arith, c.requires)) (second_told l)

pub returns-clause-first : goal.returns-clause-first
returns-clause-first c = c.wire.ensures.literal ∙ first (goal.at.returns-clause-first c).After-line

pub returns-clause-second : goal.returns-clause-second
returns-clause-second c = c.wire-2.ensures.literal ∙ second (goal.at.returns-clause-second c).After-line

pub returns-clause-first_earlier : goal.returns-clause-first_earlier
returns-clause-first_earlier c = c.wire.ensures.within c.args.index (omega (arith, c.requires))
    (first_told (goal.at.returns-clause-first_earlier c).After-line)

pub returns-clause-second_earlier : goal.returns-clause-second_earlier
returns-clause-second_earlier c = c.wire-2.ensures.within c.args.index (omega (arith, c.requires))
    (second_told (goal.at.returns-clause-second_earlier c).After-line)

pub returns-clause-value : goal.returns-clause-value
returns-clause-value c = λ a. let l = (goal.at.returns-clause-value c).After-line in
    gate_is_and c.args.self.now a (sound l) c.args.index c.requires c.wire.result c.wire-2.result
    (c.wire.ensures.literal ∙ first l) (c.wire-2.ensures.literal ∙ second l)
    (c.wire.ensures.within _ (omega arith)
    (told_more c.args.self.now.text c.args.self.now.order c.args.index _ _ (omega (arith, c.requires)) (first_told l)))
    (c.wire-2.ensures.within _ (omega arith)
    (told_more c.args.self.now.text c.args.self.now.order c.args.index _ _ (omega (arith, c.requires)) (second_told l)))

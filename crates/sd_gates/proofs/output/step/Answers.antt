-- One step: a gate comes onto the stack, or one is made.
use Rattle.std.proofs.Common.{◌≡◌, ◌∙◌, ◌<◌, ◌≤◌, ◌-◌, ℕ, List, length, take, sym, subst, ap, arith}
use Rattle.sd_gates.specs.Making.{IsDescent, current, work_left}
use Rattle.sd_gates.proofs.Descending.{current_most, push_descent, push_less, pop_descent, pop_less}
use Rattle.sd_gates.proofs.output.step.Goals as goal
use Rattle.sd_gates.proofs.output.step.Goals.{After-gate-sides, After-pop, In-Some}

-- the gate in hand is that on the top of the stack
gate_is : (c : After-gate-sides) → c.current_of-gate.result ≡ current c.args.top c.args.stack.now.items
gate_is c = c.current_of-gate.ensures ∙ ap (current c.args.top) c.deref.ensures.value

gate_most : (c : After-gate-sides) → c.current_of-gate.result ≤ c.args.top
gate_most c = rw (gate_is c) (current_most _ _ _ c.requires.descent)

pub unknown_side-requires : goal.unknown_side-requires
unknown_side-requires c = record {
  within = (
    c.args.circuit.now,
    c.current_of-gate.result,
    c.gate-sides.ensures.first_earlier,
    c.gate-sides.ensures.second_earlier,
    omega (arith, gate_most c, c.requires.top, c.requires.ready.size),
  );
}

-- a side without a node is less than the gate
side_less : (c : In-Some) → c.in-Some.side < current c.args.top c.args.stack.now.items
side_less c = subst (λ (n : ℕ). c.in-Some.side < n)
    (c.current_of-gate.ensures ∙ ap (current c.args.top) c.deref.ensures.value)
    (c.in-Some.ensures.before c.args.circuit.now c.current_of-gate.result c.gate-sides.ensures.first_earlier
    c.gate-sides.ensures.second_earlier)

pub returns-in-Ok-clause-descent : goal.returns-in-Ok-clause-descent
returns-in-Ok-clause-descent c =
    subst (IsDescent c.args.gates.now.nodes.items c.args.top) (sym c.in-Ok.ensures.items)
    (push_descent c.args.gates.now.nodes.items c.args.top c.args.stack.now.items c.in-Some.side c.requires.descent
    (side_less (goal.at.returns-in-Ok-clause-descent c).In-Some) c.in-Some.ensures.some)

pub returns-in-Ok-clause-less : goal.returns-in-Ok-clause-less
returns-in-Ok-clause-less c =
    subst (λ (s : List ℕ). work_left c.args.gates.now.nodes.items c.args.top s
    < work_left c.args.gates.now.nodes.items c.args.top c.args.stack.now.items) (sym c.in-Ok.ensures.items)
    (push_less c.args.gates.now.nodes.items c.args.top c.args.stack.now.items c.in-Some.side
    (side_less (goal.at.returns-in-Ok-clause-less c).In-Some))

-- what is left on the stack
rest_is : (c : After-pop)
    → c.pop.new.self.items ≡ take (length c.args.stack.now.items - 1) c.args.stack.now.items
rest_is c = c.pop.ensures.rest ∙ ap (λ n. take (n - 1) c.args.stack.now.items) c.args.stack.now.ok.0

descent : (c : After-pop) → IsDescent c.make_gate.new.gates.nodes.items c.args.top c.pop.new.self.items
descent c = subst (IsDescent c.make_gate.new.gates.nodes.items c.args.top) (sym (rest_is c))
    (pop_descent c.args.gates.now.nodes.items c.make_gate.new.gates.nodes.items c.args.top c.args.stack.now.items
    c.requires.descent (λ other ne. c.in-Ok-make_gate.ensures.others other (λ e. ne (e
    ∙ c.current_of-gate.ensures ∙ ap (current c.args.top) c.deref.ensures.value))))

pub returns-in-Ok-make_gate-clause-descent : goal.returns-in-Ok-make_gate-clause-descent
returns-in-Ok-make_gate-clause-descent c = descent c

pub returns-in-Ok-make_gate-clause-less : goal.returns-in-Ok-make_gate-clause-less
returns-in-Ok-make_gate-clause-less c =
    pop_less c.args.gates.now.nodes.items c.make_gate.new.gates.nodes.items c.args.top c.args.stack.now.items
    c.pop.new.self.items (descent c) c.in-Ok-make_gate.ensures.fewer

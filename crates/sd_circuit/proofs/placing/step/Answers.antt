use Rattle.std.proofs.Common.{◌-◌, length, arith, ◌∙◌}
use Rattle.sd_circuit.proofs.InHand.{hand_cycle}
use Rattle.sd_circuit.proofs.Steps.{top_is, place_step, place_less, enter_step}
use Rattle.sd_circuit.proofs.placing.step.Goals as goal

pub returns-in_default-clause-state : goal.returns-in_default-clause-state
returns-in_default-clause-state c = λ _.
    place_step c.args.ands.now c.args.order.now.items c.place_top.new.order.items c.args.stack.now.items
    c.place_top.new.stack.items c.args.met.now c.args.placed.now c.place_top.new.placed
    (length c.args.stack.now.items - 1) c.index-top.result.now c.requires.state (omega (arith, c.requires.some))
    (top_is c.args.stack.now.items c.len.result c.index-top.result.now
    (c.len.ensures ∙ c.args.stack.now.ok.0) c.requires.some c.index-top.ensures)
    c.in_default.ensures.none c.in_ok-place_top.ensures.order c.in_ok-place_top.ensures.stack
    c.in_ok-place_top.ensures.placed

pub returns-in_default-clause-less : goal.returns-in_default-clause-less
returns-in_default-clause-less c = λ _.
    place_less c.args.ands.now c.args.order.now.items c.args.stack.now.items c.args.met.now c.args.placed.now
    c.place_top.new.placed (length c.args.stack.now.items - 1) c.index-top.result.now c.requires.state
    (omega (arith, c.requires.some))
    (top_is c.args.stack.now.items c.len.result c.index-top.result.now
    (c.len.ensures ∙ c.args.stack.now.ok.0) c.requires.some c.index-top.ensures)
    c.in_ok-place_top.ensures.placed

pub returns-then-met-used-clause-cycle : goal.returns-then-met-used-clause-cycle
returns-then-met-used-clause-cycle c = λ _.
    hand_cycle c.args.ands.now c.args.stack.now.items c.args.met.now c.args.placed.now
    (length c.args.stack.now.items - 1) c.index-top.result.now c.in-Some.used c.requires.state.hand
    (omega (arith, c.requires.some))
    (top_is c.args.stack.now.items c.len.result c.index-top.result.now
    (c.len.ensures ∙ c.args.stack.now.ok.0) c.requires.some c.index-top.ensures)
    c.in-Some.ensures.some.0 c.in-Some.ensures.some.1 c.if-met-used.true c.in-Some.ensures.some.2

pub returns-clause-state : goal.returns-clause-state
returns-clause-state c = λ _.
    enter_step c.args.ands.now c.args.order.now.items c.args.stack.now.items c.enter.new.stack.items c.args.met.now
    c.enter.new.met c.args.placed.now (length c.args.stack.now.items - 1) c.index-top.result.now c.in-Some.used
    c.requires.state (omega (arith, c.requires.some))
    (top_is c.args.stack.now.items c.len.result c.index-top.result.now
    (c.len.ensures ∙ c.args.stack.now.ok.0) c.requires.some c.index-top.ensures)
    c.in-Some.ensures.some.0 c.in-Some.ensures.some.1 c.if-met-used.false c.in-Some.ensures.some.2
    c.in_ok-enter.ensures.stack c.in_ok-enter.ensures.met

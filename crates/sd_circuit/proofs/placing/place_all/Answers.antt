use Rattle.std.proofs.Common.{arith, ◌≡◌, ◌+◌, ◌++◌, length, take, drop, true, sym, ◌∙◌, subst}
use Rattle.sd_circuit.specs.Placing.{HasPlacedBelow, StayMarked}
use Rattle.sd_circuit.proofs.Grown.{whole_slice}
use Rattle.sd_circuit.proofs.Steps.{one_more_placed, end_all}
use Rattle.sd_circuit.proofs.placing.place_all.Goals as goal

pub loop-line-preserved : goal.loop-line-preserved
loop-line-preserved c =
    let made : c.in_ok-place_from.field-0 ≡ true =
    grind arith in
    let met : take c.loop-line.met.len
    (c.place_from.new.met ++ drop (length c.place_from.new.met) c.loop-line.met.items)
    ≡ c.place_from.new.met =
    whole_slice c.place_from.new.met c.loop-line.met.items c.loop-line.met.len
    (c.place_from.auto.met ∙ c.deref_mut.ensures.len) in
    let placed : take c.loop-line.placed.len
    (c.place_from.new.placed ++ drop (length c.place_from.new.placed) c.loop-line.placed.items)
    ≡ c.place_from.new.placed =
    whole_slice c.place_from.new.placed c.loop-line.placed.items c.loop-line.placed.len
    (c.place_from.auto.placed ∙ c.deref_mut-in-loop-line.ensures.len) in
    subst (λ m. HasPlacedBelow c.args.ands.now c.place_from.new.order.items c.place_from.new.stack.items m
    (take c.loop-line.placed.len
    (c.place_from.new.placed ++ drop (length c.place_from.new.placed) c.loop-line.placed.items))
    (c.loop-line.line + 1)) (sym met)
    (subst (λ m. HasPlacedBelow c.args.ands.now c.place_from.new.order.items c.place_from.new.stack.items
    c.place_from.new.met m (c.loop-line.line + 1)) (sym placed)
    (one_more_placed c.args.ands.now c.loop-line.order.items c.loop-line.stack.items c.loop-line.met.items
    c.loop-line.placed.items c.place_from.new.placed c.place_from.new.met c.place_from.new.order.items
    c.place_from.new.stack.items c.loop-line.line c.loop-line.invariant
    (c.in_ok-place_from.ensures.state made).1 (c.in_ok-place_from.ensures.state made).0
    (subst (λ old. StayMarked old c.place_from.new.placed) c.deref_mut-in-loop-line.ensures.value
    c.in_ok-place_from.ensures.kept)
    (c.in_ok-place_from.ensures.done made)))

pub returns-clause-order : goal.returns-clause-order
returns-clause-order c =
    end_all c.args.ands.now c.loop-line.order.items c.loop-line.stack.items c.loop-line.met.items
    c.loop-line.placed.items c.loop-line.line c.loop-line.invariant c.loop-line-test.false

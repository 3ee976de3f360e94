use Rattle.sd_circuit.specs.Placing.{HasPlacedBelow}
use Rattle.sd_circuit.proofs.placing.place_all.Given as goal

abbrev pub invariant-loop-line : goal.invariant-loop-line
invariant-loop-line l = HasPlacedBelow l.ands l.order.items l.stack.items l.met.items l.placed.items l.line

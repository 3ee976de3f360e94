use Rattle.sd_circuit.specs.Placing.{BeganAt, placing_work}
use Rattle.sd_circuit.proofs.placing.place_from.Given as goal

abbrev pub invariant-loop-order : goal.invariant-loop-order
invariant-loop-order l = BeganAt l.ands l.order.items l.stack.items l.met l.placed l.fn.placed l.line

abbrev pub decreases-loop-order : goal.decreases-loop-order
decreases-loop-order l = placing_work l.met l.placed

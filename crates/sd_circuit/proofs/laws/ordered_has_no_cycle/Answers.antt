use Rattle.sd_circuit.proofs.Ordered.{ordered_no_cycle}
use Rattle.sd_circuit.proofs.laws.ordered_has_no_cycle.Goals as goal

pub returns : goal.returns
returns c = λ ands order k n ordered inside. ordered_no_cycle ands order k n ordered inside

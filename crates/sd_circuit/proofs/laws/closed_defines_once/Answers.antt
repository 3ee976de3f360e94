use Rattle.sd_circuit.proofs.Closed.{closed_once}
use Rattle.sd_circuit.proofs.laws.closed_defines_once.Goals as goal

pub returns : goal.returns
returns c = λ circuit closed. closed_once circuit closed

use Rattle.sd_circuit.proofs.Enough.{steps_enough}
use Rattle.sd_circuit.proofs.laws.steps_are_enough.Goals as goal

pub returns : goal.returns
returns c = λ variables ands k n lines inside on. steps_enough variables ands k n lines inside on

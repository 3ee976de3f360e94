use Rattle.sd_aiger.proofs.FaultBack.{fault_back}
use Rattle.sd_aiger.proofs.laws.one_fault.Goals as goal

pub returns : goal.returns
returns c = λ e f same. fault_back e f same

use Rattle.sd_tool.proofs.ByWorkers.{one_reading}
use Rattle.sd_tool.proofs.laws.workers.Goals as goal

pub returns : goal.returns
returns c = one_reading

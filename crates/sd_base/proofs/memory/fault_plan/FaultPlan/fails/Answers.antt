use Rattle.sd_base.proofs.AskedLemmas.{counts_requests}
use Rattle.sd_base.proofs.memory.fault_plan.FaultPlan.fails.Goals as goal

pub returns-clause-requests : goal.returns-clause-requests
returns-clause-requests c =
    counts_requests c.args.self.now c.count-nth.new.self c.args.call c.count-nth.ensures.counted
    c.count-nth.ensures.others

use Rattle.std.proofs.Common.{drop}
use Rattle.sd_move.proofs.ReturnSteps.{IsPuttingBack}
use Rattle.sd_move.proofs.going_back.put_all_back.Given as goal

abbrev pub invariant-loop-index : goal.invariant-loop-index
invariant-loop-index l = IsPuttingBack l.fn.m l.m l.fn.named (drop l.index l.fn.named)

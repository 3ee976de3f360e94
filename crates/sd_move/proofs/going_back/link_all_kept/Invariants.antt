use Rattle.std.proofs.Common.{drop}
use Rattle.sd_move.proofs.ReturnSteps.{IsLinkingKept}
use Rattle.sd_move.proofs.going_back.link_all_kept.Given as goal

abbrev pub invariant-loop-index : goal.invariant-loop-index
invariant-loop-index l = IsLinkingKept l.fn.m l.m l.fn.named (drop l.index l.fn.named)

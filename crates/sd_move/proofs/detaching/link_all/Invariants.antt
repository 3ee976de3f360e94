use Rattle.std.proofs.Common.{drop}
use Rattle.sd_move.proofs.LinkedAll.{IsLinking}
use Rattle.sd_move.proofs.detaching.link_all.Given as goal

abbrev pub invariant-loop-index : goal.invariant-loop-index
invariant-loop-index l = IsLinking l.fn.m l.m l.fn.place l.fn.numbers (drop l.index l.fn.numbers)

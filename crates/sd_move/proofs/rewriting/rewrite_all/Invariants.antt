use Rattle.std.proofs.Common.{drop}
use Rattle.sd_move.proofs.RewritingLoop.{IsRewriting}
use Rattle.sd_move.proofs.rewriting.rewrite_all.Given as goal

abbrev pub invariant-loop-index : goal.invariant-loop-index
invariant-loop-index l =
    IsRewriting l.fn.m l.m l.fn.place l.fn.numbers l.fn.named.items l.named.items (drop l.index l.fn.numbers) l.recent

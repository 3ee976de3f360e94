use Rattle.std.proofs.Common.{drop}
use Rattle.sd_move.proofs.Settled.{IsSettling}
use Rattle.sd_move.proofs.settling.settle.Given as goal

abbrev pub invariant-loop-index : goal.invariant-loop-index
invariant-loop-index l =
    IsSettling l.fn.m l.m l.named.items (drop l.index l.named.items)

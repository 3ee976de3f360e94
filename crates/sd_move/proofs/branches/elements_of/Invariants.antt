use Rattle.std.proofs.Common.{◌≡◌, take}
use Rattle.sd_manager.specs.Views.{pairs_at}
use Rattle.sd_move.proofs.branches.elements_of.Given as goal

-- the first pairs are there
abbrev pub invariant-loop-index : goal.invariant-loop-index
invariant-loop-index l = l.pairs.items ≡ take l.index (pairs_at l.m l.node)

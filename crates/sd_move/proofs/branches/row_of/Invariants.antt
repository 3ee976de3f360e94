use Rattle.std.proofs.Common.{take}
use Rattle.sd_move.specs.Branches.{IsRow}
use Rattle.sd_move.proofs.branches.row_of.Given as goal

-- the first primes are there
abbrev pub invariant-loop-index : goal.invariant-loop-index
invariant-loop-index l = IsRow (take l.index l.own) l.branches l.from l.row.items l.next

use Rattle.std.proofs.Common.{drop}
use Rattle.sd_move.proofs.SortedAll.{IsSorting}
use Rattle.sd_move.proofs.sorting.sort_upper.Given as goal

-- what is so where the nodes from the index on are left
abbrev pub invariant-loop-index : goal.invariant-loop-index
invariant-loop-index l =
    IsSorting l.fn.m l.m l.side l.upper l.lower l.numbers (drop l.index l.numbers) l.fn.entries.items l.entries.items
    l.fn.waiting.items l.waiting.items

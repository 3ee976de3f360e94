use Rattle.std.proofs.Common.{◌≡◌, ◌++◌, map, drop}
use Rattle.sd_move.specs.Sorting.{place_entry}
use Rattle.sd_move.proofs.sorting.enter_all.Given as goal

-- with those that are left all are entered
abbrev pub invariant-loop-index : goal.invariant-loop-index
invariant-loop-index l =
    l.entries.items ++ map (place_entry l.place) (drop l.index l.numbers)
    ≡ l.fn.entries.items ++ map (place_entry l.place) l.numbers

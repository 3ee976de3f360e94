use Rattle.std.proofs.Common.{◌+◌, drop, Bool}
use Rattle.sd_manager.specs.Views.{pairs_at}
use Rattle.sd_move.specs.Sorting.{TellsAllBelow}
use Rattle.sd_move.proofs.sorting.are_below.Given as goal

-- what is told of the rest of the list is told of all of it
abbrev pub invariant-loop-index : goal.invariant-loop-index
invariant-loop-index l = (all : Bool) →
    TellsAllBelow l.m l.child l.side (drop l.index (pairs_at l.m (2050 + l.number))) all →
    TellsAllBelow l.m l.child l.side (pairs_at l.m (2050 + l.number)) all

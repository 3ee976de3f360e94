use Rattle.std.proofs.Common.{◌≡◌, ◌++◌, map, take}
use Rattle.sd_manager.specs.Views.{pairs_at}
use Rattle.sd_records.specs.Listed.{codes_in}
use Rattle.sd_records.proofs.listing.push_pairs.Given as goal

-- the codes of the first elements are added
abbrev pub invariant-loop-index : goal.invariant-loop-index
invariant-loop-index l =
    l.pairs.items ≡ l.fn.pairs.items ++ map (codes_in l.marks) (take l.index (pairs_at l.m l.node))

use Rattle.std.proofs.Common.{◌+◌, ◌*◌, take}
use Rattle.std.specs.List.{AllByRecursion}
use Rattle.sd_manager.specs.Views.{pairs_at}
use Rattle.sd_records.specs.Listed.{AreListed, KeepsMarks, BothListed}
use Rattle.sd_records.proofs.writer.+add.Given as goal

-- each call from one of the two to the other is less
abbrev pub decreases-add_node : goal.decreases-add_node
decreases-add_node l = 2 * l.levels + 1

abbrev pub decreases-add_below : goal.decreases-add_below
decreases-add_below l = 2 * l.levels

-- the first elements have their entries
abbrev pub invariant-add_below-loop-index : goal.invariant-add_below-loop-index
invariant-add_below-loop-index l = record {
  listed : AreListed l.m l.listing;
  kept : KeepsMarks l.fn.listing l.listing;
  elements : AllByRecursion (BothListed l.listing.marks.items) (take l.index (pairs_at l.m l.node));
}

use Rattle.std.proofs.Common.{◌≡◌, ◌≤◌, length, drop}
use Rattle.sd_manager.specs.Valid.{IsTable}
use Rattle.sd_manager.specs.Making.{Extends}
use Rattle.sd_records.specs.Reading.{AreRead}
use Rattle.sd_records.specs.Stored.{entries_of, pair_count}
use Rattle.sd_records.proofs.reader.read_entries.Given as goal

-- the first entries have their nodes, and the others are left
abbrev pub invariant-loop-index : goal.invariant-loop-index
invariant-loop-index l = record {
  read : AreRead l.m (entries_of l.heads l.pairs) l.nodes.items;
  all : length l.nodes.items ≡ l.index;
  kept : Extends l.fn.m l.m;
  table : IsTable l.m;
  start : l.start ≤ length l.pairs;
  left : entries_of (drop l.index l.heads) (drop l.start l.pairs) ≡ drop l.index (entries_of l.heads l.pairs);
  counted : pair_count (drop l.index l.heads) ≡ length (drop l.start l.pairs);
}

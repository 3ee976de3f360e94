use Rattle.std.proofs.Common.{◌≡◌, ◌≤◌, ◌-◌, [], ◌∷◌, length}
use Rattle.sd_base.specs.Asked.{Adds, ToRead}
use Rattle.sd_base.proofs.ReadLemmas.{ReadSoFar}
use Rattle.sd_base.proofs.read_whole.take_in.Given as goal

-- a prefix of the file was read, and no more than one byte past the limit
abbrev pub invariant-reading : goal.invariant-reading
invariant-reading g l = record {
  files : g.F.Shelf.files l.shelf ≡ g.F.Shelf.files l.fn.shelf;
  so_far : ReadSoFar (g.F.Shelf.files l.fn.shelf) (g.F.Shelf.hand l.shelf) l.name l.bytes.items;
  within : length l.bytes.items ≤ 67108865;
  read_faults : g.F.Shelf.read_faults l.shelf ≡ g.F.Shelf.read_faults l.fn.shelf;
  unfinished : g.F.Shelf.unfinished l.shelf ≡ g.F.Shelf.unfinished l.fn.shelf;
  write_faults : g.F.Shelf.write_faults l.shelf ≡ g.F.Shelf.write_faults l.fn.shelf;
  asked : Adds g.F.Shelf.asked l.fn.shelf l.shelf (ToRead l.name ∷ []);
}

-- each turn reads at least a byte
abbrev pub decreases-reading : goal.decreases-reading
decreases-reading g l = 67108865 - length l.bytes.items

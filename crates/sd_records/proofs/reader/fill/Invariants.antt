use Rattle.std.proofs.Common.{◌≡◌, map, take}
use Rattle.sd_records.specs.Reading.{nodes_of}
use Rattle.sd_records.specs.Stored.{refs_of}
use Rattle.sd_records.proofs.reader.fill.Given as goal

-- the nodes of the first pairs are added
abbrev pub invariant-loop-index : goal.invariant-loop-index
invariant-loop-index l = l.elements.items ≡ map (nodes_of l.nodes) (map refs_of (take l.index l.pairs))

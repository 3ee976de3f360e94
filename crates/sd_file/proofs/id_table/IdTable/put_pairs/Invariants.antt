use Rattle.std.proofs.Common.{◌≡◌, length}
use Rattle.sd_base.specs.Reading.{each}
use Rattle.sd_file.specs.Reads.{pair_at, two_by_two}
use Rattle.sd_file.specs.Steps.{ids_of, put_before}
use Rattle.sd_file.proofs.id_table.IdTable.put_pairs.Given as goal

-- the pairs of what is left, put behind those that were read, are those of all children
abbrev pub invariant-loop-rest : goal.invariant-loop-rest
invariant-loop-rest l =
    put_before l.pairs.items (each (pair_at (ids_of l.self) l.line) (two_by_two l.rest))
    ≡ put_before l.initial.pairs.items (each (pair_at (ids_of l.self) l.line) (two_by_two l.children))

abbrev pub decreases-loop-rest : goal.decreases-loop-rest
decreases-loop-rest l = length l.rest

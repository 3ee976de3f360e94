use Rattle.std.proofs.Common.{◌≡◌, ℕ, List, [], ◌∷◌, ◌++◌, length}
use Rattle.sd_base.specs.Asked.{Adds, ToWrite}
use Rattle.sd_base.specs.Files.{told_with}
use Rattle.sd_base.specs.Shelf.{Writing}
use Rattle.sd_base.proofs.write_whole.write_all_to.Given as goal

-- the file in hand holds a prefix of the bytes, and the rest is to come
abbrev pub invariant-loop-rest : goal.invariant-loop-rest
invariant-loop-rest g l =
    ((front : List ℕ) × (front ++ l.rest ≡ l.bytes)
    × (g.F.Shelf.files l.shelf ≡ told_with (g.F.Shelf.files l.fn.shelf) l.name front))
    × (g.F.Shelf.hand l.shelf ≡ Writing l.name)
    × (g.F.Shelf.write_faults l.shelf ≡ g.F.Shelf.write_faults l.fn.shelf)
    × (g.F.Shelf.read_faults l.shelf ≡ g.F.Shelf.read_faults l.fn.shelf)
    × (g.F.Shelf.unfinished l.shelf ≡ g.F.Shelf.unfinished l.fn.shelf)
    × Adds g.F.Shelf.asked l.fn.shelf l.shelf (ToWrite l.name ∷ [])

abbrev pub decreases-loop-rest : goal.decreases-loop-rest
decreases-loop-rest g l = length l.rest

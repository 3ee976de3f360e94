-- Marks of nodes.
use Rattle.std.specs.Prelude.{◌≡◌, ℕ, Some}
use Rattle.std.specs.Option.{IsSome}
use Rattle.std.specs.FinMap.{get, insert}
use Rattle.sd_manager.specs.Table.{Table}

-- the table with this mark of a node
abbrev pub with_mark : Table → ℕ → ℕ → Table
with_mark t n value = record t { marks = insert t.marks n value }

-- each linked node has the mark 0
abbrev pub AreUnmarked : Table → Type 0
AreUnmarked t = (n : ℕ) → IsSome (get t.linked n) → get t.marks n ≡ Some 0

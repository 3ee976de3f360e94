-- A free record becomes that of a node: the second half of an insertion, whose first half takes the run.
use Rattle.std.specs.Prelude.{◌≡◌, ℕ, ◌<◌, List, None}
use Rattle.std.specs.FinMap.{insert, remove}
use Rattle.sd_unique.specs.Nodes.{Nodes, key_at}

-- a number below `records` that no node has
abbrev pub IsFreeNumber : Nodes → ℕ → Type 0
IsFreeNumber a n = (n < a.records) × (key_at a n ≡ None)

-- the nodes with a new linked node of this number, over a run that was loose
abbrev pub occupied : Nodes → ℕ → ℕ → ℕ → List (ℕ × ℕ) → Nodes
occupied a n place start list =
    record a {
      linked = insert a.linked n (place, list);
      loose = remove a.loose start;
      uses = insert a.uses n 0;
      marks = insert a.marks n 0;
    }

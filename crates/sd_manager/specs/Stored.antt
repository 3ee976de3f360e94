-- How a manager is kept: its nodes with their uses, and its roots in slots.
use Rattle.std.specs.Prelude.{◌≡◌, ℕ, ◌+◌, ◌^◌, ◌<◌, ◌≤◌, List, [], ◌∷◌, length, Option, Some, None, slice_index_or}
use Rattle.std.specs.Prelude.{Bool, true, false, ◌==◌, if◌then◌else◌}
use Rattle.std.specs.List.{sum_by}
use Rattle.std.specs.Option.{IsSome}
use Rattle.std.specs.Ordering.{nat_cmp}
use Rattle.std.specs.FinMap.{FinMap, empty, get, values, from_entries}
use Rattle.sd_unique.specs.Nodes.{Nodes, IsNodes}
use Rattle.sd_counts.specs.Counts.{Counts}
use Rattle.sd_counts.specs.Right.{AreOf}
use Rattle.sd_vtree.specs.Numbered.{Numbered}
use Rattle.sd_manager.specs.Table.{Table, key_at, uses_of}
use Rattle.sd_manager.specs.Valid.{IsTable}

-- the codes in slots with the numbers of the slots, the first at this number
abbrev pub held_from : ℕ → List (Option ℕ) → List (ℕ × ℕ)
held_from i [] = []
held_from i (None ∷ slots) = held_from (i + 1) slots
held_from i (Some c ∷ slots) = (i, c) ∷ held_from (i + 1) slots

-- the map from the numbers of the slots to the codes in them
abbrev pub held_map : List (Option ℕ) → FinMap nat_cmp ℕ
held_map slots = from_entries (held_from 0 slots)

-- no slot from the one index up to the other is empty
pub record AreFilled (slots : List (Option ℕ)) (from to : ℕ) : Type 0 where
  pub each : (k : ℕ) → from ≤ k → k < to → IsSome (slice_index_or slots k None)

-- what holds of the slots of roots: as many as their numbers have room for, and none before the first is empty
pub record AreSlots (slots : List (Option ℕ)) (first : ℕ) : Type 0 where
  pub fits : length slots < 2 ^ 32
  pub filled : AreFilled slots 0 first

-- the table that these parts stand for
abbrev pub table_of : Numbered → Nodes → FinMap nat_cmp ℕ → ℕ → Option ℕ → Table
table_of vtree nodes roots epoch moving =
    record {
      vtree = vtree;
      linked = nodes.linked;
      detached = nodes.detached;
      loose = nodes.loose;
      marks = nodes.marks;
      free = nodes.free;
      roots = roots;
      epoch = epoch;
      records = nodes.records;
      extent = nodes.extent;
      bound = nodes.bound;
      moving = moving;
    }

-- the parts stand for a valid table, and the uses of each node, linked or detached, are counted
pub record IsStored (nodes : Nodes) (t : Table) : Type 0 where
  pub table : IsTable t
  pub valid : IsNodes nodes
  pub uses : (n : ℕ) (k : ℕ × List (ℕ × ℕ)) → key_at t n ≡ Some k → get nodes.uses n ≡ Some (uses_of t (2050 + n))

-- how many roots hold the node of a number
abbrev pub held_count : FinMap nat_cmp ℕ → ℕ → ℕ
held_count roots n = sum_by (λ held. if held == 2050 + n then 1 else 0) (values roots)

-- the roots that are counted: all of them from some call on, and none before
abbrev pub counted_roots : Bool → FinMap nat_cmp ℕ → FinMap nat_cmp ℕ
counted_roots true roots = roots
counted_roots false roots = empty

-- The parts are stored so, and the counts are right for the lists of the nodes and for what the counted roots hold.
pub record IsKept (nodes : Nodes) (counts : Counts) (is_counting : Bool) (t : Table) : Type 0 where
  pub stored : IsStored nodes t
  pub counted : AreOf nodes (held_count (counted_roots is_counting t.roots)) counts

-- What making a node and holding one do to a manager, and when there is no room.
use Rattle.std.specs.Prelude.{◌≡◌, ◌⊎◌, ℕ, ◌+◌, ◌-◌, ◌*◌, ◌/◌, ◌<◌, ◌≤◌, max, List, length, Some, None}
use Rattle.std.specs.Option.{IsSome}
use Rattle.std.specs.List.Sorted.{IsPermutation}
use Rattle.std.specs.FinMap.{get, insert, remove}
use Rattle.sd_runs.specs.declared.error.TakeError.{TakeError}
use Rattle.sd_runs.specs.declared.error.TakeError.TheVariants.{ArenaFull, OutOfMemory}
use Rattle.sd_model.specs.Tree.{leaves}
use Rattle.sd_model.specs.Diagram.{Diagram, meaning}
use Rattle.sd_vtree.specs.Numbered.{plain_tree}
use Rattle.sd_laws.specs.Pairs.{HasValue}
use Rattle.sd_laws.specs.Shown.{Keeps}
use Rattle.sd_unique.specs.Inserting.{with_count, extent_after}
use Rattle.sd_manager.specs.Table.{Table, key_at, free_count}
use Rattle.sd_manager.specs.Shown.{ShowsCanonical, IsPartitionAt}

-- Every node, linked or detached, stays as it was with its mark, and so do the vtree, the roots and all else but what
-- new nodes take. A new node has the mark 0.
pub record Extends (old new : Table) : Type 0 where
  pub vtree : new.vtree ≡ old.vtree
  pub nodes : Keeps (get old.linked) (get new.linked)
  pub marks : (n : ℕ) (k : ℕ × List (ℕ × ℕ)) → get old.linked n ≡ Some k → get new.marks n ≡ get old.marks n
  pub detached_marks : (n : ℕ) (k : ℕ × List (ℕ × ℕ)) → get old.detached n ≡ Some k →
      get new.marks n ≡ get old.marks n
  pub fresh : (n : ℕ) → get old.linked n ≡ None → IsSome (get new.linked n) → get new.marks n ≡ Some 0
  pub detached : new.detached ≡ old.detached
  pub loose : new.loose ≡ old.loose
  pub roots : new.roots ≡ old.roots
  pub epoch : new.epoch ≡ old.epoch
  pub bound : new.bound ≡ old.bound
  pub moving : new.moving ≡ old.moving
  pub records : old.records ≤ new.records
  pub extent : old.extent ≤ new.extent

-- the code shows a canonical diagram that has the value of the partition
pub record IsMade (t : Table) (c : ℕ) (ds : List (Diagram × Diagram)) : Type 0 where
  pub diagram : Diagram
  pub is : ShowsCanonical t c diagram
  pub value : HasValue ds (meaning diagram)

-- no run of this length is free, and the arena has no room for one more
abbrev pub IsFull : Table → ℕ → Type 0
IsFull t n = (free_count t n ≡ 0) × (t.bound < t.extent + n)

-- the answer comes for a full arena and has the sum that passes the bound, or memory ran out
abbrev pub IsRefusal : Table → ℕ → TakeError → Type 0
IsRefusal t n (ArenaFull elements) = IsFull t n × (elements ≡ t.extent + n)
IsRefusal t n OutOfMemory = Unit {0}

-- The number passes the bound, and is the extent with a length: at least 2, and at most one element for each constant,
-- each literal and each linked node. Of those there are at most half of the extent, since each has two elements.
pub record IsPastBound (t : Table) (elements : ℕ) : Type 0 where
  pub past : t.bound < elements
  pub least : t.extent + 2 ≤ elements
  pub most : elements ≤ t.extent + (t.extent / 2 + 2 * leaves (plain_tree t.vtree) + 2)

-- the arena's rule: a full arena is answered only so, or memory ran out
abbrev pub KeepsRule : Table → TakeError → Type 0
KeepsRule t (ArenaFull elements) = IsPastBound t elements
KeepsRule t OutOfMemory = Unit {0}

-- no node has the value of the partition yet
abbrev pub IsNeeded : Table → ℕ → List (ℕ × ℕ) → TakeError → Type 0
IsNeeded t place pairs (ArenaFull elements) =
    (c : ℕ) (ds : List (Diagram × Diagram)) → IsPartitionAt t place pairs ds → ¬ (IsMade t c ds)
IsNeeded t place pairs OutOfMemory = Unit {0}

-- a number below `records` that no node has, or `records` where each number below it is that of a node
abbrev pub IsNewNumber : Table → ℕ → Type 0
IsNewNumber t n =
    ((n < t.records) × (key_at t n ≡ None)) ⊎ ((n ≡ t.records) × ((m : ℕ) → m < n → IsSome (key_at t m)))

-- The table with a new linked node of this number, with mark 0. Its run was a free one of that length where there was
-- one, and else the extent has grown by it.
abbrev pub with_new_node : Table → ℕ → ℕ → List (ℕ × ℕ) → Table
with_new_node t number place list =
    record t {
      linked = insert t.linked number (place, list);
      marks = insert t.marks number 0;
      free = with_count t.free (length list) (free_count t (length list) - 1);
      records = max t.records (number + 1);
      extent = extent_after (free_count t (length list)) t.extent (length list);
    }

-- One new node was linked at the place, with the elements by ascending codes and mark 0, and there was room for it.
-- Nothing else changed.
pub record HasNewNode (old new : Table) (place : ℕ) (elements : List (ℕ × ℕ)) (c : ℕ) : Type 0 where
  pub number : ℕ
  pub list : List (ℕ × ℕ)
  pub code : c ≡ 2050 + number
  pub absent : get old.linked number ≡ None
  pub order : IsPermutation elements list
  pub linked : new.linked ≡ insert old.linked number (place, list)
  pub mark : get new.marks number ≡ Some 0
  pub room : ¬ IsFull old (length elements)
  pub new_number : IsNewNumber old number
  pub is : new ≡ with_new_node old number place list

-- the table in which this root holds the node with this code
abbrev pub with_root : Table → ℕ → ℕ → Table
with_root t root c = record t { roots = insert t.roots root c }

-- the table without this root
abbrev pub without_root : Table → ℕ → Table
without_root t root = record t { roots = remove t.roots root }

-- The ids of a vtree file, each with the position of its node.
use Rattle.std.specs.Prelude.{◌≡◌, ℕ, ◌-◌, ◌*◌, ◌≤◌, ◌==◌, List, map, slice_index, Option, Some, None, Result, Ok}
use Rattle.std.specs.FinMap.{FinMap, from_entries, get}
use Rattle.std.specs.List.{position_or_len}
use Rattle.std.specs.Ordering.{nat_cmp}
use Rattle.sd_base.specs.Reading.{◌>>=◌}
use Rattle.sd_laws.specs.Parts.{IsPart}
use Rattle.sd_model.specs.Tree.{Tree, variables, position}
use Rattle.sd_vfile.specs.Reads.{Entry, tree_with_id, node_lines, vtree_file}

-- where the positions of a part of a vtree begin: two for each variable that stands before the part's first
abbrev pub first_position : Tree → Tree → ℕ
first_position whole part = 2 * position_or_len (λ x. x == slice_index (variables part) 0) (variables whole)

-- the position of a part's root in the whole vtree
abbrev pub position_in : Tree → Tree → ℕ
position_in whole part = position part (first_position whole part)

-- Each id of a text over the variables 1 to v with the position of its node in the tree of the whole text, or the text
-- of the first fault. The faults are those of `vtree_file`.
unfoldable pub ids_of : ℕ → List ℕ → Result (FinMap nat_cmp ℕ) (List ℕ)
ids_of v bytes = do
  tree ← vtree_file v bytes
  entries ← node_lines v bytes
  Ok (from_entries (map (λ e. (e.id, position_in tree e.tree)) entries))

-- ---- what this says of each id

-- A position is there just where a line's tree is. Then this tree is a part of the whole one, and its root has the
-- position.
abbrev pub IsPlace : Tree → Option Tree → Option ℕ → Type 0
IsPlace whole (Some part) found = (base : ℕ) × IsPart part base whole 0 × (found ≡ Some (position part base))
IsPlace whole None found = found ≡ None

-- each id has the place of its line's tree in the tree of the text, and an id that no line has has none
pub record HasPlaces (v : ℕ) (bytes : List ℕ) (ids : FinMap nat_cmp ℕ) : Type 0 where
  pub tree : Tree
  pub entries : List Entry
  pub read : vtree_file v bytes ≡ Ok tree
  pub lines : node_lines v bytes ≡ Ok entries
  pub places : (id : ℕ) → IsPlace tree (tree_with_id id entries) (get ids id)

-- each position is one of a vtree over v variables, whose 2v - 1 nodes have the positions from 0
abbrev pub ArePositions : ℕ → FinMap nat_cmp ℕ → Type 0
ArePositions v ids = (id p : ℕ) → get ids id ≡ Some p → p ≤ 2 * v - 2

-- What nodes of a manager show that are built of the nodes of a file.
use Rattle.std.specs.Prelude.{◌≡◌, ℕ, ◌+◌, ◌≤◌, ◌<◌, Bool, true, false, ◌&&◌, List, [], map, length}
use Rattle.std.specs.Prelude.{slice_get, slice_index_or, Some}
use Rattle.sd_model.specs.Expression.{node_values}
use Rattle.sd_manager.specs.Table.{Table}
use Rattle.sd_apply.specs.Answers.{HasAnswer}
use Rattle.sd_file.specs.Files.{entry_pairs}
use Rattle.sd_file.specs.Reads.{File, without_ids}

-- the values of all nodes of a file
abbrev pub values_of : File → List Bool → List Bool
values_of f assignment = node_values [] (map (λ e. without_ids e.node) f.nodes) assignment

-- the value of the node of a number, counted from 0
abbrev pub value_at : File → ℕ → List Bool → Bool
value_at f index assignment = slice_index_or (values_of f assignment) index false

-- the value of a prime and a sub
abbrev pub pair_value : File → List Bool → ℕ × ℕ → Bool
pair_value f assignment pair = value_at f pair.0 assignment && value_at f pair.1 assignment

-- ---- the nodes that the last one reaches

-- a node has a mark
abbrev pub IsMarked : List Bool → ℕ → Type 0
IsMarked marks index = slice_index_or marks index false ≡ true

-- a prime and a sub have marks
pub record AreBothMarked (marks : List Bool) (pair : ℕ × ℕ) : Type 0 where
  pub prime : IsMarked marks pair.0
  pub sub : IsMarked marks pair.1

-- the last node has a mark, and from an index on the primes and subs of each node that has one
pub record AreReached (f : File) (from : ℕ) (marks : List Bool) : Type 0 where
  pub size : length marks ≡ length f.nodes
  pub last : (index : ℕ) → index + 1 ≡ length f.nodes → IsMarked marks index
  pub children : (index element : ℕ) (pair : ℕ × ℕ) → from ≤ index → IsMarked marks index
      → slice_get (entry_pairs f index) element ≡ Some pair → AreBothMarked marks pair

-- the first pairs of a node have marks, in addition to what had one, and all that is new stands below the node
pub record HasMarked (f : File) (index count : ℕ) (old new : List Bool) : Type 0 where
  pub size : length new ≡ length old
  pub more : (n : ℕ) → IsMarked old n → IsMarked new n
  pub above : (n : ℕ) → index ≤ n → IsMarked new n → IsMarked old n
  pub children : (element : ℕ) (pair : ℕ × ℕ) → element < count
      → slice_get (entry_pairs f index) element ≡ Some pair → AreBothMarked new pair

-- the first nodes of the file have these answers where they are marked
pub record AreBuilt (t : Table) (f : File) (marks : List Bool) (built : List ℕ) : Type 0 where
  pub each : (index : ℕ) → index < length built → IsMarked marks index
      → HasAnswer t (value_at f index) (slice_index_or built index 0)

-- so have the primes and subs of a node
pub record AreChildrenBuilt (t : Table) (f : File) (index : ℕ) (built : List ℕ) : Type 0 where
  pub prime : (element : ℕ) (pair : ℕ × ℕ) → slice_get (entry_pairs f index) element ≡ Some pair
      → HasAnswer t (value_at f pair.0) (slice_index_or built pair.0 0)
  pub sub : (element : ℕ) (pair : ℕ × ℕ) → slice_get (entry_pairs f index) element ≡ Some pair
      → HasAnswer t (value_at f pair.1) (slice_index_or built pair.1 0)

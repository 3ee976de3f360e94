-- What the nodes of a file show of themselves, and what is known of each.
use Rattle.std.specs.Prelude.{ℕ, ◌+◌, ◌≤◌, ◌<◌, false, List, [], ◌∷◌, map, length, slice_index_or, unsigned_abs}
use Rattle.std.specs.List.{AllByRecursion}
use Rattle.sd_model.specs.Expression.{FileConstant, FileLiteral, FileDecomposition}
use Rattle.sd_model.specs.Tree.{AreDistinct}
use Rattle.sd_file.specs.declared.file.FileNode.{FileNode}
use Rattle.sd_file.specs.declared.file.FileNode.TheVariants as kinds
use Rattle.sd_file.specs.Reads.{Node, Entry, File}

-- what stands for the entry of a number past the last
abbrev pub no_entry : Entry
no_entry = record { id = 0; node = (0, FileConstant false) }

-- the entry of a number, counted from 0
abbrev pub entry_at : File → ℕ → Entry
entry_at f index = slice_index_or f.nodes index no_entry

-- the pairs of a node
abbrev pub pairs_in : Node → List (ℕ × ℕ)
pairs_in (vtree, FileConstant value) = []
pairs_in (vtree, FileLiteral literal) = []
pairs_in (vtree, FileDecomposition pairs) = pairs

-- the pairs of the node of a number
abbrev pub entry_pairs : File → ℕ → List (ℕ × ℕ)
entry_pairs f index = pairs_in (entry_at f index).node

-- what a node is, with the number of its pairs
abbrev pub kind_of : Node → FileNode
kind_of (vtree, FileConstant value) = kinds.Constant value
kind_of (vtree, FileLiteral literal) = kinds.Literal vtree literal
kind_of (vtree, FileDecomposition pairs) = kinds.Decomposition vtree (length pairs)

-- ---- what is known of a file

-- a prime and a sub that are numbers of earlier nodes
pub record IsEarlier (index : ℕ) (pair : ℕ × ℕ) : Type 0 where
  pub prime : pair.0 < index
  pub sub : pair.1 < index

-- a literal is of a variable of 1 to v, and a decomposition has pairs, all of earlier nodes
abbrev pub FitsAt : ℕ → ℕ → Node → Type 0
FitsAt v index (vtree, FileConstant value) = Unit {0}
FitsAt v index (vtree, FileLiteral literal) = (1 ≤ unsigned_abs literal) × (unsigned_abs literal ≤ v)
FitsAt v index (vtree, FileDecomposition pairs) = (1 ≤ length pairs) × AllByRecursion (IsEarlier index) pairs

-- this is so of each entry, where the first has a number
abbrev pub FitFrom : ℕ → ℕ → List Entry → Type 0
FitFrom v index [] = Unit {0}
FitFrom v index (e ∷ es) = FitsAt v index e.node × FitFrom v (1 + index) es

-- 1 to 1,024 variables, 1 to 67,108,864 nodes of distinct ids, and each fits behind the earlier ones
pub record IsFile (f : File) : Type 0 where
  pub at_least_one : 1 ≤ f.variables
  pub within_limit : f.variables ≤ 1024
  pub filled : 1 ≤ length f.nodes
  pub count : length f.nodes ≤ 67108864
  pub fit : FitFrom f.variables 0 f.nodes
  pub distinct : AreDistinct (map (λ e. e.id) f.nodes)

-- what a node shows of itself fits: a literal is of a variable of 1 to v, and a decomposition has pairs
abbrev pub IsKindOver : ℕ → FileNode → Type 0
IsKindOver v (kinds.Constant value) = Unit {0}
IsKindOver v (kinds.Literal vtree literal) = (1 ≤ unsigned_abs literal) × (unsigned_abs literal ≤ v)
IsKindOver v (kinds.Decomposition vtree count) = 1 ≤ count

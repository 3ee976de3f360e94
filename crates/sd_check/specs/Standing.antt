-- What a node of a file stands for where no rule is broken, for the contracts of private functions and for proofs.
use Rattle.std.specs.Prelude.{◌≡◌, ℕ, true, List, Some}
use Rattle.std.specs.List.{AllZip}
use Rattle.sd_model.specs.Tree.{Tree}
use Rattle.sd_model.specs.Diagram.{Diagram, meaning, is_constant}
use Rattle.sd_model.specs.Canonical.{IsCanonical}
use Rattle.sd_model.specs.Expression.{FileConstant, FileLiteral, FileDecomposition}
use Rattle.sd_laws.specs.Parts.{HasPosition}
use Rattle.sd_laws.specs.Values.{IsSame}
use Rattle.sd_file.specs.Built.{value_at}
use Rattle.sd_file.specs.Reads.{Node as FileNode, File}
use Rattle.sd_check.specs.Rules.{Places, node_at}

-- a constant is one for the file too, and another diagram stands at the position of the node's vtree id
abbrev pub IsPlacedAs : Places → FileNode → Diagram → Type 0
IsPlacedAs ids (vtree, FileConstant value) d = is_constant d ≡ true
IsPlacedAs ids (vtree, FileLiteral literal) d = (p : ℕ) × (ids vtree ≡ Some p) × HasPosition d p
IsPlacedAs ids (vtree, FileDecomposition pairs) d = (p : ℕ) × (ids vtree ≡ Some p) × HasPosition d p

-- a canonical diagram with the value of the node of a number, at its place
pub record Represents (t : Tree) (ids : Places) (f : File) (i : ℕ) (d : Diagram) : Type 0 where
  pub canonical : IsCanonical t 0 d
  pub value : IsSame (meaning d) (value_at f i)
  pub place : IsPlacedAs ids (node_at f i) d

-- a prime and a sub of the file, and those of a list of pairs
abbrev pub RepresentsPair : Tree → Places → File → ℕ × ℕ → Diagram × Diagram → Type 0
RepresentsPair t ids f e d = Represents t ids f e.0 d.0 × Represents t ids f e.1 d.1

-- each element of the file by its diagrams
abbrev pub RepresentPairs : Tree → Places → File → List (ℕ × ℕ) → List (Diagram × Diagram) → Type 0
RepresentPairs t ids f = AllZip (RepresentsPair t ids f)

-- Nodes of a file that unfold to a diagram, whatever the order of their elements.
use Rattle.std.specs.Prelude.{◌≡◌, ℕ, suc, Bool, true, false, List, [], ◌∷◌, Some, ℤ, pos, negsuc}
use Rattle.std.specs.List.Sorted.{IsPermutation}
use Rattle.sd_model.specs.Diagram.{Diagram, Bottom, Top, Literal, Decomposition, Elements, End, Pair}
use Rattle.sd_model.specs.Expression.{FileConstant, FileLiteral, FileDecomposition}
use Rattle.sd_file.specs.Reads.{File}
use Rattle.sd_check.specs.Rules.{Places, node_at}

-- a literal of DIMACS is that of the variable with this sign
abbrev pub IsLiteralOf : ℕ → Bool → ℤ → Type 0
IsLiteralOf x positive (pos n) = (n ≡ x) × (positive ≡ true)
IsLiteralOf x positive (negsuc i) = (suc i ≡ x) × (positive ≡ false)

abbrev mutual
  -- The node of a number is a copy of the diagram: it is of the same kind, its vtree id is of the diagram's
  -- position, and its elements, in some order, are copies of the diagram's.
  pub IsCopy : Places → File → ℕ → Diagram → Type 0
  IsCopy ids f i Bottom = (vtree : ℕ) × (node_at f i ≡ (vtree, FileConstant false))
  IsCopy ids f i Top = (vtree : ℕ) × (node_at f i ≡ (vtree, FileConstant true))
  IsCopy ids f i (Literal p x positive) =
      (vtree : ℕ) × (literal : ℤ) × (node_at f i ≡ (vtree, FileLiteral literal))
      × (ids vtree ≡ Some p) × IsLiteralOf x positive literal
  IsCopy ids f i (Decomposition p elements) =
      (vtree : ℕ) × (pairs order : List (ℕ × ℕ)) × (node_at f i ≡ (vtree, FileDecomposition pairs))
      × (ids vtree ≡ Some p) × IsPermutation pairs order × AreCopies ids f order elements

  -- each pair is of copies of the prime and the sub of its element
  pub AreCopies : Places → File → List (ℕ × ℕ) → Elements → Type 0
  AreCopies ids f [] End = Unit {0}
  AreCopies ids f [] (Pair p s rest) = ⊥
  AreCopies ids f (e ∷ es) End = ⊥
  AreCopies ids f (e ∷ es) (Pair p s rest) =
      IsCopy ids f e.0 p × IsCopy ids f e.1 s × AreCopies ids f es rest

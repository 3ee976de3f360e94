-- Nodes of a numbered vtree at the ends of paths, for the contracts of private functions.
use Rattle.std.specs.Prelude.{◌≡◌, ℕ, List, [], ◌∷◌, Option, Some, None, length}
use Rattle.std.specs.Option.{option_map}
use Rattle.sd_model.specs.declared.trees.Side.{Side}
use Rattle.sd_model.specs.declared.trees.Side.TheVariants.{Left, Right}
use Rattle.sd_vtree.specs.Numbered.{Numbered, NumberedLeaf, NumberedNode, number_of, numbers}

-- the subtree at the end of a path
abbrev pub part_at : Numbered → List Side → Option Numbered
part_at t [] = Some t
part_at (NumberedLeaf n x) (side ∷ path) = None
part_at (NumberedNode n l r) (Left ∷ path) = part_at l path
part_at (NumberedNode n l r) (Right ∷ path) = part_at r path

-- the node at the end of the path has this number
abbrev pub IsAtPath : Numbered → List Side → ℕ → Type 0
IsAtPath t path n = option_map number_of (part_at t path) ≡ Some n

-- The vtrees differ at most below the node at the end of a path, which has the same number and as many nodes below it
-- in both.
abbrev pub KeepsAlong : Numbered → Numbered → List Side → Type 0
KeepsAlong t u [] = (number_of u ≡ number_of t) × (length (numbers u) ≡ length (numbers t))
KeepsAlong (NumberedNode m l r) (NumberedNode n k s) (Left ∷ path) = (n ≡ m) × (s ≡ r) × KeepsAlong l k path
KeepsAlong (NumberedNode m l r) (NumberedNode n k s) (Right ∷ path) = (n ≡ m) × (k ≡ l) × KeepsAlong r s path
KeepsAlong _ _ (_ ∷ _) = ⊥

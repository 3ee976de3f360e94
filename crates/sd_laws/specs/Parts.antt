-- Subtrees of a vtree with the positions of their nodes, and where a diagram stands.
use Rattle.std.specs.Prelude.{◌≡◌, ℕ, Option, Some, None, ◌==◌, if◌then◌else◌, slice_get}
use Rattle.sd_model.specs.Tree.{Tree, Leaf, Node, position, right_base}
use Rattle.sd_model.specs.Diagram.{Diagram, Literal, Decomposition}
use Rattle.sd_model.specs.Canonical.{IsCanonical}
use Rattle.sd_vtree.specs.Numbered.{Numbered, numbers, plain_tree, or_else}

-- s with positions counted from c is a subtree of t with positions counted from b
pub data IsPart : Tree → ℕ → Tree → ℕ → Type 0 where
  here : {t : Tree} {b : ℕ} → IsPart t b t b
  in_left : {s l r : Tree} {c b : ℕ} → IsPart s c l b → IsPart s c (Node l r) b
  in_right : {s l r : Tree} {c b : ℕ} → IsPart s c r (right_base l b) → IsPart s c (Node l r) b

-- the position of a variable's leaf
abbrev pub leaf_position : Tree → ℕ → ℕ → Option ℕ
leaf_position (Leaf y) base x = if y == x then Some base else None
leaf_position (Node l r) base x = or_else (leaf_position l base x) (leaf_position r (right_base l base) x)

-- where a diagram stands that is no constant
abbrev pub HasPosition : Diagram → ℕ → Type 0
HasPosition (Literal q x positive) p = q ≡ p
HasPosition (Decomposition q elements) p = q ≡ p
HasPosition _ p = ⊥

-- the node with the number u has these children, with positions from the base on
pub record IsInner (t : Numbered) (u : ℕ) (left right : Tree) (base : ℕ) : Type 0 where
  pub part : IsPart (Node left right) base (plain_tree t) 0
  pub number : slice_get (numbers t) (position (Node left right) base) ≡ Some u

-- the diagram is canonical for some tree
abbrev pub IsCanonicalForSome : Diagram → Type 0
IsCanonicalForSome d = (t : Tree) × (base : ℕ) × IsCanonical t base d

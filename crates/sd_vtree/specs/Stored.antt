-- How a numbered vtree is kept in vectors.
use Rattle.std.specs.Prelude.{◌≡◌, ℕ, zero, suc, ◌+◌, ◌<◌, List, ◌∷◌, ◌++◌, length, Option, Some, None, slice_get}
use Rattle.std.specs.Prelude.{slice_index}
use Rattle.sd_model.specs.Tree.{leaves}
use Rattle.sd_vtree.specs.declared.shape.Shape.{Shape}
use Rattle.sd_vtree.specs.declared.shape.Shape.TheVariants.{Leaf, Inner}
use Rattle.sd_vtree.specs.Numbered.{Numbered, NumberedLeaf, NumberedNode, number_of, numbers, plain_tree, IsNumbered}

-- the shape of a subtree's root
abbrev pub shape_of : Numbered → Shape
shape_of (NumberedLeaf n x) = Leaf x
shape_of (NumberedNode n l r) = Inner (number_of l) (number_of r)

-- each node's shape stands at its number
abbrev pub HasShapes : Numbered → List Shape → Type 0
HasShapes (NumberedLeaf n x) nodes = slice_get nodes n ≡ Some (Leaf x)
HasShapes (NumberedNode n l r) nodes =
    (slice_get nodes n ≡ Some (Inner (number_of l) (number_of r))) × HasShapes l nodes × HasShapes r nodes

-- a node over two subtrees that are read by its children's numbers
abbrev pub tree_below : (ℕ → Numbered) → ℕ → Option Shape → Numbered
tree_below read n None = NumberedLeaf n 0
tree_below read n (Some (Leaf x)) = NumberedLeaf n x
tree_below read n (Some (Inner l r)) = NumberedNode n (read l) (read r)

-- the subtree below a number, which has at most k nodes
unfoldable pub tree_in : ℕ → List Shape → ℕ → Numbered
tree_in zero nodes n = NumberedLeaf n 0
tree_in (suc k) nodes n = tree_below (tree_in k nodes) n (slice_get nodes n)

-- how many nodes stand at or below each node is kept at its number
abbrev pub HasSizes : Numbered → List ℕ → Type 0
HasSizes (NumberedLeaf n x) sizes = slice_get sizes n ≡ Some 1
HasSizes (NumberedNode n l r) sizes =
    (slice_get sizes n ≡ Some (length (numbers l ++ n ∷ numbers r))) × HasSizes l sizes × HasSizes r sizes

-- the vectors hold this tree
pub record HoldsTree (nodes : List Shape) (positions order leaf_list : List ℕ) (t : Numbered) : Type 0 where
  pub stored : HasShapes t nodes
  pub ordered : order ≡ numbers t
  pub counted : length nodes ≡ length (numbers t)
  pub placed : length positions ≡ length (numbers t)
  pub inverse : (p : ℕ) → p < length (numbers t) → slice_index positions (slice_index (numbers t) p) ≡ p
  pub listed : length leaf_list ≡ leaves (plain_tree t)
  pub found : (x : ℕ) → x < leaves (plain_tree t) → slice_get nodes (slice_index leaf_list x) ≡ Some (Leaf (x + 1))
  pub valid : IsNumbered t

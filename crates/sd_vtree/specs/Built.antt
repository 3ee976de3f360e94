-- The numbered vtree that a plain one begins as: its numbers are the positions.
use Rattle.std.specs.Prelude.{ℕ, ◌+◌, List, [], ◌∷◌, ◌++◌, length}
use Rattle.sd_model.specs.Tree.{Tree, Leaf, Node, position, right_base}
use Rattle.sd_vtree.specs.declared.shape.Shape.{Shape}
use Rattle.sd_vtree.specs.declared.shape.Shape.TheVariants.{Leaf as LeafShape, Inner}
use Rattle.sd_vtree.specs.Numbered.{Numbered, NumberedLeaf, NumberedNode, number_of}

-- the tree with its positions as numbers, counted from base
abbrev pub numbered_from : ℕ → Tree → Numbered
numbered_from base (Leaf x) = NumberedLeaf base x
numbered_from base (Node l r) =
    NumberedNode (position (Node l r) base) (numbered_from base l) (numbered_from (right_base l base) r)

-- the shapes of the nodes in order
abbrev pub shapes : Numbered → List Shape
shapes (NumberedLeaf n x) = LeafShape x ∷ []
shapes (NumberedNode n l r) = shapes l ++ Inner (number_of l) (number_of r) ∷ shapes r

-- how many nodes stand at or below each node, in order
abbrev pub tree_sizes : Tree → List ℕ
tree_sizes (Leaf x) = 1 ∷ []
tree_sizes (Node l r) = tree_sizes l ++ (length (tree_sizes l) + 1 + length (tree_sizes r)) ∷ tree_sizes r

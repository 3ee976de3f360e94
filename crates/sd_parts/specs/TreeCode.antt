-- Vtrees as numbered ones, whose code tells them apart.
use Rattle.std.specs.Prelude.{◌≡◌}
use Rattle.std.specs.Coded.{Coded, code_by}
use Rattle.std.proofs.Common.{refl}
use Rattle.sd_model.specs.Tree.{Tree, Leaf, Node}
use Rattle.sd_vtree.specs.Numbered.{Numbered, NumberedLeaf, NumberedNode, plain_tree}
use Rattle.sd_vtree.specs.NumberedCode.{numbered_code}

-- the tree with the number 0 at each node
abbrev pub with_zeros : Tree → Numbered
with_zeros (Leaf x) = NumberedLeaf 0 x
with_zeros (Node l r) = NumberedNode 0 (with_zeros l) (with_zeros r)

-- without its numbers it is the tree
pub plain_again : (t : Tree) → plain_tree (with_zeros t) ≡ t
plain_again (Leaf x) = refl
plain_again (Node l r) = rw (plain_again l, plain_again r) refl

-- by which a proof tells trees apart
abbrev pub tree_code : Coded Tree
tree_code = code_by Numbered numbered_code with_zeros plain_tree plain_again

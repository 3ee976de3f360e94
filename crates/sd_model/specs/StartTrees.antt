-- The start vtrees over the variables 1 to V in order.
use Rattle.std.specs.Prelude.{ℕ, zero, suc, ◌+◌, ◌-◌, ◌/◌, nat_lt, if◌then◌else◌}
use Rattle.sd_model.specs.Tree.{Tree, Leaf, Node}

-- a tree over the m variables from x on, in order: of m variables the left child gets the first `share m`; the tree has
-- at most this height
abbrev pub tree_by : (ℕ → ℕ) → (height x m : ℕ) → Tree
tree_by share zero x m = Leaf x
tree_by share (suc h) x m =
    if nat_lt m 2 then Leaf x
    else Node (tree_by share h x (share m)) (tree_by share h (x + share m) (m - share m))

-- such a tree over the variables 1 to v
abbrev pub start_tree : (ℕ → ℕ) → ℕ → Tree
start_tree share v = tree_by share v 1 v

-- the balanced start vtree: the left child gets half of the variables, rounded down
abbrev pub balanced_tree : ℕ → Tree
balanced_tree v = start_tree (λ m. m / 2) v

-- the right start vtree: each left child is a leaf
abbrev pub right_tree : ℕ → Tree
right_tree v = start_tree (λ m. 1) v

-- the left start vtree: each right child is a leaf
abbrev pub left_tree : ℕ → Tree
left_tree v = start_tree (λ m. m - 1) v

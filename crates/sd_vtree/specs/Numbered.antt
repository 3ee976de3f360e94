-- Vtrees whose nodes have numbers.
use Rattle.std.specs.Prelude.{◌≡◌, ℕ, ◌+◌, ◌<◌, ◌≤◌, List, [], ◌∷◌, ◌++◌, length, Option, Some, None, ◌==◌}
use Rattle.std.specs.Prelude.{if◌then◌else◌}
use Rattle.std.specs.Option.{option_and_then}
use Rattle.sd_model.specs.Tree.{Tree, Leaf, Node, leaves, IsVtree}

-- a vtree with a number at each node
pub data Numbered : Type 0 where
  NumberedLeaf : (number variable : ℕ) → Numbered
  NumberedNode : (number : ℕ) (left right : Numbered) → Numbered

-- the number of the root
abbrev pub number_of : Numbered → ℕ
number_of (NumberedLeaf n x) = n
number_of (NumberedNode n l r) = n

-- the vtree without its numbers
abbrev pub plain_tree : Numbered → Tree
plain_tree (NumberedLeaf n x) = Leaf x
plain_tree (NumberedNode n l r) = Node (plain_tree l) (plain_tree r)

-- the numbers in order: the number at place p of this list is that of the node at position p
abbrev pub numbers : Numbered → List ℕ
numbers (NumberedLeaf n x) = n ∷ []
numbers (NumberedNode n l r) = numbers l ++ n ∷ numbers r

-- the first of two answers that is there
abbrev pub or_else : {A : Type 0} → Option A → Option A → Option A
or_else (Some x) o = Some x
or_else None o = o

-- the subtree whose root has this number
abbrev pub subtree : Numbered → ℕ → Option Numbered
subtree (NumberedLeaf m x) n = if m == n then Some (NumberedLeaf m x) else None
subtree (NumberedNode m l r) n =
    if m == n then Some (NumberedNode m l r) else or_else (subtree l n) (subtree r n)

-- the variable of a leaf
abbrev pub leaf_variable : Numbered → Option ℕ
leaf_variable (NumberedLeaf n x) = Some x
leaf_variable (NumberedNode n l r) = None

-- the numbers of the children of an internal node
abbrev pub child_numbers : Numbered → Option (ℕ × ℕ)
child_numbers (NumberedLeaf n x) = None
child_numbers (NumberedNode n l r) = Some (number_of l, number_of r)

-- the variable of the leaf with this number
abbrev pub variable_at : Numbered → ℕ → Option ℕ
variable_at t n = option_and_then leaf_variable (subtree t n)

-- the children of the internal node with this number
abbrev pub children_at : Numbered → ℕ → Option (ℕ × ℕ)
children_at t n = option_and_then child_numbers (subtree t n)

-- how often a number stands in a list
abbrev pub times : ℕ → List ℕ → ℕ
times n [] = 0
times n (m ∷ ms) = (if m == n then 1 else 0) + times n ms

-- The leaves are the variables 1 to V, each once, with V at most 1,024, and the nodes have the numbers 0 to 2V - 2,
-- each once.
pub record IsNumbered (t : Numbered) : Type 0 where
  pub once : (n : ℕ) → n < length (numbers t) → times n (numbers t) ≡ 1
  pub no_other : (n : ℕ) → length (numbers t) ≤ n → times n (numbers t) ≡ 0
  pub vtree : IsVtree (plain_tree t)
  pub within_limit : leaves (plain_tree t) ≤ 1024

-- a stands at n or below it
pub record IsUnder (t : Numbered) (a n : ℕ) : Type 0 where
  pub part : Numbered
  pub is : subtree t n ≡ Some part
  pub has : 1 ≤ times a (numbers part)

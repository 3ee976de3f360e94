-- Worked cases of the search: the arrangements that walks go through, and the states that they keep.
use Rattle.std.specs.Prelude.{◌≡◌, ℕ, [], ◌∷◌, List}
use Rattle.std.proofs.Common.{refl}
use Rattle.sd_model.specs.Tree.{Tree, Leaf, Node}
use Rattle.sd_model.specs.declared.trees.Side.TheVariants.{Right}
use Rattle.sd_search.specs.Search.{walk_moves, LeadThrough, State, first_least}

-- from two subtrees on the left, a walk leads through the eleven other arrangements of the three
pub from_left : (a b c : Tree) → LeadThrough (Node (Node a b) c) [] (walk_moves (Node (Node a b) c))
    (Node c (Node a b) ∷ Node (Node c a) b ∷ Node b (Node c a) ∷ Node (Node b c) a ∷ Node a (Node b c)
    ∷ Node a (Node c b) ∷ Node (Node a c) b ∷ Node b (Node a c) ∷ Node (Node b a) c ∷ Node c (Node b a)
    ∷ Node (Node c b) a ∷ [])
from_left a b c =
    (refl, (refl, (refl, (refl, (refl, (refl, (refl, (refl, (refl, (refl, (refl, refl)))))))))))

-- so it does from two subtrees on the right, where the left one is a leaf
pub from_right : (x : ℕ) (b c : Tree) →
    LeadThrough (Node (Leaf x) (Node b c)) [] (walk_moves (Node (Leaf x) (Node b c)))
    (Node (Node (Leaf x) b) c ∷ Node c (Node (Leaf x) b) ∷ Node (Node c (Leaf x)) b ∷ Node b (Node c (Leaf x))
    ∷ Node (Node b c) (Leaf x) ∷ Node (Node c b) (Leaf x) ∷ Node (Leaf x) (Node c b) ∷ Node (Node (Leaf x) c) b
    ∷ Node b (Node (Leaf x) c) ∷ Node (Node b (Leaf x)) c ∷ Node c (Node b (Leaf x)) ∷ [])
from_right x b c =
    (refl, (refl, (refl, (refl, (refl, (refl, (refl, (refl, (refl, (refl, (refl, refl)))))))))))

-- of two leaves there is one other arrangement
pub of_two : (x y : ℕ) → LeadThrough (Node (Leaf x) (Leaf y)) [] (walk_moves (Node (Leaf x) (Leaf y)))
    (Node (Leaf y) (Leaf x) ∷ [])
of_two x y = (refl, refl)

-- a walk below the root: 1 stays where it is
pub at_right_child : LeadThrough (Node (Leaf 1) (Node (Leaf 4) (Leaf 2))) (Right ∷ [])
    (walk_moves (Node (Leaf 4) (Leaf 2))) (Node (Leaf 1) (Node (Leaf 2) (Leaf 4)) ∷ [])
at_right_child = (refl, refl)

-- a tree that stands for a state, and its size
abbrev numbered : ℕ → ℕ → State
numbered number size = record { tree = Leaf number; size = size }

-- The sizes of (1 and 3) or (2 and 4) in a walk at the root of ((1 2) (3 4)): the fifth state is the first of the two
-- least ones.
abbrev first_walk : List State
first_walk =
    numbered 1 14 ∷ numbered 2 19 ∷ numbered 3 11 ∷ numbered 4 13 ∷ numbered 5 8 ∷ numbered 6 11 ∷ numbered 7 13
    ∷ numbered 8 8 ∷ numbered 9 14 ∷ numbered 10 14 ∷ numbered 11 19 ∷ []

keeps_the_fifth : first_least (numbered 0 14) first_walk ≡ numbered 5 8
keeps_the_fifth = refl

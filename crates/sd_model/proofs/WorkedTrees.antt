-- Worked vtrees: a text and moves, by computation.
use Rattle.std.proofs.Common.{◌≡◌, [], ◌∷◌, refl}
use Rattle.std.specs.Prelude.{codes}
use Rattle.std.specs.declared.option.Option.TheVariants.{None, Some}
use Rattle.sd_model.specs.declared.trees.Move.TheVariants.{RotateLeft, RotateRight, Swap}
use Rattle.sd_model.specs.Tree.{Tree, Leaf, Node}
use Rattle.sd_model.specs.Moves.{moved_at}
use Rattle.sd_model.specs.Text.{number_text, vtree_text}
use Rattle.sd_model.proofs.WorkedDiagrams.{lines_text}

-- ((1 2) (3 4))
abbrev pub balanced_four : Tree
balanced_four = Node (Node (Leaf 1) (Leaf 2)) (Node (Leaf 3) (Leaf 4))

-- ((3 4) (1 2))
abbrev swapped_four : Tree
swapped_four = Node (Node (Leaf 3) (Leaf 4)) (Node (Leaf 1) (Leaf 2))

-- (((1 2) 3) 4)
abbrev pub left_four : Tree
left_four = Node (Node (Node (Leaf 1) (Leaf 2)) (Leaf 3)) (Leaf 4)

-- ((1 (2 3)) 4)
abbrev pub rotated_four : Tree
rotated_four = Node (Node (Leaf 1) (Node (Leaf 2) (Leaf 3))) (Leaf 4)

-- (1 (3 (4 2)))
abbrev pub found_four : Tree
found_four = Node (Leaf 1) (Node (Leaf 3) (Node (Leaf 4) (Leaf 2)))

text_of_balanced_four : vtree_text balanced_four
    ≡ lines_text (codes "vtree 7" ∷ codes "L 0 1" ∷ codes "L 2 2" ∷ codes "I 1 0 2" ∷ codes "L 4 3" ∷ codes "L 6 4"
    ∷ codes "I 5 4 6" ∷ codes "I 3 1 5" ∷ [])
unfolding number_text vtree_text
text_of_balanced_four = refl

text_of_found_four : vtree_text found_four
    ≡ lines_text (codes "vtree 7" ∷ codes "L 0 1" ∷ codes "L 2 3" ∷ codes "L 4 4" ∷ codes "L 6 2" ∷ codes "I 5 4 6"
    ∷ codes "I 3 2 5" ∷ codes "I 1 0 3" ∷ [])
unfolding number_text vtree_text
text_of_found_four = refl

-- the root is swapped
swap_of_root : moved_at Swap balanced_four 3 ≡ Some swapped_four
swap_of_root = refl

-- and swapped back
swap_back : moved_at Swap swapped_four 3 ≡ Some balanced_four
swap_back = refl

-- a node whose left child is a leaf is not rotated to the right
no_rotation_at_a_leaf : moved_at RotateRight balanced_four 1 ≡ None
no_rotation_at_a_leaf = refl

-- a leaf is not swapped
no_swap_of_a_leaf : moved_at Swap (Leaf 1) 0 ≡ None
no_swap_of_a_leaf = refl

-- a rotation of an inner node, named by its position
rotation_to_the_right : moved_at RotateRight left_four 3 ≡ Some rotated_four
rotation_to_the_right = refl

-- the rotation back, at the new position of that node
rotation_to_the_left : moved_at RotateLeft rotated_four 1 ≡ Some left_four
rotation_to_the_left = refl

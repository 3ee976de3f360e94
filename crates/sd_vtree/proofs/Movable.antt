-- Where a move is not defined, and what the code's steps say of the vectors.
use Rattle.std.proofs.Common.{◌≡◌, ℕ, ◌<◌, List, length, None, Some, refl, sym, ◌∙◌, ap, subst, arith, get_or, set}
use Rattle.std.proofs.Common.{option_and_then}
use Rattle.std.proofs.lemmas.List.{length-set, get_or_default}
use Rattle.std.proofs.lemmas.Option.{none-some, slice_get_within}
use Rattle.sd_model.specs.declared.trees.Move.{Move}
use Rattle.sd_model.specs.declared.trees.Move.TheVariants.{RotateLeft, RotateRight}
use Rattle.sd_vtree.specs.declared.shape.Shape.{Shape}
use Rattle.sd_vtree.specs.Numbered.{Numbered, NumberedLeaf, NumberedNode, number_of, numbers, subtree, child_numbers}
use Rattle.sd_vtree.specs.Numbered.{children_at, IsNumbered}
use Rattle.sd_vtree.specs.NumberedMoves.{moved_top, moved_number}
use Rattle.sd_vtree.specs.Stored.{HoldsTree}
use Rattle.sd_vtree.proofs.Subtrees.{inner_part, once_numbered, subtree_some}
use Rattle.sd_vtree.proofs.Put.{put_none, leaf_fixed}
use Rattle.sd_vtree.proofs.Reading.{position_read}

-- a leaf is not movable
pub leaf_not_movable : (kind : Move) (t : Numbered) (n : ℕ) → IsNumbered t → n < length (numbers t) →
    None ≡ children_at t n → moved_number kind t n ≡ None
leaf_not_movable kind t n v h e =
    let s = subtree_some t n (omega (arith, v.once n h)) in
    put_none kind t n s.0 (once_numbered t v) s.1 (top s.0 (e ∙ ap (option_and_then child_numbers) s.1))
  where
    top : (s : Numbered) → None ≡ child_numbers s → moved_top kind s ≡ None
    top (NumberedLeaf m x) f = leaf_fixed kind m x
    top (NumberedNode m l r) f = absurd (none-some (number_of l, number_of r) f)

-- what a subtree without children is
pub leaf_part : (t : Numbered) (n : ℕ) (s : Numbered) → subtree t n ≡ Some s → None ≡ children_at t n →
    None ≡ child_numbers s
leaf_part t n s e f = f ∙ ap (option_and_then child_numbers) e

-- nor is a node with a leaf in the place of the lower node
pub right_not_movable : {t : Numbered} (n : ℕ) {p : ℕ × ℕ} → IsNumbered t → Some p ≡ children_at t n →
    None ≡ children_at t p.0 → moved_number RotateRight t n ≡ None
right_not_movable {t} n {p} v e f =
    let i = inner_part t v n p.0 p.1 e in
    put_none RotateRight t n (NumberedNode n i.left i.right) (once_numbered t v) i.is
    (top n i.left i.right (leaf_part t p.0 i.left i.left_is f))
  where
    top : (m : ℕ) (l r : Numbered) → None ≡ child_numbers l → moved_top RotateRight (NumberedNode m l r) ≡ None
    top m (NumberedLeaf k x) r g = refl
    top m (NumberedNode k a b) r g = absurd (none-some (number_of a, number_of b) g)

-- the same for the left rotation
pub left_not_movable : {t : Numbered} (n : ℕ) {p : ℕ × ℕ} → IsNumbered t → Some p ≡ children_at t n →
    None ≡ children_at t p.1 → moved_number RotateLeft t n ≡ None
left_not_movable {t} n {p} v e f =
    let i = inner_part t v n p.0 p.1 e in
    put_none RotateLeft t n (NumberedNode n i.left i.right) (once_numbered t v) i.is
    (top n i.left i.right (leaf_part t p.1 i.right i.right_is f))
  where
    top : (m : ℕ) (l r : Numbered) → None ≡ child_numbers r → moved_top RotateLeft (NumberedNode m l r) ≡ None
    top m l (NumberedLeaf k x) g = refl
    top m l (NumberedNode k a b) g = absurd (none-some (number_of a, number_of b) g)

-- a kept position is one
pub position_within : {nodes : List Shape} {positions order leaf_list : List ℕ} {t : Numbered} →
    HoldsTree nodes positions order leaf_list t → (n : ℕ) → n < length (numbers t) →
    get_or positions n 0 < length (numbers t)
position_within {nodes} {positions} {order} {leaf_list} {t} kept n h =
    let p : n < length positions = (let placed = kept.placed in omega arith) in
    slice_get_within (numbers t) (get_or positions n 0) n
    (position_read kept n h (get_or positions n 0) (get_or_default positions n 0 (get_or positions n 0) p))

-- the order and the positions after an exchange, by the names that the code has
pub order_after : (order positions seen_order seen_positions after last : List ℕ) (n l : ℕ) → seen_order ≡ order →
    seen_positions ≡ positions →
    after ≡ set (set seen_order (get_or seen_positions n 0) l) (get_or seen_positions l 0) n → last ≡ after →
    last ≡ set (set order (get_or positions n 0) l) (get_or positions l 0) n
order_after order positions seen_order seen_positions after last n l e f g h =
    h ∙ (g ∙ (ap (λ xs. set (set xs (get_or seen_positions n 0) l) (get_or seen_positions l 0) n) e
    ∙ ap (λ xs. set (set order (get_or xs n 0) l) (get_or xs l 0) n) f))

pub positions_after : (positions seen_positions after last : List ℕ) (n l : ℕ) → seen_positions ≡ positions →
    after ≡ set (set seen_positions n (get_or seen_positions l 0)) l (get_or seen_positions n 0) → last ≡ after →
    last ≡ set (set positions n (get_or positions l 0)) l (get_or positions n 0)
positions_after positions seen_positions after last n l f g h =
    h ∙ (g ∙ ap (λ xs. set (set xs n (get_or xs l 0)) l (get_or xs n 0)) f)

-- two writes keep the length
pub length_two : (xs : List ℕ) (i j a b : ℕ) → length (set (set xs i a) j b) ≡ length xs
length_two xs i j a b = length-set (set xs i a) j b ∙ length-set xs i a

-- two shapes set by indices that are these numbers
pub nodes_after : (nodes : List Shape) (i j n l : ℕ) (v w : Shape) → i ≡ n → j ≡ l →
    set (set nodes i v) j w ≡ set (set nodes n v) l w
nodes_after nodes i j n l v w e f = ap (λ k. set (set nodes k v) j w) e ∙ ap (λ k. set (set nodes n v) k w) f

-- a kept position by the names that the code has
pub placed_after : (order positions seen_order seen_positions : List ℕ) (n : ℕ) → seen_order ≡ order →
    seen_positions ≡ positions →
    get_or positions n 0 < length order → get_or seen_positions n 0 < length seen_order
placed_after order positions seen_order seen_positions n e f h =
    subst (λ xs. get_or seen_positions n 0 < length xs) (sym e) (subst (λ xs. get_or xs n 0 < length order) (sym f) h)

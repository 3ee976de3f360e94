-- A move of a numbered tree is the move of the plain tree at the node's position.
use Rattle.std.proofs.Common.{◌≡◌, ℕ, zero, suc, ◌+◌, ◌-◌, ◌<◌, List, [], ◌∷◌, ◌++◌, length, Option, None, Some, refl}
use Rattle.std.proofs.Common.{sym, ◌∙◌, ap, inl, inr, arith, eq-eqb, ne_eqb, lt-ltb, le-ltb, slice_get, option_map}
use Rattle.std.proofs.Common.{option_and_then}
use Rattle.std.proofs.lemmas.Bool.{cases_order}
use Rattle.std.proofs.lemmas.Option.{same_Some, none-some}
use Rattle.sd_model.specs.declared.trees.Side.{Side}
use Rattle.sd_model.specs.declared.trees.Side.TheVariants.{Left, Right}
use Rattle.sd_model.specs.declared.trees.Move.{Move}
use Rattle.sd_model.specs.declared.trees.Move.TheVariants.{RotateLeft, RotateRight, Swap}
use Rattle.sd_model.specs.Tree.{Tree, Leaf, Node, position, right_base}
use Rattle.sd_model.specs.Moves.{moved_root, moved, path_to, moved_at}
use Rattle.sd_vtree.specs.Numbered.{Numbered, NumberedLeaf, NumberedNode, numbers, plain_tree, or_else, IsNumbered}
use Rattle.sd_vtree.specs.NumberedMoves.{moved_top, moved_number}
use Rattle.sd_vtree.proofs.Times.{times_slice_get, slice_get_append, slice_get_left}
use Rattle.sd_vtree.proofs.Subtrees.{AtMostOnce, once_left, once_right, once_numbered, left_apart, right_apart}
use Rattle.sd_vtree.proofs.Put.{moved_none}
use Rattle.sd_vtree.proofs.Sides.{length_numbers}

-- at the root
top_plain_tree : (kind : Move) (t : Numbered) → option_map plain_tree (moved_top kind t)
    ≡ moved_root kind (plain_tree t)
top_plain_tree RotateRight (NumberedLeaf m x) = refl
top_plain_tree RotateLeft (NumberedLeaf m x) = refl
top_plain_tree Swap (NumberedLeaf m x) = refl
top_plain_tree RotateRight (NumberedNode m (NumberedLeaf k x) r) = refl
top_plain_tree RotateRight (NumberedNode m (NumberedNode k a b) r) = refl
top_plain_tree RotateLeft (NumberedNode m l (NumberedLeaf k x)) = refl
top_plain_tree RotateLeft (NumberedNode m l (NumberedNode k a b)) = refl
top_plain_tree Swap (NumberedNode m l r) = refl

-- a leaf is not movable
leaf_root : (kind : Move) (x : ℕ) → moved_root kind (Leaf x) ≡ None
leaf_root RotateLeft x = refl
leaf_root RotateRight x = refl
leaf_root Swap x = refl

-- the move at a path that leads into a child
along_left : (kind : Move) (l r : Tree) (o : Option (List Side)) →
    option_and_then (λ path. moved kind (Node l r) path) (option_map (λ path. Left ∷ path) o) ≡
    option_map (λ u. Node u r) (option_and_then (λ path. moved kind l path) o)
along_left kind l r None = refl
along_left kind l r (Some path) = refl

along_right : (kind : Move) (l r : Tree) (o : Option (List Side)) →
    option_and_then (λ path. moved kind (Node l r) path) (option_map (λ path. Right ∷ path) o) ≡
    option_map (λ u. Node l u) (option_and_then (λ path. moved kind r path) o)
along_right kind l r None = refl
along_right kind l r (Some path) = refl

-- the same for the numbered tree, where the other child is not moved
into_left : (m : ℕ) (l r : Numbered) (o : Option Numbered)
    → option_map (λ u. Node u (plain_tree r)) (option_map plain_tree o) ≡
    option_map plain_tree (or_else (option_map (λ t. NumberedNode m t r) o) (option_map (λ t. NumberedNode m l t) None))
into_left m l r None = refl
into_left m l r (Some t) = refl

into_right : (m : ℕ) (l r : Numbered) (o : Option Numbered) →
    option_map (λ u. Node (plain_tree l) u) (option_map plain_tree o) ≡
    option_map plain_tree (or_else (option_map (λ t. NumberedNode m t r) None) (option_map (λ t. NumberedNode m l t) o))
into_right m l r None = refl
into_right m l r (Some t) = refl

-- how a path begins
path_here : (l r : Tree) (b q : ℕ) → q ≡ position (Node l r) b → path_to (Node l r) b q ≡ Some []
path_here l r b q e = rw (eq-eqb q (position (Node l r) b) e) refl

-- a smaller position is below the left child
path_left : (l r : Tree) (b q : ℕ) → q < position (Node l r) b →
    path_to (Node l r) b q ≡ option_map (λ path. Left ∷ path) (path_to l b q)
path_left l r b q h = rw (ne_eqb q (position (Node l r) b) (λ e. omega arith), lt-ltb q (position (Node l r) b) h) refl

-- a larger one is below the right child
path_right : (l r : Tree) (b q : ℕ) → position (Node l r) b < q →
    path_to (Node l r) b q ≡ option_map (λ path. Right ∷ path) (path_to r (right_base l b) q)
path_right l r b q h = rw
    (ne_eqb q (position (Node l r) b) (λ e. omega arith), le-ltb q (position (Node l r) b) (omega arith)) refl

path_leaf : (x b q : ℕ) → q ≡ b → path_to (Leaf x) b q ≡ Some []
path_leaf x b q e = rw (eq-eqb q b e) refl

-- what the move of a number is at a node
number_here : (kind : Move) (m : ℕ) (l r : Numbered) (n : ℕ) → m ≡ n →
    moved_number kind (NumberedNode m l r) n ≡ moved_top kind (NumberedNode m l r)
number_here kind m l r n e = rw (eq-eqb m n e) refl

number_below : (kind : Move) (m : ℕ) (l r : Numbered) (n : ℕ) → (m ≡ n → ⊥) → moved_number kind (NumberedNode m l r) n ≡
    or_else (option_map (λ t. NumberedNode m t r) (moved_number kind l n))
    (option_map (λ t. NumberedNode m l t) (moved_number kind r n))
number_below kind m l r n d = rw (ne_eqb m n d) refl

-- counted from any base
pub plain_from : (kind : Move) (t : Numbered) (b p n : ℕ) → AtMostOnce t → slice_get (numbers t) p ≡ Some n →
    option_and_then (λ path. moved kind (plain_tree t) path) (path_to (plain_tree t) b (b + p)) ≡ option_map plain_tree
    (moved_number kind t n)
plain_from kind (NumberedLeaf m x) b (suc p) n o e = absurd (none-some n e)
plain_from kind (NumberedLeaf m x) b zero n o e =
    ap (option_and_then (λ path. moved kind (Leaf x) path)) (path_leaf x b (b + 0) (omega arith)) ∙ leaf_root kind x
plain_from kind (NumberedNode m l r) b p n o e =
    let size = length_numbers l in
    elim (cases_order p (length (numbers l))) [
      | inl h ↦ (let f : slice_get (numbers l ++ m ∷ numbers r) (length (numbers l) + 0) ≡ Some n = ap
          (slice_get (numbers l ++ m ∷ numbers r)) (let z : length (numbers l) + 0 ≡ p = omega arith in z) ∙ e in
          let g : m ≡ n = same_Some m n (sym (slice_get_append (numbers l) (m ∷ numbers r) 0) ∙ f) in
          ap (option_and_then (λ path. moved kind (Node (plain_tree l) (plain_tree r)) path))
          (path_here (plain_tree l) (plain_tree r) b (b + p) (omega arith))
          ∙ (sym (top_plain_tree kind (NumberedNode m l r))
          ∙ ap (option_map plain_tree) (sym (number_here kind m l r n g))))
      | inr s ↦ elim s [
        | inl h ↦ (let f : slice_get (numbers l) p ≡ Some n = sym (slice_get_left (numbers l) (m ∷ numbers r) p h)
            ∙ e in
            let a = left_apart m l r o n (times_slice_get (numbers l) p n f) in
            ap (option_and_then (λ path. moved kind (Node (plain_tree l) (plain_tree r)) path))
            (path_left (plain_tree l) (plain_tree r) b (b + p) (omega arith))
            ∙ (along_left kind (plain_tree l) (plain_tree r) (path_to (plain_tree l) b (b + p))
            ∙ (ap (option_map (λ u. Node u (plain_tree r))) (plain_from kind l b p n (once_left m l r o) f)
            ∙ (into_left m l r (moved_number kind l n)
            ∙ (ap (λ w. option_map plain_tree
            (or_else (option_map (λ t. NumberedNode m t r) (moved_number kind l n))
            (option_map (λ t. NumberedNode m l t) w))) (sym (moved_none kind r n a.1))
            ∙ ap (option_map plain_tree) (sym (number_below kind m l r n a.0)))))))
        | inr h ↦ (let q = p - length (numbers l) - 1 in
            let f : slice_get (numbers r) q ≡ Some n = sym (slice_get_append (numbers l) (m ∷ numbers r) (suc q))
            ∙ (ap (slice_get (numbers l ++ m ∷ numbers r))
            (let z : length (numbers l) + suc q ≡ p = omega arith in z) ∙ e) in
            let a = right_apart m l r o n (times_slice_get (numbers r) q n f) in
            let base : b + p ≡ right_base (plain_tree l) b + q = omega arith in
            ap (option_and_then (λ path. moved kind (Node (plain_tree l) (plain_tree r)) path))
            (path_right (plain_tree l) (plain_tree r) b (b + p) (omega arith))
            ∙ (along_right kind (plain_tree l) (plain_tree r)
            (path_to (plain_tree r) (right_base (plain_tree l) b) (b + p))
            ∙ (ap (λ k. option_map (λ u. Node (plain_tree l) u)
            (option_and_then (λ path. moved kind (plain_tree r) path)
            (path_to (plain_tree r) (right_base (plain_tree l) b) k))) base
            ∙ (ap (option_map (λ u. Node (plain_tree l) u))
            (plain_from kind r (right_base (plain_tree l) b) q n (once_right m l r o) f)
            ∙ (into_right m l r (moved_number kind r n)
            ∙ (ap (λ w. option_map plain_tree
            (or_else (option_map (λ t. NumberedNode m t r) w)
            (option_map (λ t. NumberedNode m l t) (moved_number kind r n)))) (sym (moved_none kind l n a.1))
            ∙ ap (option_map plain_tree) (sym (number_below kind m l r n a.0))))))))
      ]
    ]

-- counted from 0, as vtrees are
pub plain_move : (kind : Move) (t : Numbered) → IsNumbered t → (n p : ℕ) → slice_get (numbers t) p ≡ Some n →
    moved_at kind (plain_tree t) p ≡ option_map plain_tree (moved_number kind t n)
plain_move kind t v n p e =
    ap (λ k. option_and_then (λ path. moved kind (plain_tree t) path) (path_to (plain_tree t) 0 k))
    (let z : p ≡ 0 + p = omega arith in z)
    ∙ plain_from kind t 0 p n (once_numbered t v) e

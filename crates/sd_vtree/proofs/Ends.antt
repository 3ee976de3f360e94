-- The first and the last position below a node.
use Rattle.std.proofs.Common.{◌≡◌, ℕ, ◌+◌, List, [], ◌∷◌, ◌++◌, length, None, Some, refl, sym, ◌∙◌, ap, arith}
use Rattle.std.proofs.Common.{length-append, append_assoc, slice_get}
use Rattle.std.proofs.lemmas.Option.{same_Some, none-some}
use Rattle.sd_vtree.specs.Numbered.{Numbered, NumberedLeaf, NumberedNode, number_of, numbers, subtree, children_at}
use Rattle.sd_vtree.specs.Numbered.{IsNumbered}
use Rattle.sd_vtree.proofs.Times.{one_place, slice_get_append}
use Rattle.sd_vtree.proofs.Subtrees.{InnerPart, once_numbered, subtree_number}
use Rattle.sd_vtree.proofs.Movable.{leaf_part}

-- a leaf stands alone
pub leaf_place : (t : Numbered) → IsNumbered t → (n r : ℕ) → None ≡ children_at t n → slice_get (numbers t) r ≡ Some n →
    (s : Numbered) (front back : List ℕ) → subtree t n ≡ Some s → numbers t ≡ front ++ (numbers s ++ back) →
    (r ≡ length front) × (length (numbers s) ≡ 1)
leaf_place t v n r e f (NumberedNode m l k) front back is split = absurd
    (none-some (number_of l, number_of k) (leaf_part t n (NumberedNode m l k) is e))
leaf_place t v n r e f (NumberedLeaf m x) front back is split =
    let k : m ≡ n = subtree_number t n (NumberedLeaf m x) is in
    let g : slice_get (numbers t) (length front + 0) ≡ Some n = ap (λ xs. slice_get xs (length front + 0)) split
    ∙ (slice_get_append front (m ∷ back) 0 ∙ ap Some k) in
    let p : r ≡ length front + 0 = one_place (numbers t) n r (length front + 0) (once_numbered t v n) f g in
    (omega arith, refl)

-- a node begins where its left child begins
pub first_left : (t : Numbered) (n a b r : ℕ) → InnerPart t n a b →
    ((s : Numbered) (front back : List ℕ) → subtree t a ≡ Some s → numbers t ≡ front ++ (numbers s ++ back) →
    r ≡ length front) →
    (s : Numbered) (front back : List ℕ) → subtree t n ≡ Some s → numbers t ≡ front ++ (numbers s ++ back) →
    r ≡ length front
first_left t n a b r part h s front back is split =
    let e : s ≡ NumberedNode n part.left part.right = same_Some s (NumberedNode n part.left part.right) (sym is
    ∙ part.is) in
    h part.left front (n ∷ (numbers part.right ++ back)) part.left_is
    (split ∙ (ap (λ k. front ++ (numbers k ++ back)) e
    ∙ ap (λ xs. front ++ xs) (append_assoc (numbers part.left) (n ∷ numbers part.right) back)))

-- a node ends where its right child ends
pub last_right : (t : Numbered) (n a b r : ℕ) → InnerPart t n a b →
    ((s : Numbered) (front back : List ℕ) → subtree t b ≡ Some s → numbers t ≡ front ++ (numbers s ++ back) →
    r + 1 ≡ length front + length (numbers s)) →
    (s : Numbered) (front back : List ℕ) → subtree t n ≡ Some s → numbers t ≡ front ++ (numbers s ++ back) →
    r + 1 ≡ length front + length (numbers s)
last_right t n a b r part h s front back is split =
    let e : s ≡ NumberedNode n part.left part.right = same_Some s (NumberedNode n part.left part.right) (sym is
    ∙ part.is) in
    let x = h part.right ((front ++ numbers part.left) ++ n ∷ []) back part.right_is
    (split ∙ (ap (λ k. front ++ (numbers k ++ back)) e
    ∙ (ap (λ xs. front ++ xs) (append_assoc (numbers part.left) (n ∷ numbers part.right) back)
    ∙ (sym (append_assoc front (numbers part.left) (n ∷ (numbers part.right ++ back)))
    ∙ sym (append_assoc (front ++ numbers part.left) (n ∷ []) (numbers part.right ++ back)))))) in
    omega (
      arith,
      ap (λ k. length (numbers k)) e,
      length-append (numbers part.left) (n ∷ numbers part.right),
      length-append (front ++ numbers part.left) (n ∷ []),
      length-append front (numbers part.left),
    )

-- The counts of nodes that are kept beside the vectors.
use Rattle.std.proofs.Common.{◌≡◌, ◌≢◌, ℕ, ◌+◌, ◌<◌, ◌≤◌, List, [], ◌∷◌, ◌++◌, length, Some, None, refl}
use Rattle.std.proofs.Common.{sym, ◌∙◌, ap, subst, inl, inr, arith, length-append, slice_get}
use Rattle.std.proofs.Common.{get_or, set, eq-eqb, ne_eqb, if◌then◌else◌}
use Rattle.std.proofs.lemmas.Bool.{cases_eq}
use Rattle.std.proofs.lemmas.Option.{same_Some, none-some, slice_get_within, slice_get-get_or}
use Rattle.sd_model.specs.declared.trees.Move.TheVariants.{RotateLeft, RotateRight, Swap}
use Rattle.sd_vtree.specs.Numbered.{Numbered, NumberedLeaf, NumberedNode, number_of, numbers, subtree, times}
use Rattle.sd_vtree.specs.Numbered.{children_at, IsNumbered}
use Rattle.sd_vtree.specs.NumberedMoves.{moved_number}
use Rattle.sd_vtree.specs.Stored.{HasSizes}
use Rattle.sd_vtree.proofs.Times.{times_append}
use Rattle.sd_vtree.proofs.Subtrees.{once_numbered, inner_part, subtree_once, subtree_number, subtree_some}
use Rattle.sd_vtree.proofs.Subtrees.{subtree_split, number_of_in, left_apart, right_apart, once_left, once_right}
use Rattle.sd_vtree.proofs.Subtrees.{way, Here, Left, Right}
use Rattle.sd_vtree.proofs.Put.{put, sized_same}
use Rattle.sd_vtree.proofs.Moved.{rearranged_right, rearranged_left, rearranged_swap, slice_get_set_same}
use Rattle.sd_vtree.proofs.Moved.{slice_get_set_other}
use Rattle.sd_vtree.proofs.Rotated.{not_in}
use Rattle.sd_vtree.proofs.Sides.{length_numbers}

-- the counts of a subtree are kept with those of the tree
pub sized_subtree : (t : Numbered) (sizes : List ℕ) → HasSizes t sizes → (n : ℕ) (s : Numbered) → subtree t n ≡ Some s →
    HasSizes s sizes
sized_subtree (NumberedLeaf m x) sizes st n s e = elim (cases_eq m n) [
  | inl h ↦ (let f : NumberedLeaf m x ≡ s = same_Some (NumberedLeaf m x) s
      (sym (ap (λ b. if b then Some (NumberedLeaf m x) else None) (eq-eqb m n h)) ∙ e) in
      subst (λ u. HasSizes u sizes) f st)
  | inr d ↦ absurd (none-some s (sym (ap (λ b. if b then Some (NumberedLeaf m x) else None) (ne_eqb m n d)) ∙ e))
]
sized_subtree (NumberedNode m l r) sizes st n s e = elim (way m l r n s e) [
  | Here h f ↦ subst (λ u. HasSizes u sizes) f st
  | Left d f ↦ sized_subtree l sizes st.1 n s f
  | Right d z f ↦ sized_subtree r sizes st.2 n s f
]

-- the count of a tree is kept at its root's number
sized_root : (s : Numbered) (sizes : List ℕ) → HasSizes s sizes →
    slice_get sizes (number_of s) ≡ Some (length (numbers s))
sized_root (NumberedLeaf m x) sizes st = st
sized_root (NumberedNode m l r) sizes st = st.0

-- the count that is kept for a node
pub size_kept : (t : Numbered) (sizes : List ℕ) → HasSizes t sizes → (n : ℕ) (s : Numbered) → subtree t n ≡ Some s →
    slice_get sizes n ≡ Some (length (numbers s))
size_kept t sizes st n s e = ap (slice_get sizes) (sym (subtree_number t n s e))
    ∙ sized_root s sizes (sized_subtree t sizes st n s e)

-- there is one for each node
pub size_within : (t : Numbered) (sizes : List ℕ) → IsNumbered t → HasSizes t sizes → (n : ℕ) → n < length (numbers t) →
    n < length sizes
size_within t sizes v st n h =
    let s = subtree_some t n (omega (arith, v.once n h)) in
    slice_get_within sizes n (length (numbers s.0)) (size_kept t sizes st n s.0 s.1)

-- the count that is read is that of the nodes below
pub size_read : (t : Numbered) (sizes : List ℕ) → HasSizes t sizes → (n r : ℕ) → r ≡ get_or sizes n r → (s : Numbered) →
    subtree t n ≡ Some s → r ≡ length (numbers s)
size_read t sizes st n r e s f =
    let k = size_kept t sizes st n s f in
    let w = slice_get_within sizes n (length (numbers s)) k in
    same_Some r (length (numbers s)) (ap Some e ∙ (sym (slice_get-get_or sizes n r w) ∙ k))

-- there are few
pub size_small : (t : Numbered) → IsNumbered t → (n : ℕ) (s : Numbered) → subtree t n ≡ Some s →
    length (numbers s) < 2048
size_small t v n s e =
    let p = subtree_split t n s e in
    let f = v.within_limit in
    omega (
      arith,
      ap length p.is,
      length-append p.front (numbers s ++ p.back),
      length-append (numbers s) p.back,
      length_numbers t,
    )

-- a right rotation changes only the lower node's count
pub sized_right : {t : Numbered} (sizes : List ℕ) → IsNumbered t → HasSizes t sizes → (n : ℕ) {p q : ℕ × ℕ} →
    Some p ≡ children_at t n → Some q ≡ children_at t p.0 → (sizes' : List ℕ) (x y : ℕ) →
    ((s : Numbered) → subtree t q.1 ≡ Some s → x ≡ length (numbers s)) →
    ((s : Numbered) → subtree t p.1 ≡ Some s → y ≡ length (numbers s)) →
    sizes' ≡ set sizes p.0 (x + 1 + y) → (result : Numbered) → moved_number RotateRight t n ≡ Some result →
    HasSizes result sizes'
sized_right {t} sizes v st n {p} {q} e1 e2 sizes' x y hx hy es result em =
    let o = once_numbered t v in
    let i1 = inner_part t v n p.0 p.1 e1 in
    let i2 = inner_part t v p.0 q.0 q.1 e2 in
    let a = i2.left in let b = i2.right in let c = i1.right in let l = p.0 in
    let el : i1.left ≡ NumberedNode l a b = same_Some i1.left (NumberedNode l a b) (sym i1.left_is ∙ i2.is) in
    let s = NumberedNode n (NumberedNode l a b) c in
    let s' = NumberedNode n a (NumberedNode l b c) in
    let is : subtree t n ≡ Some s = i1.is ∙ ap (λ k. Some (NumberedNode n k c)) el in
    let P = put RotateRight t n s s' o is refl refl in
    let os = subtree_once t n s o is in
    let ol = once_left n (NumberedNode l a b) c os in
    let ll : 1 ≤ times l (numbers (NumberedNode l a b)) = number_of_in (NumberedNode l a b) in
    let ne : n ≢ l = (left_apart n (NumberedNode l a b) c os l ll).0 in
    let r = rearranged_right n l a b c in
    let ss = sized_subtree t sizes st n s is in
    let new = set sizes l (x + 1 + y) in
    let other : (k : ℕ) → k ≢ l →
    slice_get new k ≡ slice_get sizes k = (λ k z. slice_get_set_other sizes l k (x + 1 + y) z) in
    let sum : x + 1 + y ≡ length (numbers b ++ l ∷ numbers c) = omega
    (arith, hx b i2.right_is, hy c i1.right_is, length-append (numbers b) (l ∷ numbers c)) in
    subst (λ u. HasSizes u sizes') (same_Some P.result result (sym P.is ∙ em))
    (subst (λ xs. HasSizes P.result xs) (sym es)
    (P.sized sizes new st (
      other n ne ∙ (ss.0 ∙ ap Some (sym r.numbers_length)),
      sized_same a sizes new ss.1.1 (λ k h. other k (λ z. (left_apart l a b ol k h).0 (sym z))),
      (
        slice_get_set_same sizes l (x + 1 + y) (size_within t sizes v st l i1.left_within) ∙ ap Some sum,
        sized_same b sizes new ss.1.2 (λ k h. other k (λ z. (right_apart l a b ol k h).0 (sym z))),
        sized_same c sizes new ss.2
            (λ k h. other k (λ z. not_in k l (numbers (NumberedNode l a b)) z
            (right_apart n (NumberedNode l a b) c os k h).1 ll)),
      ),
    )
    r.numbers_length
    (λ k z. other k (λ w. not_in k l (numbers s) w z
    (omega (arith, times_append l (numbers (NumberedNode l a b)) (n ∷ numbers c)))))))

-- so does a left rotation
pub sized_left : {t : Numbered} (sizes : List ℕ) → IsNumbered t → HasSizes t sizes → (n : ℕ) {p q : ℕ × ℕ} →
    Some p ≡ children_at t n → Some q ≡ children_at t p.1 → (sizes' : List ℕ) (x y : ℕ) →
    ((s : Numbered) → subtree t p.0 ≡ Some s → x ≡ length (numbers s)) →
    ((s : Numbered) → subtree t q.0 ≡ Some s → y ≡ length (numbers s)) →
    sizes' ≡ set sizes p.1 (x + 1 + y) → (result : Numbered) → moved_number RotateLeft t n ≡ Some result →
    HasSizes result sizes'
sized_left {t} sizes v st n {p} {q} e1 e2 sizes' x y hx hy es result em =
    let o = once_numbered t v in
    let i1 = inner_part t v n p.0 p.1 e1 in
    let i2 = inner_part t v p.1 q.0 q.1 e2 in
    let a = i1.left in let b = i2.left in let c = i2.right in let l = p.1 in
    let el : i1.right ≡ NumberedNode l b c = same_Some i1.right (NumberedNode l b c) (sym i1.right_is ∙ i2.is) in
    let s = NumberedNode n a (NumberedNode l b c) in
    let s' = NumberedNode n (NumberedNode l a b) c in
    let is : subtree t n ≡ Some s = i1.is ∙ ap (λ k. Some (NumberedNode n a k)) el in
    let P = put RotateLeft t n s s' o is refl refl in
    let os = subtree_once t n s o is in
    let ol = once_right n a (NumberedNode l b c) os in
    let ll : 1 ≤ times l (numbers (NumberedNode l b c)) = number_of_in (NumberedNode l b c) in
    let ne : n ≢ l = (right_apart n a (NumberedNode l b c) os l ll).0 in
    let r = rearranged_left n l a b c in
    let ss = sized_subtree t sizes st n s is in
    let new = set sizes l (x + 1 + y) in
    let other : (k : ℕ) → k ≢ l →
    slice_get new k ≡ slice_get sizes k = (λ k z. slice_get_set_other sizes l k (x + 1 + y) z) in
    let sum : x + 1 + y ≡ length (numbers a ++ l ∷ numbers b) = omega
    (arith, hx a i1.left_is, hy b i2.left_is, length-append (numbers a) (l ∷ numbers b)) in
    subst (λ u. HasSizes u sizes') (same_Some P.result result (sym P.is ∙ em))
    (subst (λ xs. HasSizes P.result xs) (sym es)
    (P.sized sizes new st (
      other n ne ∙ (ss.0 ∙ ap Some (sym r.numbers_length)),
      (
        slice_get_set_same sizes l (x + 1 + y) (size_within t sizes v st l i1.right_within) ∙ ap Some sum,
        sized_same a sizes new ss.1
            (λ k h. other k (λ z. not_in k l (numbers (NumberedNode l b c)) z
            (left_apart n a (NumberedNode l b c) os k h).1 ll)),
        sized_same b sizes new ss.2.1 (λ k h. other k (λ z. (left_apart l b c ol k h).0 (sym z))),
      ),
      sized_same c sizes new ss.2.2 (λ k h. other k (λ z. (right_apart l b c ol k h).0 (sym z))),
    )
    r.numbers_length
    (λ k z. other k (λ w. not_in k l (numbers s) w z
    (omega (
      arith,
      times_append l (numbers a) (n ∷ numbers (NumberedNode l b c)),
      times_append l (n ∷ []) (numbers (NumberedNode l b c)),
    ))))))

-- a swap changes none
pub sized_swap : {t : Numbered} (sizes : List ℕ) → IsNumbered t → HasSizes t sizes → (n : ℕ) {p : ℕ × ℕ} →
    Some p ≡ children_at t n → (result : Numbered) → moved_number Swap t n ≡ Some result → HasSizes result sizes
sized_swap {t} sizes v st n {p} e result em =
    let o = once_numbered t v in
    let i = inner_part t v n p.0 p.1 e in
    let l = i.left in let r = i.right in
    let P = put Swap t n (NumberedNode n l r) (NumberedNode n r l) o i.is refl refl in
    let h = rearranged_swap n l r in
    let ss = sized_subtree t sizes st n (NumberedNode n l r) i.is in
    subst (λ u. HasSizes u sizes) (same_Some P.result result (sym P.is ∙ em))
    (P.sized sizes sizes st (ss.0 ∙ ap Some (sym h.numbers_length), ss.2, ss.1) h.numbers_length (λ k z. refl))

-- The swap, over the vectors.
use Rattle.std.proofs.Common.{◌≡◌, ◌≢◌, ℕ, suc, ◌+◌, ◌-◌, ◌<◌, ◌≤◌, List, ◌∷◌, ◌++◌, length, Some, refl, sym, ◌∙◌, ap}
use Rattle.std.proofs.Common.{subst, inl, inr, arith, length-append, append_assoc, slice_get, get_or, set}
use Rattle.std.proofs.lemmas.Bool.{cases_lt}
use Rattle.std.proofs.lemmas.List.{length-set, get_or_append_left, get_or-append_right}
use Rattle.std.proofs.lemmas.Option.{slice_get-get_or}
use Rattle.sd_model.specs.declared.trees.Move.TheVariants.{Swap}
use Rattle.sd_vtree.specs.declared.shape.Shape.{Shape}
use Rattle.sd_vtree.specs.declared.shape.Shape.TheVariants.{Inner}
use Rattle.sd_vtree.specs.Numbered.{Numbered, NumberedNode, number_of, numbers, subtree, times, children_at}
use Rattle.sd_vtree.specs.Numbered.{IsNumbered}
use Rattle.sd_vtree.specs.Stored.{HoldsTree}
use Rattle.sd_vtree.proofs.Times.{times_get_or, one_place, slice_get_append}
use Rattle.sd_vtree.proofs.Subtrees.{once_numbered, inner_part, subtree_once, subtree_number, number_of_in}
use Rattle.sd_vtree.proofs.Subtrees.{left_apart, right_apart}
use Rattle.sd_vtree.proofs.Put.{Put, put, stored_same}
use Rattle.sd_vtree.proofs.Moved.{rearranged_swap, put_rearranged, numbered_again, Turned, turned, not_leaf}
use Rattle.sd_vtree.proofs.Moved.{slice_get_set_same, slice_get_set_other}
use Rattle.sd_vtree.proofs.Rotated.{stored_subtree}

-- a node whose sides are exchanged, and where they stand in the order
pub record Sides (t : Numbered) (n a b from position to : ℕ) : Type 0 where
  pub left : Numbered
  pub right : Numbered
  pub is : subtree t n ≡ Some (NumberedNode n left right)
  pub left_number : number_of left ≡ a
  pub right_number : number_of right ≡ b
  pub moved : Put Swap t n (NumberedNode n left right) (NumberedNode n right left)
  pub starts : length moved.front ≡ from
  pub middle : from + length (numbers left) ≡ position
  pub ends : position + 1 + length (numbers right) ≡ to
  pub within : to ≤ length (numbers t)

-- the sides of a node, by the positions that the code has read
pub sides : {t : Numbered} {n : ℕ} {p : ℕ × ℕ} → IsNumbered t → Some p ≡ children_at t n → (position from last : ℕ) →
    slice_get (numbers t) position ≡ Some n →
    ((s : Numbered) (front back : List ℕ) → subtree t n ≡ Some s → numbers t ≡ front ++ (numbers s ++ back) →
    from ≡ length front) →
    ((s : Numbered) (front back : List ℕ) → subtree t n ≡ Some s → numbers t ≡ front ++ (numbers s ++ back) →
    last + 1 ≡ length front + length (numbers s)) →
    Sides t n p.0 p.1 from position (last + 1)
sides {t} {n} {p} v e position from last at first final =
    let o = once_numbered t v in
    let i = inner_part t v n p.0 p.1 e in
    let l = i.left in let r = i.right in
    let P = put Swap t n (NumberedNode n l r) (NumberedNode n r l) o i.is refl refl in
    let f : from ≡ length P.front = first (NumberedNode n l r) P.front P.back i.is P.split in
    let g : last + 1 ≡ length P.front + length (numbers (NumberedNode n l r)) = final
    (NumberedNode n l r) P.front P.back i.is P.split in
    let sizes : length (numbers (NumberedNode n l r)) ≡ length (numbers l) + suc (length (numbers r)) = length-append
    (numbers l) (n ∷ numbers r) in
    let size : length (numbers t) ≡ length P.front + (length (numbers (NumberedNode n l r)) + length P.back) =
    ap length P.split ∙ (length-append P.front (numbers (NumberedNode n l r) ++ P.back)
    ∙ ap (λ k. length P.front + k) (length-append (numbers (NumberedNode n l r)) P.back)) in
    let here : slice_get (numbers t) (length P.front + length (numbers l)) ≡ Some n =
    ap (λ xs. slice_get xs (length P.front + length (numbers l))) (P.split
    ∙ ap (λ xs. P.front ++ xs) (append_assoc (numbers l) (n ∷ numbers r) P.back))
    ∙ (slice_get_append P.front (numbers l ++ n ∷ (numbers r ++ P.back)) (length (numbers l))
    ∙ (ap (slice_get (numbers l ++ n ∷ (numbers r ++ P.back)))
    (let z : length (numbers l) ≡ length (numbers l) + 0 = omega arith in z)
    ∙ slice_get_append (numbers l) (n ∷ (numbers r ++ P.back)) 0)) in
    let q : position ≡ length P.front + length (numbers l) = one_place (numbers t) n position
    (length P.front + length (numbers l)) (o n) at here in
    record {
      left = l;
      right = r;
      is = i.is;
      left_number = subtree_number t p.0 l i.left_is;
      right_number = subtree_number t p.1 r i.right_is;
      moved = P;
      starts = sym f;
      middle = omega arith;
      ends = omega arith;
      within = omega arith;
    }

-- the numbers of a numbered tree stand apart, each below their count
pub numbers_apart : (u : Numbered) → IsNumbered u → (xs : List ℕ) → xs ≡ numbers u → (p q : ℕ) → p < q → q < length xs →
    get_or xs p 0 ≢ get_or xs q 0
numbers_apart u v xs e p q h w f =
    let s : length xs ≡ length (numbers u) = ap length e in
    let a : slice_get (numbers u) p ≡ Some (get_or xs p 0) = slice_get-get_or (numbers u) p 0 (omega arith)
    ∙ ap (λ ys. Some (get_or ys p 0)) (sym e) in
    let b : slice_get (numbers u) q ≡ Some (get_or xs p 0) = slice_get-get_or (numbers u) q 0 (omega arith)
    ∙ (ap (λ ys. Some (get_or ys q 0)) (sym e) ∙ ap Some (sym f)) in
    let z : p ≡ q = one_place (numbers u) (get_or xs p 0) p q (once_numbered u v (get_or xs p 0)) a b in
    omega arith

pub numbers_within : (u : Numbered) → IsNumbered u → (xs : List ℕ) → xs ≡ numbers u → (p : ℕ) → p < length xs →
    get_or xs p 0 < length xs
numbers_within u v xs e p h = elim (cases_lt (get_or xs p 0) (length xs)) [
  | inl w ↦ w
  | inr w ↦ (let s : length xs ≡ length (numbers u) = ap length e in
      let z = v.no_other (get_or xs p 0) (omega arith) in
      let i : 1 ≤ times (get_or xs p 0) (numbers u) = subst (λ ys. 1 ≤ times (get_or xs p 0) ys) e
      (times_get_or xs p h) in
      absurd (omega arith))
]

-- outside the sides the order is as it was
order_same : (f xs ys k : List ℕ) (i : ℕ) → length xs ≡ length ys → (i < length f → ⊥) → length f + length xs ≤ i →
    get_or (f ++ (ys ++ k)) i 0 ≡ get_or (f ++ (xs ++ k)) i 0
order_same f xs ys k i e n h =
    let a : length f ≤ i = omega arith in
    let b : length xs ≤ i - length f = omega arith in
    let c : length ys ≤ i - length f = omega arith in
    get_or-append_right f (ys ++ k) (length f) i 0 refl a
    ∙ (get_or-append_right ys k (length xs) (i - length f) 0 (sym e) b
    ∙ (sym (get_or-append_right xs k (length xs) (i - length f) 0 refl b)
    ∙ sym (get_or-append_right f (xs ++ k) (length f) i 0 refl a)))

-- before the sides and after them
pub outside_same : (f xs ys k : List ℕ) (i : ℕ) → length xs ≡ length ys →
    (length f ≤ i → i < length f + length xs → ⊥) →
    get_or (f ++ (ys ++ k)) i 0 ≡ get_or (f ++ (xs ++ k)) i 0
outside_same f xs ys k i e n = elim (cases_lt i (length f)) [
  | inl h ↦ get_or_append_left f (ys ++ k) 0 i h ∙ sym (get_or_append_left f (xs ++ k) 0 i h)
  | inr h ↦ elim (cases_lt i (length f + length xs)) [
    | inl w ↦ absurd (n h w)
    | inr w ↦ order_same f xs ys k i e (λ z. omega arith) w
  ]
]

-- the vectors after a swap
pub swapped : {nodes : List Shape} {positions order leaf_list : List ℕ} {t : Numbered} {n a b from position to : ℕ} →
    HoldsTree nodes positions order leaf_list t →
    (s : Sides t n a b from position to) → (i : ℕ) → i ≡ n → n < length (numbers t) → (order' positions' : List ℕ) →
    order' ≡ numbers s.moved.result → length positions' ≡ length positions →
    ((p : ℕ) → from ≤ p → p < to → get_or positions' (get_or order' p 0) 0 ≡ p) →
    ((m : ℕ) → ((p : ℕ) → from ≤ p → p < to → get_or order' p 0 ≢ m) → get_or positions' m 0 ≡ get_or positions m 0) →
    Turned Swap t n (set nodes i (Inner b a)) positions' order' leaf_list
swapped {nodes} {positions} {order} {leaf_list} {t} {n} {a} {b} {from} {position} {to} kept s i ie hn order' positions'
    e
    size inside outside =
    let l = s.left in let r = s.right in
    let P = s.moved in
    let o = once_numbered t kept.valid in
    let os = subtree_once t n (NumberedNode n l r) o s.is in
    let st = stored_subtree kept n (NumberedNode n l r) s.is in
    let h = rearranged_swap n l r in
    let v = numbered_again t P.result kept.valid (put_rearranged P h) in
    let counted : length nodes ≡ length (numbers t) = kept.counted in
    let new = set nodes i (Inner b a) in
    let ne : new ≡ set nodes n (Inner b a) = ap (λ k. set nodes k (Inner b a)) ie in
    let cell : slice_get new n ≡ Some (Inner b a) = ap (λ xs. slice_get xs n) ne
    ∙ slice_get_set_same nodes n (Inner b a) (omega arith) in
    let other : (k : ℕ) → k ≢ n →
    slice_get new k ≡ slice_get nodes k = (λ k z. ap (λ xs. slice_get xs k) ne
    ∙ slice_get_set_other nodes n k (Inner b a) z) in
    turned kept P h (
      cell ∙ (ap (λ k. Some (Inner k a)) (sym s.right_number)
          ∙ ap (λ k. Some (Inner (number_of r) k)) (sym s.left_number)),
      stored_same r nodes new st.2 (λ k z. other k (λ x. (right_apart n l r os k z).0 (sym x))),
      stored_same l nodes new st.1 (λ k z. other k (λ x. (left_apart n l r os k z).0 (sym x))),
    )
    (λ k z. other k (λ x. not_there k z x))
    (λ k x z. other k (λ y. not_leaf nodes k x (number_of l) (number_of r) z (ap (slice_get nodes) y ∙ st.0)) ∙ z)
    (length-set nodes i (Inner b a))
    e
    size
    (λ k z. inverse v k z)
  where
    not_there : (k : ℕ) → times k (numbers (NumberedNode n s.left s.right)) ≡ 0 → k ≡ n → ⊥
    not_there k z x =
        let y : times n (numbers (NumberedNode n s.left s.right)) ≡ 0 = subst
        (λ j. times j (numbers (NumberedNode n s.left s.right)) ≡ 0) x z in
        omega (arith, number_of_in (NumberedNode n s.left s.right))

    same_order : (k : ℕ) → (from ≤ k → k < to → ⊥) → get_or order' k 0 ≡ get_or (numbers t) k 0
    same_order k z =
        let f = s.starts in let m = s.middle in let g = s.ends in
        let sizes : length (numbers (NumberedNode n s.left s.right)) ≡ length (numbers s.left) + suc
        (length (numbers s.right)) = length-append (numbers s.left) (n ∷ numbers s.right) in
        ap (λ xs. get_or xs k 0) (e ∙ s.moved.new_split)
        ∙ (outside_same s.moved.front (numbers (NumberedNode n s.left s.right))
        (numbers (NumberedNode n s.right s.left)) s.moved.back k
        (sym (rearranged_swap n s.left s.right).numbers_length)
        (λ x y. z (omega arith) (omega arith))
        ∙ ap (λ xs. get_or xs k 0) (sym s.moved.split))

    elsewhere : IsNumbered s.moved.result → (k : ℕ) → k < length order' → (from ≤ k → k < to → ⊥) →
        get_or positions' (get_or order' k 0) 0 ≡ k
    elsewhere v k w z =
        let size' : length order' ≡ length (numbers t) = ap length e
        ∙ (put_rearranged s.moved (rearranged_swap n s.left s.right)).numbers_length in
        outside (get_or order' k 0) (λ p x y q. z (ends p k x y q w v).0 (ends p k x y q w v).1)
        ∙ (ap (λ j. get_or positions j 0) (same_order k z) ∙ kept.inverse k (omega arith))
      where
        ends : (p k : ℕ) → from ≤ p → p < to → get_or order' p 0 ≡ get_or order' k 0 → k < length order' →
            IsNumbered s.moved.result → (from ≤ k) × (k < to)
        ends p k x y q w v = elim (cases_lt p k) [
          | inl c ↦ absurd (numbers_apart s.moved.result v order' e p k c w q)
          | inr c ↦ elim (cases_lt k p) [
            | inl d ↦ absurd (numbers_apart s.moved.result v order' e k p d (within p y) (sym q))
            | inr d ↦ (omega arith, omega arith)
          ]
        ]
          where
            within : (p : ℕ) → p < to → p < length order'
            within p y =
                let size' : length order' ≡ length (numbers t) = ap length e
                ∙ (put_rearranged s.moved (rearranged_swap n s.left s.right)).numbers_length in
                let h = s.within in omega arith

    inverse : IsNumbered s.moved.result → (k : ℕ) → k < length order' → get_or positions' (get_or order' k 0) 0 ≡ k
    inverse v k w = elim (cases_lt k from) [
      | inl c ↦ elsewhere v k w (λ x y. omega arith)
      | inr c ↦ elim (cases_lt k to) [
        | inl d ↦ inside k c d
        | inr d ↦ elsewhere v k w (λ x y. omega arith)
      ]
    ]

-- The rotations, over the vectors.
use Rattle.std.proofs.Common.{◌≡◌, ◌≢◌, ℕ, suc, ◌+◌, ◌<◌, ◌≤◌, List, ◌∷◌, ◌++◌, length, Some, refl, sym, ◌∙◌, ap}
use Rattle.std.proofs.Common.{subst, arith, length-append, append_assoc, slice_get, get_or, set}
use Rattle.std.proofs.lemmas.List.{length-set, set_comm}
use Rattle.std.proofs.lemmas.Option.{same_Some}
use Rattle.sd_model.specs.declared.trees.Move.{Move}
use Rattle.sd_model.specs.declared.trees.Move.TheVariants.{RotateLeft, RotateRight}
use Rattle.sd_vtree.specs.declared.shape.Shape.{Shape}
use Rattle.sd_vtree.specs.declared.shape.Shape.TheVariants.{Inner}
use Rattle.sd_vtree.specs.Numbered.{Numbered, NumberedNode, number_of, numbers, subtree, times, children_at}
use Rattle.sd_vtree.specs.Stored.{HasShapes, HoldsTree}
use Rattle.sd_vtree.proofs.Times.{times_node, times_same, times_append}
use Rattle.sd_vtree.proofs.Parts.{found}
use Rattle.sd_vtree.proofs.Subtrees.{once_numbered, inner_part, subtree_once, subtree_number, subtree_in}
use Rattle.sd_vtree.proofs.Subtrees.{number_of_in, node_within, left_apart, right_apart, once_left, once_right}
use Rattle.sd_vtree.proofs.Put.{Put, put, stored_same}
use Rattle.sd_vtree.proofs.Exchange.{exchanged, first_place, second_place, inverse_exchanged}
use Rattle.sd_vtree.proofs.Moved.{Rearranged, rearranged_right, rearranged_left, Turned, turned, two_set, not_leaf}

-- the vectors hold each subtree
pub stored_subtree : {nodes : List Shape} {positions order leaf_list : List ℕ} {t : Numbered} →
    HoldsTree nodes positions order leaf_list t → (n : ℕ) (s : Numbered) →
    subtree t n ≡ Some s → HasShapes s nodes
stored_subtree {nodes} {positions} {order} {leaf_list} {t} kept n s e =
    let f = found t n nodes kept.stored (subtree_in t n s e) in
    subst (λ p. HasShapes p nodes) (same_Some f.part s (sym f.is ∙ e)) f.stored

-- the position that is kept for the number at a place
pub kept_place : {nodes : List Shape} {positions order leaf_list : List ℕ} {t : Numbered} →
    HoldsTree nodes positions order leaf_list t → (p x : ℕ) →
    p < length (numbers t) → get_or (numbers t) p 0 ≡ x → get_or positions x 0 ≡ p
kept_place {nodes} {positions} {order} {leaf_list} {t} kept p x h e = ap (λ k. get_or positions k 0) (sym e)
    ∙ kept.inverse p h

-- a rotation of the upper node n with the lower node l, which exchange their positions
pub rotated : {kind : Move} {nodes : List Shape} {positions order leaf_list : List ℕ} {t : Numbered} →
    HoldsTree nodes positions order leaf_list t →
    (n l : ℕ) (s s' : Numbered) (p : Put kind t n s s') → Rearranged s s' → subtree t n ≡ Some s → n ≢ l →
    1 ≤ times l (numbers s) →
    (v w : Shape) → HasShapes s' (set (set nodes n v) l w) → (a b c d : ℕ) → slice_get nodes n ≡ Some (Inner a b) →
    slice_get nodes l ≡ Some (Inner c d) →
    (pn pl : ℕ) → pn ≢ pl → pn < length (numbers t) → pl < length (numbers t) → get_or (numbers t) pn 0 ≡ n →
    get_or (numbers t) pl 0 ≡ l →
    set (set order pn l) pl n ≡ numbers p.result → n < length nodes → l < length nodes →
    (nodes' : List Shape) (order' positions' : List ℕ) → nodes' ≡ set (set nodes n v) l w →
    order' ≡ set (set order (get_or positions n 0) l) (get_or positions l 0) n →
    positions' ≡ set (set positions n (get_or positions l 0)) l (get_or positions n 0) →
    Turned kind t n nodes' positions' order' leaf_list
rotated {kind} {nodes} {positions} {order} {leaf_list} {t} kept n l s s' p h is ne il v w st a b c d cn cl pn pl np hn
    hl en el eo wn wl nodes' order' positions' e f g =
    let qn : get_or positions n 0 ≡ pn = kept_place kept pn n hn en in
    let ql : get_or positions l 0 ≡ pl = kept_place kept pl l hl el in
    let fo : order' ≡ set (set order pn l) pl n = f
    ∙ (ap (λ k. set (set order k l) (get_or positions l 0) n) qn ∙ ap (λ k. set (set order pn l) k n) ql) in
    let go : positions' ≡ set (set positions n pl) l pn = g
    ∙ (ap (λ k. set (set positions n k) l (get_or positions n 0)) ql
    ∙ ap (λ k. set (set positions n pl) l k) qn) in
    let two = two_set nodes n l v w ne wn wl in
    let size : length order ≡ length (numbers t) = ap length kept.ordered in
    let placed : length positions ≡ length (numbers t) = kept.placed in
    let counted : length nodes ≡ length (numbers t) = kept.counted in
    let inv = inverse_exchanged order positions n l pn pl
    (λ i z. subst (λ xs. get_or positions (get_or xs i 0) 0 ≡ i) (sym kept.ordered)
    (kept.inverse i (subst (λ k. i < k) size z)))
    (omega arith) (omega arith) ne qn ql (omega arith) (omega arith) np in
    let osize : length order' ≡ length order = ap length fo
    ∙ (length-set (set order pn l) pl n ∙ length-set order pn l) in
    turned kept p h (subst (λ xs. HasShapes s' xs) (sym e) st)
    (λ k z. ap (λ xs. slice_get xs k) e ∙ two.2 k (λ x. apart k n z x (number_in s n is)) (λ x. apart k l z x il))
    (λ k x z. (ap (λ xs. slice_get xs k) e
    ∙ two.2 k (λ y. not_leaf nodes k x a b z (ap (slice_get nodes) y ∙ cn))
    (λ y. not_leaf nodes k x c d z (ap (slice_get nodes) y ∙ cl))) ∙ z)
    (ap length e ∙ (length-set (set nodes n v) l w ∙ length-set nodes n v))
    (fo ∙ eo)
    (ap length go ∙ (length-set (set positions n pl) l pn ∙ length-set positions n pl))
    (λ i z. subst (λ xs. get_or xs (get_or order' i 0) 0 ≡ i) (sym go)
    (subst (λ ys. get_or (set (set positions n pl) l pn) (get_or ys i 0) 0 ≡ i) (sym fo)
    (inv i (subst (λ k. i < k) osize z))))
  where
    apart : (k m : ℕ) → times k (numbers s) ≡ 0 → k ≡ m → 1 ≤ times m (numbers s) → ⊥
    apart k m z x y = let r : times m (numbers s) ≡ 0 = subst (λ i. times i (numbers s) ≡ 0) x z in omega arith

    number_in : (s : Numbered) (n : ℕ) → subtree t n ≡ Some s → 1 ≤ times n (numbers s)
    number_in s n z = subst (λ k. 1 ≤ times k (numbers s)) (subtree_number t n s z) (number_of_in s)

-- the numbers below a child are among those of its node
pub below_left : (l : ℕ) (a b : Numbered) (k : ℕ) → 1 ≤ times k (numbers a) →
    1 ≤ times k (numbers (NumberedNode l a b))
below_left l a b k h = omega (arith, times_node k l (numbers a) (numbers b))

pub below_right : (l : ℕ) (a b : Numbered) (k : ℕ) → 1 ≤ times k (numbers b) →
    1 ≤ times k (numbers (NumberedNode l a b))
below_right l a b k h = omega (arith, times_node k l (numbers a) (numbers b))

-- a number is not both in a list and absent
pub not_in : (k l : ℕ) (xs : List ℕ) → k ≡ l → times k xs ≡ 0 → 1 ≤ times l xs → ⊥
not_in k l xs x z y = let r : times l xs ≡ 0 = subst (λ i. times i xs ≡ 0) x z in omega arith

-- the right rotation: p has the lower node and the right child, q the lower node's children
pub rotated_right : {nodes : List Shape} {positions order leaf_list : List ℕ} {t : Numbered} →
    HoldsTree nodes positions order leaf_list t →
    (n : ℕ) {p q : ℕ × ℕ} → Some p ≡ children_at t n → Some q ≡ children_at t p.0 →
    (nodes' : List Shape) (order' positions' : List ℕ) →
    nodes' ≡ set (set nodes n (Inner q.0 p.0)) p.0 (Inner q.1 p.1) →
    order' ≡ set (set order (get_or positions n 0) p.0) (get_or positions p.0 0) n →
    positions' ≡ set (set positions n (get_or positions p.0 0)) p.0 (get_or positions n 0) →
    Turned RotateRight t n nodes' positions' order' leaf_list
rotated_right {nodes} {positions} {order} {leaf_list} {t} kept n {p} {q} e1 e2 nodes' order' positions' e f g =
    let o = once_numbered t kept.valid in
    let i1 = inner_part t kept.valid n p.0 p.1 e1 in
    let i2 = inner_part t kept.valid p.0 q.0 q.1 e2 in
    let a = i2.left in let b = i2.right in let c = i1.right in let l = p.0 in
    let el : i1.left ≡ NumberedNode l a b = same_Some i1.left (NumberedNode l a b) (sym i1.left_is ∙ i2.is) in
    let s = NumberedNode n (NumberedNode l a b) c in
    let is : subtree t n ≡ Some s = i1.is ∙ ap (λ k. Some (NumberedNode n k c)) el in
    let s' = NumberedNode n a (NumberedNode l b c) in
    let P = put RotateRight t n s s' o is refl refl in
    let os = subtree_once t n s o is in
    let ol = once_left n (NumberedNode l a b) c os in
    let na : number_of a ≡ q.0 = subtree_number t q.0 a i2.left_is in
    let nb : number_of b ≡ q.1 = subtree_number t q.1 b i2.right_is in
    let nc : number_of c ≡ p.1 = subtree_number t p.1 c i1.right_is in
    let ll : 1 ≤ times l (numbers (NumberedNode l a b)) = number_of_in (NumberedNode l a b) in
    let ne : n ≢ l = (left_apart n (NumberedNode l a b) c os l ll).0 in
    let counted : length nodes ≡ length (numbers t) = kept.counted in
    let hn : n < length (numbers t) = node_within t kept.valid n (subtree_in t n s is) in
    let hl : l < length (numbers t) = i1.left_within in
    let st = stored_subtree kept n s is in
    let two = two_set nodes n l (Inner q.0 l) (Inner q.1 p.1) ne (omega arith) (omega arith) in
    let new = set (set nodes n (Inner q.0 l)) l (Inner q.1 p.1) in
    let split : numbers t ≡ P.front ++ ((numbers a ++ l ∷ (numbers b ++ n ∷ numbers c)) ++ P.back) =
    P.split ∙ ap (λ xs. P.front ++ (xs ++ P.back)) (append_assoc (numbers a) (l ∷ numbers b) (n ∷ numbers c)) in
    let size : length (numbers t) ≡ length P.front + (length (numbers s) + length P.back) = ap length P.split
    ∙ (length-append P.front (numbers s ++ P.back)
    ∙ ap (λ k. length P.front + k) (length-append (numbers s) P.back)) in
    let sizes : length (numbers s) ≡ length (numbers a) + suc (length (numbers b)) + suc (length (numbers c)) =
    length-append (numbers a ++ l ∷ numbers b) (n ∷ numbers c)
    ∙ ap (λ k. k + suc (length (numbers c))) (length-append (numbers a) (l ∷ numbers b)) in
    let pl = length P.front + length (numbers a) in
    let pn = length P.front + length (numbers a) + suc (length (numbers b)) in
    let np : pn ≢ pl = λ x. omega arith in
    rotated kept n l s s' P (rearranged_right n l a b c) is ne
    (omega (arith, times_append l (numbers (NumberedNode l a b)) (n ∷ numbers c)))
    (Inner q.0 l) (Inner q.1 p.1) (
      two.0 ∙ ap (λ k. Some (Inner k l)) (sym na),
      stored_same a nodes new st.1.1
          (λ k h. two.2 k (λ x. (left_apart n (NumberedNode l a b) c os k (below_left l a b k h)).0 (sym x))
          (λ x. (left_apart l a b ol k h).0 (sym x))),
      (
        two.1 ∙ (ap (λ k. Some (Inner k p.1)) (sym nb) ∙ ap (λ k. Some (Inner (number_of b) k)) (sym nc)),
        stored_same b nodes new st.1.2
            (λ k h. two.2 k (λ x. (left_apart n (NumberedNode l a b) c os k (below_right l a b k h)).0 (sym x))
            (λ x. (right_apart l a b ol k h).0 (sym x))),
        stored_same c nodes new st.2
            (λ k h. two.2 k (λ x. (right_apart n (NumberedNode l a b) c os k h).0 (sym x))
            (λ x. not_in k l (numbers (NumberedNode l a b)) x (right_apart n (NumberedNode l a b) c os k h).1 ll)),
      ),
    )
    l (number_of c) (number_of a) (number_of b) st.0 st.1.0
    pn pl np (omega arith) (omega arith)
    (second_place P.front (numbers a) (numbers b) (numbers c) P.back l n (numbers t) split)
    (first_place P.front (numbers a) (numbers b) (numbers c) P.back l n (numbers t) split)
    (set_comm order pn pl l n np
    ∙ (exchanged P.front (numbers a) (numbers b) (numbers c) P.back l n order (kept.ordered ∙ split)
    ∙ sym P.new_split))
    (omega arith) (omega arith) nodes' order' positions' e f g

-- the left rotation: p has the left child and the lower node, q the lower node's children
pub rotated_left : {nodes : List Shape} {positions order leaf_list : List ℕ} {t : Numbered} →
    HoldsTree nodes positions order leaf_list t →
    (n : ℕ) {p q : ℕ × ℕ} → Some p ≡ children_at t n → Some q ≡ children_at t p.1 →
    (nodes' : List Shape) (order' positions' : List ℕ) →
    nodes' ≡ set (set nodes n (Inner p.1 q.1)) p.1 (Inner p.0 q.0) →
    order' ≡ set (set order (get_or positions n 0) p.1) (get_or positions p.1 0) n →
    positions' ≡ set (set positions n (get_or positions p.1 0)) p.1 (get_or positions n 0) →
    Turned RotateLeft t n nodes' positions' order' leaf_list
rotated_left {nodes} {positions} {order} {leaf_list} {t} kept n {p} {q} e1 e2 nodes' order' positions' e f g =
    let o = once_numbered t kept.valid in
    let i1 = inner_part t kept.valid n p.0 p.1 e1 in
    let i2 = inner_part t kept.valid p.1 q.0 q.1 e2 in
    let a = i1.left in let b = i2.left in let c = i2.right in let l = p.1 in
    let el : i1.right ≡ NumberedNode l b c = same_Some i1.right (NumberedNode l b c) (sym i1.right_is ∙ i2.is) in
    let s = NumberedNode n a (NumberedNode l b c) in
    let is : subtree t n ≡ Some s = i1.is ∙ ap (λ k. Some (NumberedNode n a k)) el in
    let s' = NumberedNode n (NumberedNode l a b) c in
    let P = put RotateLeft t n s s' o is refl refl in
    let os = subtree_once t n s o is in
    let ol = once_right n a (NumberedNode l b c) os in
    let na : number_of a ≡ p.0 = subtree_number t p.0 a i1.left_is in
    let nb : number_of b ≡ q.0 = subtree_number t q.0 b i2.left_is in
    let nc : number_of c ≡ q.1 = subtree_number t q.1 c i2.right_is in
    let ll : 1 ≤ times l (numbers (NumberedNode l b c)) = number_of_in (NumberedNode l b c) in
    let ne : n ≢ l = (right_apart n a (NumberedNode l b c) os l ll).0 in
    let counted : length nodes ≡ length (numbers t) = kept.counted in
    let hn : n < length (numbers t) = node_within t kept.valid n (subtree_in t n s is) in
    let hl : l < length (numbers t) = i1.right_within in
    let st = stored_subtree kept n s is in
    let two = two_set nodes n l (Inner l q.1) (Inner p.0 q.0) ne (omega arith) (omega arith) in
    let new = set (set nodes n (Inner l q.1)) l (Inner p.0 q.0) in
    let size : length (numbers t) ≡ length P.front + (length (numbers s) + length P.back) = ap length P.split
    ∙ (length-append P.front (numbers s ++ P.back)
    ∙ ap (λ k. length P.front + k) (length-append (numbers s) P.back)) in
    let sizes : length (numbers s) ≡ length (numbers a) + suc (length (numbers b) + suc (length (numbers c))) =
    length-append (numbers a) (n ∷ (numbers b ++ l ∷ numbers c))
    ∙ ap (λ k. length (numbers a) + suc k) (length-append (numbers b) (l ∷ numbers c)) in
    let new_split : numbers P.result ≡ P.front ++ ((numbers a ++ l ∷ (numbers b ++ n ∷ numbers c)) ++ P.back) =
    P.new_split ∙ ap (λ xs. P.front ++ (xs ++ P.back)) (append_assoc (numbers a) (l ∷ numbers b) (n ∷ numbers c)) in
    let pn = length P.front + length (numbers a) in
    let pl = length P.front + length (numbers a) + suc (length (numbers b)) in
    let np : pn ≢ pl = λ x. omega arith in
    rotated kept n l s s' P (rearranged_left n l a b c) is ne
    (omega (
      arith,
      times_append l (numbers a) (n ∷ (numbers b ++ l ∷ numbers c)),
      times_append l (numbers b) (l ∷ numbers c),
      times_same l l (numbers c) refl,
    ))
    (Inner l q.1) (Inner p.0 q.0) (
      two.0 ∙ ap (λ k. Some (Inner l k)) (sym nc),
      (
        two.1 ∙ (ap (λ k. Some (Inner k q.0)) (sym na) ∙ ap (λ k. Some (Inner (number_of a) k)) (sym nb)),
        stored_same a nodes new st.1
            (λ k h. two.2 k (λ x. (left_apart n a (NumberedNode l b c) os k h).0 (sym x))
            (λ x. not_in k l (numbers (NumberedNode l b c)) x (left_apart n a (NumberedNode l b c) os k h).1 ll)),
        stored_same b nodes new st.2.1
            (λ k h. two.2 k (λ x. (right_apart n a (NumberedNode l b c) os k (below_left l b c k h)).0 (sym x))
            (λ x. (left_apart l b c ol k h).0 (sym x))),
      ),
      stored_same c nodes new st.2.2
          (λ k h. two.2 k (λ x. (right_apart n a (NumberedNode l b c) os k (below_right l b c k h)).0 (sym x))
          (λ x. (right_apart l b c ol k h).0 (sym x))),
    )
    (number_of a) l (number_of b) (number_of c) st.0 st.2.0
    pn pl np (omega arith) (omega arith)
    (first_place P.front (numbers a) (numbers b) (numbers c) P.back n l (numbers t) P.split)
    (second_place P.front (numbers a) (numbers b) (numbers c) P.back n l (numbers t) P.split)
    (exchanged P.front (numbers a) (numbers b) (numbers c) P.back n l order (kept.ordered ∙ P.split) ∙ sym new_split)
    (omega arith) (omega arith) nodes' order' positions' e f g

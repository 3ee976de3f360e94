-- Lists that ascend strictly by an order.
use Rattle.std.proofs.Common.{◌≡◌, ◌⊎◌, inl, inr, ℕ, suc, ◌+◌, ◌<◌, false, List, [], ◌∷◌, length, get_or}
use Rattle.std.proofs.Common.{refl, sym, ◌∙◌, ap, subst, arith}
use Rattle.std.specs.List.{AllByRecursion, IsDistinct}
use Rattle.std.specs.List.Sorted.{IsPermutation, IsSorted, IsSortedBy, IsStrictlySortedBy}
use Rattle.std.specs.Ordering.{is_lt, is_eq, eq_by_cmp, ordering_reverse}
use Rattle.std.specs.declared.cmp.Ordering.{Ordering}
use Rattle.std.specs.declared.cmp.Ordering.TheVariants.{Less, Equal, Greater}
use Rattle.std.specs.Cmp.{IsTotalOrder}
use Rattle.std.proofs.lemmas.List.Sorted.{ranks_by, sorted_far, IsPermutation-sym}
use Rattle.std.proofs.lemmas.Map.Keys.{IsDistinct-from_sorted, IsDistinct-IsPermutation}
use Rattle.sd_laws.proofs.Lists.{IsAmong, IsWithin, within_permuted}

-- the order of two things that are not equal by it and of which the second is not less
less : {X : Type 0} {cmp : X → X → Ordering} (o : IsTotalOrder cmp) (x y : X) → eq_by_cmp cmp x y ≡ false →
    is_lt (cmp y x) ≡ false → cmp x y ≡ Less
less {X} {cmp} o x y differ h = go (cmp x y) (cmp y x) (o.antisymm x y) differ h
  where
    go : (p q : Ordering) → p ≡ ordering_reverse q → is_eq p ≡ false → is_lt q ≡ false → p ≡ Less
    go Less q e d k = refl
    go Equal q e d k = absurd (cc)
    go Greater Less e d k = absurd (cc)
    go Greater Equal e d k = absurd (cc)
    go Greater Greater e d k = absurd (cc)

-- what differs from what follows it and is not greater is less
below : {X : Type 0} {cmp : X → X → Ordering} (o : IsTotalOrder cmp) (x : X) (xs : List X) →
    ((j : ℕ) → j < length xs → is_lt (cmp (get_or xs j x) x) ≡ false) →
    AllByRecursion (λ y. eq_by_cmp cmp x y ≡ false) xs → AllByRecursion (λ y. cmp x y ≡ Less) xs
below o x [] h differ = tt
below o x (y ∷ ys) h differ = (
  less o x y differ.0 (h 0 (omega arith)),
  below o x ys (λ j lt. h (suc j) (omega arith)) differ.1,
)

-- a sorted list of distinct things ascends strictly
pub strict : {X : Type 0} {cmp : X → X → Ordering} → IsTotalOrder cmp → (xs : List X) → IsSorted cmp xs →
    IsDistinct (eq_by_cmp cmp) xs → IsStrictlySortedBy cmp xs
unfolding IsStrictlySortedBy IsDistinct
strict o [] up differ = tt
strict {X} {cmp} o (x ∷ xs) up differ = (below o x xs far differ.0, strict o xs rest differ.1)
  where
    rest : IsSortedBy (λ a b. is_lt (cmp a b)) xs
    rest k d low high =
        let next : suc k + 1 ≡ suc (k + 1) = omega arith in
        subst (λ j. is_lt (cmp (get_or (x ∷ xs) j d) (get_or xs k d)) ≡ false) next
        (up (suc k) d (omega arith) (omega arith))

    far : (j : ℕ) → j < length xs → is_lt (cmp (get_or xs j x) x) ≡ false
    far j lt =
        sorted_far (λ (a b : X). is_lt (cmp a b)) (ranks_by o (λ (a : X). a)) (x ∷ xs) up 0 (suc j) x
        (omega arith) (omega arith)

-- what is behind the first is greater
above_first : {X : Type 0} (cmp : X → X → Ordering) (n : X) (xs : List X) (x : X) →
    AllByRecursion (λ k. cmp n k ≡ Less) xs → IsAmong x xs → cmp n x ≡ Less
above_first cmp n [] x a m = absurd m
above_first cmp n (y ∷ xs) x a (inl e) = subst (λ v. cmp n v ≡ Less) (sym e) a.0
above_first cmp n (y ∷ xs) x a (inr m) = above_first cmp n xs x a.1 m

-- nothing is less than itself
pub not_below_itself : {X : Type 0} {cmp : X → X → Ordering} (o : IsTotalOrder cmp) (x : X) → cmp x x ≡ Less → ⊥
not_below_itself o x h = absurd (cc (o.antisymm x x, h))

-- what follows equal first elements is within what follows
rest_within : {X : Type 0} {cmp : X → X → Ordering} (o : IsTotalOrder cmp) (x y : X) (xs ys : List X) → x ≡ y →
    AllByRecursion (λ k. cmp x k ≡ Less) xs → IsWithin (x ∷ xs) (y ∷ ys) → IsWithin xs ys
rest_within {X} {cmp} o x y xs ys e a there z m = go (there z (inr m))
  where
    go : (z ≡ y) ⊎ IsAmong z ys → IsAmong z ys
    go (inl f) = absurd (not_below_itself o x
        (subst (λ v. cmp x v ≡ Less) (f ∙ sym e) (above_first cmp x xs z a m)))
    go (inr k) = k

-- two lists with the same elements that ascend strictly are equal
ascending_same : {X : Type 0} {cmp : X → X → Ordering} (o : IsTotalOrder cmp) (xs ys : List X) →
    IsStrictlySortedBy cmp xs → IsStrictlySortedBy cmp ys → IsWithin xs ys → IsWithin ys xs → xs ≡ ys
unfolding IsStrictlySortedBy
ascending_same o [] [] a b there back = refl
ascending_same o [] (y ∷ ys) a b there back = absurd (back y (inl refl))
ascending_same o (x ∷ xs) [] a b there back = absurd (there x (inl refl))
ascending_same {X} {cmp} o (x ∷ xs) (y ∷ ys) a b there back =
    let e : x ≡ y = heads (there x (inl refl)) (back y (inl refl)) in
    let r : xs ≡ ys = ascending_same o xs ys a.1 b.1 (rest_within o x y xs ys e a.0 there)
    (rest_within o y x ys xs (sym e) b.0 back) in
    cc
  where
    heads : (x ≡ y) ⊎ IsAmong x ys → (y ≡ x) ⊎ IsAmong y xs → x ≡ y
    heads (inl e) k = e
    heads (inr m) (inl e) = sym e
    heads (inr m) (inr k) = absurd (not_below_itself o x
        (o.trans x y x (above_first cmp x xs y a.0 k) (above_first cmp y ys x b.0 m)))

-- equality by an order is the same both ways
flips : {X : Type 0} {cmp : X → X → Ordering} (o : IsTotalOrder cmp) (x y : X) → eq_by_cmp cmp x y ≡ eq_by_cmp cmp y x
flips {X} {cmp} o x y = go (cmp x y) (cmp y x) (o.antisymm x y)
  where
    go : (p q : Ordering) → p ≡ ordering_reverse q → is_eq p ≡ is_eq q
    go p Less e = ap is_eq e
    go p Equal e = ap is_eq e
    go p Greater e = ap is_eq e

-- a list that is sorted is the strictly ascending one of the same elements
pub sorted_same : {X : Type 0} {cmp : X → X → Ordering} → IsTotalOrder cmp → (xs ys : List X) →
    IsStrictlySortedBy cmp xs → IsPermutation xs ys → IsSorted cmp ys → xs ≡ ys
sorted_same {X} {cmp} o xs ys up order sorted =
    ascending_same o xs ys up
    (strict o ys sorted
    (IsDistinct-IsPermutation (eq_by_cmp cmp) (flips o) xs ys order (IsDistinct-from_sorted cmp xs up)))
    (within_permuted ys xs (IsPermutation-sym xs ys order)) (within_permuted xs ys order)

-- a list that is sorted and has distinct elements ascends strictly, also where it had them in another order
pub sorted_strict : {X : Type 0} {cmp : X → X → Ordering} → IsTotalOrder cmp → (xs ys : List X) →
    IsDistinct (eq_by_cmp cmp) xs → IsPermutation xs ys → IsSorted cmp ys → IsStrictlySortedBy cmp ys
sorted_strict {X} {cmp} o xs ys differ order sorted =
    strict o ys sorted (IsDistinct-IsPermutation (eq_by_cmp cmp) (flips o) xs ys order differ)

-- Lists in another order, two lists side by side, and lists that ascend strictly.
use Rattle.std.proofs.Common.{◌≡◌, ◌⊎◌, inl, inr, ℕ, zero, suc, length}
use Rattle.std.proofs.Common.{◌<◌, arith, true, false, cond, List, [], ◌∷◌, map}
use Rattle.std.proofs.Common.{take, drop, ◌++◌, ◌≤◌, get_or, refl, sym, ◌∙◌, ap, subst}
use Rattle.std.specs.Prelude.{swap, Contains}
use Rattle.std.specs.List.{AllByRecursion, AllZip}
use Rattle.std.specs.List.Sorted.{IsPermutation, apply_swaps, SwapsInRange, IsStrictlySortedBy}
use Rattle.std.specs.Ordering.{is_lt, nat_cmp}
use Rattle.std.specs.declared.cmp.Ordering.TheVariants.{Less}
use Rattle.std.proofs.Math.ListN.{set}
use Rattle.std.proofs.Math.ListN as std_list
use Rattle.std.proofs.lemmas.List.{map-set, length-map}
use Rattle.std.proofs.lemmas.List.Elements.{All-from_recursion, recursion_from_All, All-contains}
use Rattle.std.proofs.lemmas.List.Sorted.{All-permutation, IsPermutation-refl, IsPermutation-trans}
use Rattle.std.proofs.lemmas.List.Sorted.{IsPermutation-cons, IsPermutation-middle, IsPermutation-map}
use Rattle.std.proofs.lemmas.Cmp.{nat_cmp_total}
use Rattle.sd_model.specs.Diagram.{Diagram, diagram_cmp}
use Rattle.sd_laws.specs.Pairs.{put, sort_by}

-- what holds of each element

-- what holds of each element holds of each in another order
pub all_permuted : {X : Type 0} (P : X → Type 0) (xs ys : List X) → IsPermutation xs ys → AllByRecursion P xs →
    AllByRecursion P ys
all_permuted P xs ys h a = recursion_from_All P ys (All-permutation P xs ys h (All-from_recursion P xs a))

-- what follows of each element
pub all_weaker : {X : Type 0} (P Q : X → Type 0) → ((x : X) → P x → Q x) → (xs : List X) → AllByRecursion P xs →
    AllByRecursion Q xs
all_weaker P Q f [] a = tt
all_weaker P Q f (x ∷ xs) a = (f x a.0, all_weaker P Q f xs a.1)

-- x is one of the list
abbrev pub IsAmong : {X : Type 0} → X → List X → Type 0
IsAmong x [] = ⊥
IsAmong x (y ∷ ys) = (x ≡ y) ⊎ IsAmong x ys

-- each element of the one list is one of the other
abbrev pub IsWithin : {X : Type 0} → List X → List X → Type 0
IsWithin {X} xs ys = (x : X) → IsAmong x xs → IsAmong x ys

-- what holds of each element holds of one of the list
pub all_at : {X : Type 0} (P : X → Type 0) (xs : List X) (x : X) → AllByRecursion P xs → IsAmong x xs → P x
all_at P [] x a m = absurd m
all_at P (y ∷ ys) x a (inl e) = subst P (sym e) a.0
all_at P (y ∷ ys) x a (inr m) = all_at P ys x a.1 m

-- what holds of each one of the list holds of each element
pub all_from : {X : Type 0} (P : X → Type 0) (xs : List X) → ((x : X) → IsAmong x xs → P x) → AllByRecursion P xs
all_from P [] f = tt
all_from P (x ∷ xs) f = (f x (inl refl), all_from P xs (λ y m. f y (inr m)))

-- a list in another order has the same elements
pub within_permuted : {X : Type 0} (xs ys : List X) → IsPermutation xs ys → IsWithin ys xs
within_permuted xs ys h x m = all_at (λ y. IsAmong y xs) ys x
    (all_permuted (λ y. IsAmong y xs) xs ys h (all_from (λ y. IsAmong y xs) xs (λ y k. k))) m

-- the same as std's word
pub among_from_contains : {X : Type 0} (xs : List X) (x : X) → Contains xs x → IsAmong x xs
among_from_contains xs x c =
    All-contains (λ y. IsAmong y xs) xs x
    (All-from_recursion (λ y. IsAmong y xs) xs (all_from (λ y. IsAmong y xs) xs (λ y k. k))) c

-- two lists side by side

-- the pairs of elements at one place
abbrev pub side_by_side : {A B : Type 0} → List A → List B → List (A × B)
side_by_side [] ys = []
side_by_side (x ∷ xs) [] = []
side_by_side (x ∷ xs) (y ∷ ys) = (x, y) ∷ side_by_side xs ys

-- the first parts are the first list
first_parts : {A B : Type 0} (R : A → B → Type 0) (xs : List A) (ys : List B) → AllZip R xs ys →
    map (λ (z : A × B). z.0) (side_by_side xs ys) ≡ xs
first_parts R [] [] h = refl
first_parts R [] (y ∷ ys) h = absurd h
first_parts R (x ∷ xs) [] h = absurd h
first_parts R (x ∷ xs) (y ∷ ys) h = ap (λ l. x ∷ l) (first_parts R xs ys h.1)

-- and the second parts are the second list
second_parts : {A B : Type 0} (R : A → B → Type 0) (xs : List A) (ys : List B) → AllZip R xs ys →
    map (λ (z : A × B). z.1) (side_by_side xs ys) ≡ ys
second_parts R [] [] h = refl
second_parts R [] (y ∷ ys) h = absurd h
second_parts R (x ∷ xs) [] h = absurd h
second_parts R (x ∷ xs) (y ∷ ys) h = ap (λ l. y ∷ l) (second_parts R xs ys h.1)

-- each pair is related
each_related : {A B : Type 0} (R : A → B → Type 0) (xs : List A) (ys : List B) → AllZip R xs ys →
    AllByRecursion (λ (z : A × B). R z.0 z.1) (side_by_side xs ys)
each_related R [] [] h = tt
each_related R [] (y ∷ ys) h = absurd h
each_related R (x ∷ xs) [] h = absurd h
each_related R (x ∷ xs) (y ∷ ys) h = (h.0, each_related R xs ys h.1)

-- and back
related_lists : {A B : Type 0} (R : A → B → Type 0) (zs : List (A × B)) →
    AllByRecursion (λ (z : A × B). R z.0 z.1) zs →
    AllZip R (map (λ (z : A × B). z.0) zs) (map (λ (z : A × B). z.1) zs)
related_lists R [] h = tt
related_lists R (z ∷ zs) h = (h.0, related_lists R zs h.1)

-- an exchange and a function of each element
map_swap : {X Y : Type 0} (f : X → Y) (xs : List X) (i j : ℕ) → map f (swap xs i j) ≡ swap (map f xs) i j
map_swap f [] i j = refl
map_swap f (x ∷ xs) i j =
    map-set f (set (x ∷ xs) i (get_or (x ∷ xs) j x)) j (get_or (x ∷ xs) i x)
    ∙ ap (λ l. set l j (f (get_or (x ∷ xs) i x))) (map-set f (x ∷ xs) i (get_or (x ∷ xs) j x))
    ∙ ap (λ y. set (set (map f (x ∷ xs)) i y) j (f (get_or (x ∷ xs) i x)))
    (sym (std_list.get_or-map f (x ∷ xs) j x))
    ∙ ap (λ y. set (set (map f (x ∷ xs)) i (get_or (map f (x ∷ xs)) j (f x))) j y)
    (sym (std_list.get_or-map f (x ∷ xs) i x))

-- the same for many exchanges
map_swaps : {X Y : Type 0} (f : X → Y) (xs : List X) (moves : List (ℕ × ℕ)) →
    map f (apply_swaps xs moves) ≡ apply_swaps (map f xs) moves
map_swaps f xs [] = refl
map_swaps f xs (m ∷ ms) =
    map_swap f (apply_swaps xs ms) m.0 m.1 ∙ ap (λ l. swap l m.0 m.1) (map_swaps f xs ms)

-- an order of the parts is an order of the whole
pub lifted : {X Y : Type 0} (f : X → Y) (xs : List X) (ys : List Y) → IsPermutation (map f xs) ys →
    (zs : List X) × IsPermutation xs zs × (map f zs ≡ ys)
lifted f xs ys h = (
  apply_swaps xs h.moves,
  record { moves = h.moves; below = subst (λ n. SwapsInRange n h.moves) (length-map xs f) h.below; is = refl },
  map_swaps f xs h.moves ∙ sym h.is,
)

-- where the first of two related lists is put in another order, so is the second
pub first_permuted : {A B : Type 0} (R : A → B → Type 0) (xs : List A) (ys : List B) (ws : List A) →
    AllZip R xs ys → IsPermutation xs ws → (vs : List B) × IsPermutation ys vs × AllZip R ws vs
first_permuted {A} {B} R xs ys ws h p =
    let zs = side_by_side xs ys in
    let l = lifted (λ (z : A × B). z.0) zs ws (subst (λ l. IsPermutation l ws) (sym (first_parts R xs ys h)) p) in (
      map (λ (z : A × B). z.1) l.0,
      subst (λ l'. IsPermutation l' (map (λ (z : A × B). z.1) l.0)) (second_parts R xs ys h)
          (IsPermutation-map (λ (z : A × B). z.1) zs l.0 l.1),
      subst (λ l'. AllZip R l' (map (λ (z : A × B). z.1) l.0)) l.2
          (related_lists R l.0
          (all_permuted (λ (z : A × B). R z.0 z.1) zs l.0 l.1 (each_related R xs ys h))),
    )

-- and the other way round
pub second_permuted : {A B : Type 0} (R : A → B → Type 0) (xs : List A) (ys : List B) (vs : List B) →
    AllZip R xs ys → IsPermutation ys vs → (ws : List A) × IsPermutation xs ws × AllZip R ws vs
second_permuted {A} {B} R xs ys vs h p =
    let zs = side_by_side xs ys in
    let l = lifted (λ (z : A × B). z.1) zs vs (subst (λ l. IsPermutation l vs) (sym (second_parts R xs ys h)) p) in (
      map (λ (z : A × B). z.0) l.0,
      subst (λ l'. IsPermutation l' (map (λ (z : A × B). z.0) l.0)) (first_parts R xs ys h)
          (IsPermutation-map (λ (z : A × B). z.0) zs l.0 l.1),
      subst (λ l'. AllZip R (map (λ (z : A × B). z.0) l.0) l') l.2
          (related_lists R l.0
          (all_permuted (λ (z : A × B). R z.0 z.1) zs l.0 l.1 (each_related R xs ys h))),
    )

-- two related lists are equally long
pub zip_length : {A B : Type 0} (R : A → B → Type 0) (xs : List A) (ys : List B) → AllZip R xs ys →
    length xs ≡ length ys
zip_length R [] [] h = refl
zip_length R [] (y ∷ ys) h = absurd h
zip_length R (x ∷ xs) [] h = absurd h
zip_length R (x ∷ xs) (y ∷ ys) h = ap suc (zip_length R xs ys h.1)

-- what follows of each pair
pub zip_weaker : {A B : Type 0} (P Q : A → B → Type 0) → ((x : A) (y : B) → P x y → Q x y) → (xs : List A)
    (ys : List B) → AllZip P xs ys → AllZip Q xs ys
zip_weaker P Q f [] [] h = tt
zip_weaker P Q f [] (y ∷ ys) h = h
zip_weaker P Q f (x ∷ xs) [] h = h
zip_weaker P Q f (x ∷ xs) (y ∷ ys) h = (f x y h.0, zip_weaker P Q f xs ys h.1)

-- one more of each
pub zip_push : {A B : Type 0} (R : A → B → Type 0) (xs : List A) (ys : List B) (x : A) (y : B) → AllZip R xs ys →
    R x y → AllZip R (xs ++ x ∷ []) (ys ++ y ∷ [])
zip_push R [] [] x y h r = (r, tt)
zip_push R [] (z ∷ ys) x y h r = absurd h
zip_push R (z ∷ xs) [] x y h r = absurd h
zip_push R (z ∷ xs) (w ∷ ys) x y h r = (h.0, zip_push R xs ys x y h.1 r)

-- what stands beside the element at an index, and follows the elements before it
pub record Beside {A B : Type 0} (R : A → B → Type 0) (x : A) (ys : List B) (i : ℕ) : Type 0 where
  pub other : B
  pub related : R x other
  pub more : take (suc i) ys ≡ take i ys ++ other ∷ []
  pub rest : drop i ys ≡ other ∷ drop (suc i) ys

-- each element of the first list has it
pub beside : {A B : Type 0} (R : A → B → Type 0) (xs : List A) (ys : List B) (i : ℕ) (x d : A) → AllZip R xs ys →
    i < length xs → x ≡ get_or xs i d → Beside R x ys i
beside R [] ys i x d h lt e = absurd (omega arith)
beside R (z ∷ xs) [] i x d h lt e = absurd h
beside R (z ∷ xs) (y ∷ ys) zero x d h lt e =
    record { other = y; related = subst (λ v. R v y) (sym e) h.0; more = refl; rest = refl }
beside R (z ∷ xs) (y ∷ ys) (suc i) x d h lt e =
    let k = beside R xs ys i x d h.1 (omega arith) e in
    record { other = k.other; related = k.related; more = ap (λ l. y ∷ l) k.more; rest = k.rest }

-- of nothing nothing is taken and nothing is left
of_nothing : {B : Type 0} (i : ℕ) → (take {A = B} i [] ≡ []) × (drop {A = B} i [] ≡ [])
of_nothing zero = (refl, refl)
of_nothing (suc i) = (refl, refl)

-- at the end the whole list was read
pub zip_whole : {A B : Type 0} (R : A → B → Type 0) (xs : List A) (ys : List B) (i : ℕ) → AllZip R xs ys →
    length xs ≤ i → (take i ys ≡ ys) × (drop i ys ≡ [])
zip_whole R [] [] i h le = of_nothing i
zip_whole R [] (y ∷ ys) i h le = absurd h
zip_whole R (x ∷ xs) [] i h le = absurd h
zip_whole R (x ∷ xs) (y ∷ ys) zero h le = absurd (omega arith)
zip_whole R (x ∷ xs) (y ∷ ys) (suc i) h le =
    let k = zip_whole R xs ys i h.1 (omega arith) in (ap (λ l. y ∷ l) k.0, k.1)

-- each element of the first list has a related one of the second
pub second_at : {A B : Type 0} (R : A → B → Type 0) (xs : List A) (ys : List B) → AllZip R xs ys → (x : A) →
    IsAmong x xs → (y : B) × IsAmong y ys × R x y
second_at R [] ys h x m = absurd m
second_at R (z ∷ xs) [] h x m = absurd h
second_at R (z ∷ xs) (y ∷ ys) h x (inl e) = (y, inl refl, subst (λ v. R v y) (sym e) h.0)
second_at R (z ∷ xs) (y ∷ ys) h x (inr m) = let r = second_at R xs ys h.1 x m in (r.0, inr r.1, r.2)

-- and each of the second one of the first
pub first_at : {A B : Type 0} (R : A → B → Type 0) (xs : List A) (ys : List B) → AllZip R xs ys → (y : B) →
    IsAmong y ys → (x : A) × IsAmong x xs × R x y
first_at R [] [] h y m = absurd m
first_at R [] (z ∷ ys) h y m = absurd h
first_at R (x ∷ xs) [] h y m = absurd m
first_at R (x ∷ xs) (z ∷ ys) h y (inl e) = (x, inl refl, subst (λ v. R x v) (sym e) h.0)
first_at R (x ∷ xs) (z ∷ ys) h y (inr m) = let r = first_at R xs ys h.1 y m in (r.0, inr r.1, r.2)

-- the sort by the structural order

-- an element that is put into a list
pub put_permutation : {X : Type 0} (key : X → Diagram) (x : X) (ys : List X) → IsPermutation (x ∷ ys) (put key x ys)
put_permutation key x [] = IsPermutation-refl (x ∷ [])
put_permutation key x (y ∷ ys) =
    elim (is_lt (diagram_cmp (key x) (key y)))
    as (λ b. IsPermutation (x ∷ y ∷ ys) (cond b (x ∷ y ∷ ys) (y ∷ put key x ys))) [
      | true ↦ IsPermutation-refl (x ∷ y ∷ ys)
      | false ↦ IsPermutation-trans (x ∷ y ∷ ys) (y ∷ x ∷ ys) (y ∷ put key x ys)
          (IsPermutation-middle (x ∷ []) y ys)
          (IsPermutation-cons y (x ∷ ys) (put key x ys) (put_permutation key x ys))
    ]

-- the sorted list is the list in another order
pub sort_by_permutation : {X : Type 0} (key : X → Diagram) (xs : List X) → IsPermutation xs (sort_by key xs)
sort_by_permutation key [] = IsPermutation-refl []
sort_by_permutation key (x ∷ xs) =
    IsPermutation-trans (x ∷ xs) (x ∷ sort_by key xs) (put key x (sort_by key xs))
    (IsPermutation-cons x xs (sort_by key xs) (sort_by_permutation key xs)) (put_permutation key x (sort_by key xs))

-- lists that ascend strictly by a number

-- what is behind the first is greater
above_first : {X : Type 0} (key : X → ℕ) (n : ℕ) (xs : List X) (x : X) →
    AllByRecursion (λ k. nat_cmp n k ≡ Less) (map key xs) → IsAmong x xs → nat_cmp n (key x) ≡ Less
above_first key n [] x a m = absurd m
above_first key n (y ∷ xs) x a (inl e) = subst (λ v. nat_cmp n (key v) ≡ Less) (sym e) a.0
above_first key n (y ∷ xs) x a (inr m) = above_first key n xs x a.1 m

-- no number is less than itself
not_below_itself : (n : ℕ) → nat_cmp n n ≡ Less → ⊥
not_below_itself n h = absurd (cc (nat_cmp_total.antisymm n n, h))

-- what follows equal first elements is within what follows
rest_within : {X : Type 0} (key : X → ℕ) (x y : X) (xs ys : List X) → x ≡ y →
    AllByRecursion (λ k. nat_cmp (key x) k ≡ Less) (map key xs) → IsWithin (x ∷ xs) (y ∷ ys) → IsWithin xs ys
rest_within key x y xs ys e a there z m = go (there z (inr m))
  where
    go : (z ≡ y) ⊎ IsAmong z ys → IsAmong z ys
    go (inl f) = absurd (not_below_itself (key x)
        (subst (λ v. nat_cmp (key x) (key v) ≡ Less) (f ∙ sym e) (above_first key (key x) xs z a m)))
    go (inr k) = k

-- two lists with the same elements that ascend strictly are equal
pub ascending_same : {X : Type 0} (key : X → ℕ) (xs ys : List X) → IsStrictlySortedBy nat_cmp (map key xs) →
    IsStrictlySortedBy nat_cmp (map key ys) → IsWithin xs ys → IsWithin ys xs → xs ≡ ys
unfolding IsStrictlySortedBy
ascending_same key [] [] a b there back = refl
ascending_same key [] (y ∷ ys) a b there back = absurd (back y (inl refl))
ascending_same key (x ∷ xs) [] a b there back = absurd (there x (inl refl))
ascending_same key (x ∷ xs) (y ∷ ys) a b there back =
    let e : x ≡ y = heads (there x (inl refl)) (back y (inl refl)) in
    let r : xs ≡ ys = ascending_same key xs ys a.1 b.1 (rest_within key x y xs ys e a.0 there)
    (rest_within key y x ys xs (sym e) b.0 back) in
    cc
  where
    heads : (x ≡ y) ⊎ IsAmong x ys → (y ≡ x) ⊎ IsAmong y xs → x ≡ y
    heads (inl e) k = e
    heads (inr m) (inl e) = sym e
    heads (inr m) (inr k) = absurd (not_below_itself (key x)
        (nat_cmp_total.trans (key x) (key y) (key x) (above_first key (key x) xs y a.0 k)
        (above_first key (key y) ys x b.0 m)))

-- Whether two of a list of codes are equal, by a sorted copy.
use Rattle.std.proofs.Common.{◌≡◌, ◌≢◌, inl, inr, ℕ, zero, suc, ◌+◌, ◌-◌, ◌<◌, ◌≤◌, Bool, true, false}
use Rattle.std.proofs.Common.{List, [], ◌∷◌, length, map, get_or, refl, sym, ◌∙◌, ap, subst, arith, eqb, eqb-true}
use Rattle.std.proofs.Common.{eq-eqb}
use Rattle.std.specs.List.Sorted.{IsPermutation, IsSorted, IsStrictlyIncreasing}
use Rattle.std.specs.Ordering.{nat_cmp}
use Rattle.std.proofs.lemmas.Bool.{cases_lt}
use Rattle.std.proofs.lemmas.List.Sorted.{IsPermutation-sym, IsPermutation-map}
use Rattle.std.proofs.lemmas.Map.Keys.{ge_from_not_lt, sorted_from_strictly_increasing}
use Rattle.sd_model.specs.Tree.{AreDistinct}
use Rattle.sd_laws.proofs.Merged.{ascending_distinct}
use Rattle.sd_apply.proofs.Marking.{distinct_permuted}
use Rattle.sd_check.specs.Judging.{TellsTwins}

-- one more neighbour that differs
pub neighbours_more : (xs : List ℕ) (i : ℕ) → 1 ≤ i →
    ((k : ℕ) → k + 1 < i → get_or xs k 0 ≢ get_or xs (k + 1) 0) → get_or xs (i - 1) 0 ≢ get_or xs i 0 →
    (k : ℕ) → k + 1 < i + 1 → get_or xs k 0 ≢ get_or xs (k + 1) 0
neighbours_more xs i some h last k lt = elim (cases_lt (k + 1) i) [
  | inl below ↦ h k below
  | inr le ↦
      let at : i - 1 ≡ k = omega arith in
      let own : i ≡ k + 1 = omega arith in
      λ e. last (ap (λ n. get_or xs n 0) at ∙ e ∙ ap (λ n. get_or xs n 0) (sym own))
]

-- codes behind a number that no pair needs
marked : List ℕ → List (ℕ × ℕ)
marked xs = map (λ c. (0, c)) xs

-- they are the codes
marked_back : (xs : List ℕ) → map (λ (e : ℕ × ℕ). e.1) (marked xs) ≡ xs
unfolding marked
marked_back [] = refl
marked_back (x ∷ xs) = ap (λ l. x ∷ l) (marked_back xs)

-- different codes are so in each order
codes_permuted : (xs ys : List ℕ) → IsPermutation xs ys → AreDistinct xs → AreDistinct ys
unfolding marked
codes_permuted xs ys p h =
    let g : ℕ → ℕ × ℕ = λ c. (0, c) in
    subst AreDistinct (marked_back ys)
    (distinct_permuted (marked xs) (marked ys) (IsPermutation-map g xs ys p)
    (subst AreDistinct (sym (marked_back xs)) h))

-- a sorted list whose neighbours differ is one of different codes
neighbours_distinct : (xs : List ℕ) → IsSorted nat_cmp xs →
    ((k : ℕ) → k + 1 < length xs → get_or xs k 0 ≢ get_or xs (k + 1) 0) → AreDistinct xs
neighbours_distinct xs up differ = ascending_distinct xs (sorted_from_strictly_increasing xs rises)
  where
    rises : IsStrictlyIncreasing xs
    rises k lt =
        let most : get_or xs k 0 ≤ get_or xs (k + 1) 0 =
        ge_from_not_lt (get_or xs (k + 1) 0) (get_or xs k 0) (up k 0 (omega arith) (omega arith)) in
        let other = differ k lt in
        omega (arith, most, other)

-- and of different codes neighbours differ
distinct_neighbours : (xs : List ℕ) → AreDistinct xs → (k : ℕ) → suc k < length xs → get_or xs k 0 ≢ get_or xs (suc k) 0
distinct_neighbours [] h k lt = absurd (omega arith)
distinct_neighbours (x ∷ []) h k lt = absurd (omega arith)
distinct_neighbours (x ∷ y ∷ xs) h zero lt = h.0.0
distinct_neighbours (x ∷ y ∷ xs) h (suc k) lt = distinct_neighbours (y ∷ xs) h.1 k (omega arith)

-- so the sorted copy tells
pub sorted_twins : (xs codes sorted : List ℕ) (b : Bool) {seen : List ℕ} → codes ≡ xs → IsPermutation codes sorted →
    IsSorted nat_cmp sorted → seen ≡ sorted →
    (b ≡ true → (k : ℕ) × (k + 1 < length seen) × (get_or seen k 0 ≡ get_or seen (k + 1) 0)) →
    (b ≡ false → (k : ℕ) → k + 1 < length seen → get_or seen k 0 ≢ get_or seen (k + 1) 0) → TellsTwins b xs
sorted_twins xs codes sorted true {seen} e p up same found none =
    let w = found refl in
    λ h.
    let all : AreDistinct seen =
    subst AreDistinct (sym same) (codes_permuted codes sorted p (subst AreDistinct (sym e) h)) in
    let next : suc w.0 ≡ w.0 + 1 = omega arith in
    distinct_neighbours seen all w.0 (omega (arith, w.1)) (w.2 ∙ ap (λ n. get_or seen n 0) (sym next))
sorted_twins xs codes sorted false {seen} e p up same found none =
    let differ = none refl in
    subst AreDistinct e
    (codes_permuted sorted codes (IsPermutation-sym codes sorted p)
    (neighbours_distinct sorted up
    (subst (λ l. (k : ℕ) → k + 1 < length l → get_or l k 0 ≢ get_or l (k + 1) 0) same differ)))

-- two codes
two_codes : (x y : ℕ) (b : Bool) → b ≡ eqb x y → TellsTwins b (x ∷ y ∷ [])
two_codes x y true e = λ h. h.0.0 (eqb-true x y (sym e))
two_codes x y false e = (((λ same. absurd (cc (e, eq-eqb x y same))), tt), (tt, tt))

-- the subs of two elements
pub two_twins : (elements : List (ℕ × ℕ)) (d f : ℕ × ℕ) → length elements ≡ 2 → (x y : ℕ) →
    x ≡ (get_or elements 0 d).1 → y ≡ (get_or elements 1 f).1 → TellsTwins (eqb x y) (map (λ e. e.1) elements)
two_twins [] d f two x y h k = absurd (omega arith)
two_twins (e ∷ []) d f two x y h k = absurd (omega arith)
two_twins (e ∷ g ∷ []) d f two x y h k = two_codes e.1 g.1 (eqb x y) (ap (λ n. eqb n y) h ∙ ap (eqb e.1) k)
two_twins (e ∷ g ∷ i ∷ es) d f two x y h k = absurd (omega arith)

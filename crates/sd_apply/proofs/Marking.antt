-- No two subs of a list are equal: each was marked once, or they ascend with none alike. And so in each order.
use Rattle.std.proofs.Common.{◌≡◌, ◌≢◌, ℕ, suc, ◌+◌, ◌<◌, Bool, true, false, List, [], ◌∷◌, ◌++◌, length, map, get_or}
use Rattle.std.proofs.Common.{set, refl, sym, ◌∙◌, ap, subst, arith}
use Rattle.std.proofs.Math.Dec.{eqb}
use Rattle.std.specs.List.{AllByRecursion, IsDistinct}
use Rattle.std.specs.List.Sorted.{IsPermutation}
use Rattle.std.proofs.lemmas.Bool.{eq-eqb, eqb-true, eqb-false}
use Rattle.std.proofs.lemmas.List.{get_or-set_same, get_or-set_other}
use Rattle.std.proofs.lemmas.List.Sorted.{IsPermutation-map}
use Rattle.std.proofs.lemmas.Map.Keys.{IsDistinct-IsPermutation}
use Rattle.sd_model.specs.Tree.{AreDistinct}
use Rattle.sd_laws.proofs.Lists.{all_weaker}
use Rattle.sd_apply.specs.Elements.{sub_then_prime}
use Rattle.sd_apply.proofs.Merging.{apart_distinct}

-- each sub has its mark, and no two are equal
pub record AreMarked (marks : List Bool) (l : List (ℕ × ℕ)) : Type 0 where
  pub marked : AllByRecursion (λ (e : ℕ × ℕ). get_or marks e.1 false ≡ true) l
  pub distinct : AreDistinct (map (λ (e : ℕ × ℕ). e.1) l)

-- one more holds of a list
all_push : (P : ℕ × ℕ → Type 0) (l : List (ℕ × ℕ)) (e : ℕ × ℕ) → AllByRecursion P l → P e →
    AllByRecursion P (l ++ e ∷ [])
all_push P [] e h k = (k, tt)
all_push P (x ∷ l) e h k = (h.0, all_push P l e h.1 k)

-- one more sub, which had no mark
pub marked_next : (marks : List Bool) (l : List (ℕ × ℕ)) (e : ℕ × ℕ) → e.1 < length marks →
    get_or marks e.1 false ≡ false → AreMarked marks l → AreMarked (set marks e.1 true) (l ++ e ∷ [])
marked_next marks l e lt free h = record {
  marked = all_push (λ (x : ℕ × ℕ). get_or (set marks e.1 true) x.1 false ≡ true) l e
      (all_weaker (λ (x : ℕ × ℕ). get_or marks x.1 false ≡ true)
      (λ (x : ℕ × ℕ). get_or (set marks e.1 true) x.1 false ≡ true)
      (λ x k. get_or-set_other marks e.1 x.1 true false (differ x k) ∙ k) l h.marked)
      (get_or-set_same marks e.1 true false lt);
  distinct = apart_distinct l e
      (all_weaker (λ (x : ℕ × ℕ). get_or marks x.1 false ≡ true) (λ (x : ℕ × ℕ). ¬ (x.1 ≡ e.1)) differ l
      h.marked) h.distinct;
}
  where
    differ : (x : ℕ × ℕ) → get_or marks x.1 false ≡ true → ¬ (x.1 ≡ e.1)
    differ x k same = absurd (cc (sym k ∙ ap (λ n. get_or marks n false) same ∙ free))

-- a number that is less than the first of pairs whose subs ascend is no sub of theirs
not_among : (n : ℕ) (s : List (ℕ × ℕ)) → (0 < length s → n < (get_or s 0 (0, 0)).0) →
    ((k : ℕ) → suc k < length s → (get_or s k (0, 0)).0 < (get_or s (suc k) (0, 0)).0) →
    AllByRecursion (λ m. n ≢ m) (map (λ (e : ℕ × ℕ). e.1) (map sub_then_prime s))
not_among n [] least up = tt
not_among n (x ∷ s) least up =
    let less : n < x.0 = least (omega arith) in (
      λ same. omega (arith, less, same),
      not_among n s (λ lt. omega (arith, less, up 0 (omega (arith, lt)))) (λ k lt. up (suc k) (omega (arith, lt))),
    )

-- the same, for the pairs behind the first
distinct_subs : (s : List (ℕ × ℕ)) →
    ((k : ℕ) → suc k < length s → (get_or s k (0, 0)).0 < (get_or s (suc k) (0, 0)).0) →
    AreDistinct (map (λ (e : ℕ × ℕ). e.1) (map sub_then_prime s))
distinct_subs [] up = tt
distinct_subs (x ∷ s) up = (
  not_among x.0 s (λ lt. up 0 (omega (arith, lt))) (λ k lt. up (suc k) (omega (arith, lt))),
  distinct_subs s (λ k lt. up (suc k) (omega (arith, lt))),
)

-- subs that ascend with none alike are distinct
pub ascend_distinct : (s : List (ℕ × ℕ)) →
    ((k : ℕ) → k + 1 < length s → (get_or s k (0, 0)).0 < (get_or s (k + 1) (0, 0)).0) →
    AreDistinct (map (λ (e : ℕ × ℕ). e.1) (map sub_then_prime s))
ascend_distinct s up = distinct_subs s
    (λ k lt.
    let next : k + 1 ≡ suc k = omega arith in
    subst (λ n. (get_or s k (0, 0)).0 < (get_or s n (0, 0)).0) next (up k (omega (arith, lt))))

-- the test of two numbers, both ways
flip : (x y : ℕ) → eqb x y ≡ eqb y x
flip x y = go (eqb x y) (eqb y x) refl refl
  where
    go : (b c : Bool) → eqb x y ≡ b → eqb y x ≡ c → eqb x y ≡ eqb y x
    go true c h k = h ∙ sym (eq-eqb y x (sym (eqb-true x y h)))
    go false true h k = absurd (eqb-false x y h (sym (eqb-true y x k)))
    go false false h k = h ∙ sym k

-- numbers that differ, by the test
by_test : (xs : List ℕ) → AreDistinct xs → IsDistinct eqb xs
unfolding IsDistinct
by_test [] h = tt
by_test (x ∷ xs) h = (all_weaker (λ y. x ≢ y) (λ y. eqb x y ≡ false) differ xs h.0, by_test xs h.1)
  where
    differ : (y : ℕ) → x ≢ y → eqb x y ≡ false
    differ y n = go (eqb x y) refl
      where
        go : (b : Bool) → eqb x y ≡ b → eqb x y ≡ false
        go true h = absurd (n (eqb-true x y h))
        go false h = h

-- and back
from_test : (xs : List ℕ) → IsDistinct eqb xs → AreDistinct xs
unfolding IsDistinct
from_test [] h = tt
from_test (x ∷ xs) h =
    (all_weaker (λ y. eqb x y ≡ false) (λ y. x ≢ y) (λ y k. eqb-false x y k) xs h.0, from_test xs h.1)

-- distinct subs are so in each order
pub distinct_permuted : (l k : List (ℕ × ℕ)) → IsPermutation l k → AreDistinct (map (λ (e : ℕ × ℕ). e.1) l) →
    AreDistinct (map (λ (e : ℕ × ℕ). e.1) k)
distinct_permuted l k p h =
    let sub : ℕ × ℕ → ℕ = λ e. e.1 in
    from_test (map sub k) (IsDistinct-IsPermutation eqb flip (map sub l) (map sub k) (IsPermutation-map sub l k p)
    (by_test (map sub l) h))

-- Lists by their elements, and the first that passes a test.
use Rattle.std.proofs.Common.{◌≡◌, ℕ, zero, suc, ◌+◌, ◌<◌, ◌≤◌, Bool, true, false, cond, List, [], ◌∷◌, ◌++◌}
use Rattle.std.proofs.Common.{length, length-append, Some, None, refl, sym, ap, subst, ◌∙◌, arith, inl, inr}
use Rattle.std.specs.Prelude.{slice_index_or, nat_lt, find, position}
use Rattle.std.specs.List.{list_any, range_with_len, position_or_len}
use Rattle.std.proofs.lemmas.Bool.{cases_lt, cases_eq, ltb-false, or_cases}
use Rattle.std.proofs.lemmas.List.{get_or_append_left}
use Rattle.std.proofs.Math.Seq.{get_or-append_seam}
use Rattle.std.proofs.lemmas.List.Sums.{fails_before_first}
use Rattle.std.proofs.lemmas.List.Folds.{list_any_at}

-- what holds of each element, and of one more
pub at_push : {A : Type 0} (P : A → Type 0) (xs : List A) (y d : A)
    → ((k : ℕ) → k < length xs → P (slice_index_or xs k d)) → P y
    → (k : ℕ) → k < length (xs ++ y ∷ []) → P (slice_index_or (xs ++ y ∷ []) k d)
at_push P xs y d each last k within = elim (cases_lt k (length xs)) [
  | inl before ↦ subst P (sym (get_or_append_left xs (y ∷ []) d k before)) (each k before)
  | inr behind ↦
      let here : length xs ≡ k = omega (arith, length-append xs (y ∷ []), within, behind) in
      subst (λ i. P (slice_index_or (xs ++ y ∷ []) i d)) here (subst P (sym (get_or-append_seam xs y [] d)) last)
]

-- no element passes a test that none passes
pub fails_at : {A : Type 0} (p : A → Bool) (xs : List A) (d : A) → list_any p xs ≡ false
    → (k : ℕ) → k < length xs → p (slice_index_or xs k d) ≡ true → ⊥
fails_at p xs d none k within passes =
    let some : list_any p xs ≡ true = list_any_at p xs k d within passes in
    cc

-- where some element passes, it stands somewhere
pub passes_somewhere : {A : Type 0} (p : A → Bool) (xs : List A) (d : A) → list_any p xs ≡ true
    → (k : ℕ) × (k < length xs) × (p (slice_index_or xs k d) ≡ true)
passes_somewhere p [] d some = cc
passes_somewhere p (x ∷ xs) d some = elim (or_cases (p x) (list_any p xs) some) [
  | inl here ↦ (0, omega arith, here)
  | inr later ↦
      let found = passes_somewhere p xs d later in
      (suc found.0, omega (arith, found.1), found.2)
]

-- two tests that agree on each element first pass at one place
same_first : {A : Type 0} (p q : A → Bool) (xs : List A) (d : A)
    → ((k : ℕ) → k < length xs → p (slice_index_or xs k d) ≡ q (slice_index_or xs k d))
    → position_or_len p xs ≡ position_or_len q xs
same_first p q [] d same = refl
same_first p q (x ∷ xs) d same =
    let others = same_first p q xs d (λ k within. same (suc k) (omega (arith, within))) in
    rw (same 0 (omega arith), others) refl

pub same_position : {A : Type 0} (p q : A → Bool) (xs : List A) (d : A)
    → ((k : ℕ) → k < length xs → p (slice_index_or xs k d) ≡ q (slice_index_or xs k d))
    → position p xs ≡ position q xs
same_position p q xs d same =
    ap (λ n. cond (nat_lt n (length xs)) (Some n) None) (same_first p q xs d same)

-- where there is no first, none passes
pub none_passes : {A : Type 0} (p : A → Bool) (xs : List A) (d : A) → position p xs ≡ None
    → (k : ℕ) → k < length xs → p (slice_index_or xs k d) ≡ false
none_passes p xs d none k within =
    let past = ltb-false (position_or_len p xs) (length xs)
    (is_past (nat_lt (position_or_len p xs) (length xs)) (position_or_len p xs) none) in
    fails_before_first p xs k d (omega (arith, past, within))
  where
    is_past : (b : Bool) (n : ℕ) → cond b (Some n) None ≡ None → b ≡ false
    is_past true n e = cc
    is_past false n e = refl

-- the first number of a range that passes
pub found_first : (p : ℕ → Bool) (from n found : ℕ) → from ≤ found → found < from + n → p found ≡ true
    → ((k : ℕ) → k < found → p k ≡ false) → find p (range_with_len from n) ≡ Some found
found_first p from zero found low high passes earlier = absurd (omega (arith, low, high))
found_first p from (suc n) found low high passes earlier = elim (cases_eq from found) [
  | inl here ↦ rw (ap p here ∙ passes) (ap Some here)
  | inr other ↦
      let before : from < found = omega (arith, low, other) in
      rw (earlier from before)
      (found_first p (from + 1) n found (omega (arith, before)) (omega (arith, high)) passes earlier)
]

-- no number of a range passes
pub found_none : (p : ℕ → Bool) (from n : ℕ) → ((k : ℕ) → k < from + n → p k ≡ false)
    → find p (range_with_len from n) ≡ None
found_none p from zero none = refl
found_none p from (suc n) none =
    rw (none from (omega arith)) (found_none p (from + 1) n (λ k high. none k (omega (arith, high))))

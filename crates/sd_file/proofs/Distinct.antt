-- Ids that are distinct, and one more.
use Rattle.std.proofs.Common.{◌≡◌, ℕ, suc, ◌+◌, ◌≤◌, ◌≢◌, ◌==◌, Bool, true, false, not, cond, eqb}
use Rattle.std.proofs.Common.{List, [], ◌∷◌, ◌++◌, length, Some, None, refl, ap, arith, inl, inr}
use Rattle.std.specs.Prelude.{is_some}
use Rattle.std.specs.List.{AllByRecursion, position_or_len}
use Rattle.std.proofs.lemmas.Bool.{cases_lt, lt-ltb, eq-eqb}
use Rattle.sd_model.specs.Tree.{AreDistinct}
use Rattle.sd_laws.proofs.Products.{all_push}
use Rattle.sd_file.specs.Reads.{index_of_id}

-- one more id, which is none of the others
pub distinct_push : (ids : List ℕ) (id : ℕ) → AreDistinct ids → AllByRecursion (λ x. x ≢ id) ids
    → AreDistinct (ids ++ id ∷ [])
distinct_push [] id distinct other = (tt, tt)
distinct_push (x ∷ xs) id distinct other =
    (all_push (λ y. x ≢ y) xs id distinct.0 other.0, distinct_push xs id distinct.1 other.1)

-- an id whose first place is past the end is none of the others
past_end : (id : ℕ) (ids : List ℕ) → length ids ≤ position_or_len (λ i. i == id) ids
    → AllByRecursion (λ x. x ≢ id) ids
past_end id [] past = tt
past_end id (x ∷ xs) past = go (past_end id xs) (eqb x id) refl past
  where
    go : (length xs ≤ position_or_len (λ i. i == id) xs → AllByRecursion (λ y. y ≢ id) xs) → (b : Bool) → eqb x id ≡ b
        → suc (length xs) ≤ cond (not b) (1 + position_or_len (λ i. i == id) xs) 0
        → AllByRecursion (λ y. y ≢ id) (x ∷ xs)
    go later true is past = absurd (omega (arith, past))
    go later false is past =
        (λ same. let equal = eq-eqb x id same in absurd (cc (equal, is)), later (omega (arith, past)))

-- and so is one that has no place
pub not_among : (id : ℕ) (ids : List ℕ) → is_some (index_of_id id ids) ≡ false → AllByRecursion (λ x. x ≢ id) ids
not_among id ids none = elim (cases_lt (position_or_len (λ i. i == id) ids) (length ids)) [
  | inl found ↦
      let has : is_some (index_of_id id ids) ≡ true =
      ap (λ b. is_some (cond b (Some (position_or_len (λ i. i == id) ids)) None)) (lt-ltb _ _ found) in
      absurd (cc (has, none))
  | inr past ↦ past_end id ids past
]

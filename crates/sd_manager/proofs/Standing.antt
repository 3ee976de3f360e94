-- A code has uses in a list exactly where it stands in it.
use Rattle.std.proofs.Common.{◌≡◌, ◌⊎◌, inl, inr, ℕ, ◌≤◌, List, [], ◌∷◌, refl, arith, ne_eqb}
use Rattle.std.proofs.lemmas.List.Sums.{sum_by-cons}
use Rattle.std.proofs.lemmas.Bool.{cases_eq}
use Rattle.sd_laws.specs.Values.{StandsIn}
use Rattle.sd_manager.specs.Table.{uses_in, uses_of_pair}
use Rattle.sd_manager.proofs.Counted.{counts_same}

-- a pair that does not have the code does not use it
pair_none : (c : ℕ) (e : ℕ × ℕ) → (e.0 ≡ c → ⊥) → (e.1 ≡ c → ⊥) → uses_of_pair c e ≡ 0
pair_none c e f g = rw (ne_eqb e.0 c f, ne_eqb e.1 c g) refl

-- where a code does not stand it has no uses
pub no_uses : (c : ℕ) (l : List (ℕ × ℕ)) → ¬ StandsIn c l → uses_in c l ≡ 0
no_uses c [] h = refl
no_uses c (e ∷ l) h =
    let pair = pair_none c e (λ z. h (inl z)) (λ z. h (inr (inl z))) in
    omega (arith, pair, sum_by-cons (uses_of_pair c) e l, no_uses c l (λ s. h (inr (inr s))))

-- and where it has uses it stands
pub uses_stand : (c : ℕ) (l : List (ℕ × ℕ)) → 1 ≤ uses_in c l → StandsIn c l
uses_stand c [] h = absurd (omega arith)
uses_stand c (e ∷ l) h = elim (cases_eq e.0 c) [
  | inl z ↦ inl z
  | inr d ↦ elim (cases_eq e.1 c) [
    | inl z ↦ inr (inl z)
    | inr f ↦ inr (inr (uses_stand c l (omega (arith, h, sum_by-cons (uses_of_pair c) e l, pair_none c e d f))))
  ]
]

-- a code that is one of a pair is used by it
pair_some : (c : ℕ) (e : ℕ × ℕ) → (e.0 ≡ c) ⊎ (e.1 ≡ c) → 1 ≤ uses_of_pair c e
pair_some c e (inl h) = omega (arith, counts_same c e.0 h)
pair_some c e (inr h) = omega (arith, counts_same c e.1 h)

-- and where it stands it has uses
pub stands_uses : (c : ℕ) (l : List (ℕ × ℕ)) → StandsIn c l → 1 ≤ uses_in c l
stands_uses c [] h = absurd h
stands_uses c (e ∷ l) (inl h) = omega (arith, sum_by-cons (uses_of_pair c) e l, pair_some c e (inl h))
stands_uses c (e ∷ l) (inr (inl h)) = omega (arith, sum_by-cons (uses_of_pair c) e l, pair_some c e (inr h))
stands_uses c (e ∷ l) (inr (inr h)) = omega (arith, sum_by-cons (uses_of_pair c) e l, stands_uses c l h)

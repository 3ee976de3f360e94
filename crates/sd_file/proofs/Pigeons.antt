-- Different diagrams of which each has a code below n are at most n.
use Rattle.std.proofs.Common.{◌≡◌, ◌≢◌, ℕ, zero, suc, ◌+◌, ◌<◌, ◌≤◌, List, [], ◌∷◌, length}
use Rattle.std.proofs.Common.{refl, sym, ap, subst, arith, inl, inr}
use Rattle.std.specs.List.{AllByRecursion, range_with_len}
use Rattle.std.proofs.lemmas.Bool.{cases_eq}
use Rattle.std.proofs.lemmas.List.FromFn.{length-range_with_len}
use Rattle.sd_model.specs.Tree.{AreDistinct}
use Rattle.sd_model.specs.Diagram.{Diagram}
use Rattle.sd_model.specs.Canonical.{AreDifferent}
use Rattle.sd_laws.proofs.Lists.{IsAmong, all_from, all_at}
use Rattle.sd_laws.proofs.Pigeons.{length_within}

-- a number of a range stands in it
in_range : (x a k : ℕ) → a ≤ x → x < a + k → IsAmong x (range_with_len a k)
in_range x a zero low high = absurd (omega arith)
in_range x a (suc k) low high = elim (cases_eq x a) [
  | inl first ↦ inl first
  | inr other ↦ inr (in_range x (a + 1) k (omega (arith, other)) (omega arith))
]

-- different numbers below n
few_below : (n : ℕ) (xs : List ℕ) → AreDistinct xs → AllByRecursion (λ x. x < n) xs → length xs ≤ n
few_below n xs distinct low =
    let range = range_with_len 0 n in
    let within : AllByRecursion (λ x. IsAmong x range) xs = all_from (λ x. IsAmong x range) xs
    (λ x m. in_range x 0 n (omega arith) (let below = all_at (λ y. y < n) xs x low m in omega arith)) in
    omega (arith, length_within xs range distinct within, length-range_with_len 0 n)

-- each diagram has a code below n
abbrev pub HaveCodes : (ℕ → Diagram → Type 0) → ℕ → List Diagram → Type 0
HaveCodes IsCode n ds = AllByRecursion (λ d. (c : ℕ) × IsCode c d × (c < n)) ds

-- the codes
codes_of : (IsCode : ℕ → Diagram → Type 0) (n : ℕ) (ds : List Diagram) → HaveCodes IsCode n ds → List ℕ
codes_of IsCode n [] have = []
codes_of IsCode n (d ∷ ds) have = have.0.0 ∷ codes_of IsCode n ds have.1

-- one for each diagram
length_codes : (IsCode : ℕ → Diagram → Type 0) (n : ℕ) (ds : List Diagram) (have : HaveCodes IsCode n ds)
    → length (codes_of IsCode n ds have) ≡ length ds
unfolding codes_of
length_codes IsCode n [] have = refl
length_codes IsCode n (d ∷ ds) have = ap suc (length_codes IsCode n ds have.1)

-- all are below n
codes_low : (IsCode : ℕ → Diagram → Type 0) (n : ℕ) (ds : List Diagram) (have : HaveCodes IsCode n ds)
    → AllByRecursion (λ c. c < n) (codes_of IsCode n ds have)
unfolding codes_of
codes_low IsCode n [] have = tt
codes_low IsCode n (d ∷ ds) have = (have.0.2, codes_low IsCode n ds have.1)

-- a code is of one diagram
abbrev pub AreCodes : (ℕ → Diagram → Type 0) → Type 0
AreCodes IsCode = (c : ℕ) (d e : Diagram) → IsCode c d → IsCode c e → d ≡ e

-- others have other codes
codes_other : (IsCode : ℕ → Diagram → Type 0) (n c : ℕ) (d : Diagram) → AreCodes IsCode → IsCode c d
    → (ds : List Diagram) → AllByRecursion (λ e. d ≢ e) ds → (have : HaveCodes IsCode n ds)
    → AllByRecursion (λ b. c ≢ b) (codes_of IsCode n ds have)
unfolding codes_of
codes_other IsCode n c d one is [] differ have = tt
codes_other IsCode n c d one is (e ∷ ds) differ have = (
  λ same. differ.0 (one c d e is (subst (λ b. IsCode b e) (sym same) have.0.1)),
  codes_other IsCode n c d one is ds differ.1 have.1,
)

-- no code stands twice
codes_distinct : (IsCode : ℕ → Diagram → Type 0) (n : ℕ) → AreCodes IsCode → (ds : List Diagram) → AreDifferent ds
    → (have : HaveCodes IsCode n ds) → AreDistinct (codes_of IsCode n ds have)
unfolding codes_of
codes_distinct IsCode n one [] differ have = tt
codes_distinct IsCode n one (d ∷ ds) differ have =
    (codes_other IsCode n have.0.0 d one have.0.1 ds differ.0 have.1, codes_distinct IsCode n one ds differ.1 have.1)

-- so there are at most n
pub few_coded : (IsCode : ℕ → Diagram → Type 0) (n : ℕ) → AreCodes IsCode → (ds : List Diagram) → AreDifferent ds
    → HaveCodes IsCode n ds → length ds ≤ n
few_coded IsCode n one ds differ have =
    let codes = codes_of IsCode n ds have in
    let within_limit = few_below n codes (codes_distinct IsCode n one ds differ have) (codes_low IsCode n ds have) in
    omega (arith, within_limit, length_codes IsCode n ds have)

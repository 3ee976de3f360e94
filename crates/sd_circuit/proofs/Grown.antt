-- Lists of numbers that grow at their end, and marks that are set.
use Rattle.std.proofs.Common.{◌≡◌, ◌≢◌, ◌⊎◌, ℕ, zero, suc, ◌+◌, ◌<◌, Bool, true, false, not, cond, List, [], ◌∷◌, ◌++◌}
use Rattle.std.proofs.Common.{length, get_or, take, drop, refl, sym, ◌∙◌, ap, subst, inl, inr, arith, length-append}
use Rattle.std.proofs.Common.{below_more}
use Rattle.std.proofs.Math.ListN.{set, get_or-append}
use Rattle.std.proofs.Math.Seq.{get_or-append_seam, take-append_seam}
use Rattle.std.proofs.lemmas.List.{get_or-set_same}
use Rattle.std.proofs.lemmas.List.Sums.{sum_by-set}
use Rattle.sd_circuit.specs.Placing.{is_marked, unmarked_count}

pub grown_length : (xs : List ℕ) (x : ℕ) → length (xs ++ x ∷ []) ≡ length xs + 1
grown_length xs x = length-append xs (x ∷ [])

pub grown_old : (xs : List ℕ) (x i : ℕ) → i < length xs → get_or (xs ++ x ∷ []) i 0 ≡ get_or xs i 0
grown_old xs x i inside = get_or-append xs (x ∷ []) 0 i inside

pub grown_last : (xs : List ℕ) (x : ℕ) → get_or (xs ++ x ∷ []) (length xs) 0 ≡ x
grown_last xs x = get_or-append_seam xs x [] 0

-- what holds at each place of the list and at a new last one holds at each place of the longer list
pub each_grown : (P : ℕ → ℕ → Type 0) (xs : List ℕ) (x : ℕ) → ((i : ℕ) → i < length xs → P i (get_or xs i 0))
    → P (length xs) x → (i : ℕ) → i < length (xs ++ x ∷ []) → P i (get_or (xs ++ x ∷ []) i 0)
each_grown P xs x old last i inside =
    below_more (λ k. P k (get_or (xs ++ x ∷ []) k 0)) (length xs)
    (λ k below. subst (P k) (sym (grown_old xs x k below)) (old k below))
    (subst (P (length xs)) (sym (grown_last xs x)) last) i
    (subst (λ n. i < n) (grown_length xs x) inside)

-- a number that stands in a list stands in the longer one
pub stands_grown : (xs : List ℕ) (x k : ℕ) → (p : ℕ) × (p < length xs) × (get_or xs p 0 ≡ k)
    → (p : ℕ) × (p < length (xs ++ x ∷ [])) × (get_or (xs ++ x ∷ []) p 0 ≡ k)
stands_grown xs x k (p, inside, is) = (p, omega (arith, grown_length xs x, inside), cc (grown_old xs x p inside, is))

-- so does the last one
pub last_stands : (xs : List ℕ) (x k : ℕ) → x ≡ k
    → (p : ℕ) × (p < length (xs ++ x ∷ [])) × (get_or (xs ++ x ∷ []) p 0 ≡ k)
last_stands xs x k is = (length xs, omega (arith, grown_length xs x), cc (grown_last xs x, is))

-- different numbers and one that is none of them
pub once_grown : (xs : List ℕ) (x : ℕ) → ((i j : ℕ) → i < j → j < length xs → get_or xs i 0 ≢ get_or xs j 0)
    → ((i : ℕ) → i < length xs → get_or xs i 0 ≢ x)
    → (i j : ℕ) → i < j → j < length (xs ++ x ∷ []) → get_or (xs ++ x ∷ []) i 0 ≢ get_or (xs ++ x ∷ []) j 0
once_grown xs x once other i j before inside =
    each_grown (λ k y. i < k → get_or (xs ++ x ∷ []) i 0 ≢ y) xs x
    (λ k below less same. once i k less below
    (cc (grown_old xs x i (let near : i < length xs = omega (arith, less, below) in near), same)))
    (λ less same. other i less (cc (grown_old xs x i less, same))) j inside before

-- a mark that is set
pub set_marked : (marks : List Bool) (k : ℕ) → k < length marks → is_marked (set marks k true) k ≡ true
set_marked marks k inside = get_or-set_same marks k true false inside

-- the others stay
pub set_stays : (marks : List Bool) (k j : ℕ) → is_marked marks j ≡ true → is_marked (set marks k true) j ≡ true
set_stays [] k j on = on
set_stays (m ∷ ms) zero zero on = refl
set_stays (m ∷ ms) zero (suc j) on = on
set_stays (m ∷ ms) (suc k) zero on = on
set_stays (m ∷ ms) (suc k) (suc j) on = set_stays ms k j on

-- what is marked afterwards was marked, or is that one
pub set_either : (marks : List Bool) (k j : ℕ) → is_marked (set marks k true) j ≡ true
    → (k ≡ j) ⊎ (is_marked marks j ≡ true)
set_either [] k j on = inr on
set_either (m ∷ ms) zero zero on = inl refl
set_either (m ∷ ms) zero (suc j) on = inr on
set_either (m ∷ ms) (suc k) zero on = inr on
set_either (m ∷ ms) (suc k) (suc j) on = elim (set_either ms k j on) [ inl e ↦ inl (ap suc e) | inr was ↦ inr was ]

-- what is not marked afterwards was not, and is another one
pub set_unmarked : (marks : List Bool) (k j : ℕ) → is_marked (set marks k true) j ≡ false → is_marked marks j ≡ false
set_unmarked [] k j off = off
set_unmarked (m ∷ ms) zero zero off = cc
set_unmarked (m ∷ ms) zero (suc j) off = off
set_unmarked (m ∷ ms) (suc k) zero off = off
set_unmarked (m ∷ ms) (suc k) (suc j) off = set_unmarked ms k j off

pub set_other : (marks : List Bool) (k j : ℕ) → j ≢ k → is_marked marks j ≡ false
    → is_marked (set marks k true) j ≡ false
set_other [] k j other off = off
set_other (m ∷ ms) zero zero other off = absurd (other refl)
set_other (m ∷ ms) zero (suc j) other off = off
set_other (m ∷ ms) (suc k) zero other off = off
set_other (m ∷ ms) (suc k) (suc j) other off = set_other ms k j (λ e. other (ap suc e)) off

-- one less is not marked
pub set_fewer : (marks : List Bool) (k : ℕ) → k < length marks → is_marked marks k ≡ false
    → unmarked_count (set marks k true) + 1 ≡ unmarked_count marks
set_fewer marks k inside off =
    omega (arith, sum_by-set (λ m. cond (not m) 1 0) marks k true false inside, ap (λ m. cond {A = ℕ} (not m) 1 0) off)

-- where all are marked none is not
pub none_unmarked : (marks : List Bool) → ((k : ℕ) → k < length marks → is_marked marks k ≡ true)
    → unmarked_count marks ≡ 0
none_unmarked [] all = refl
none_unmarked (m ∷ ms) all =
    let here : m ≡ true = all 0 (omega arith) in
    let rest : unmarked_count ms ≡ 0 =
    none_unmarked ms (λ k below. all (suc k) (let more : suc k < suc (length ms) = omega (arith, below) in more)) in
    let after : unmarked_count (true ∷ ms) ≡ 0 = omega (arith, rest) in
    ap (λ b. unmarked_count (b ∷ ms)) here ∙ after

-- a slice that was lent whole comes back whole
pub whole_slice : {X : Type 0} (new old : List X) (size : ℕ) → length new ≡ size
    → take size (new ++ drop (length new) old) ≡ new
whole_slice new old size e =
    ap (λ k. take k (new ++ drop (length new) old)) (sym e) ∙ take-append_seam new (drop (length new) old)

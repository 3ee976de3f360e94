-- Sums over the counted numbers.
use Rattle.std.proofs.Common.{◌≡◌, ℕ, zero, suc, ◌+◌, ◌<◌, ◌≤◌, Bool, true, false, cond, List, [], ◌∷◌, ◌++◌, length}
use Rattle.std.proofs.Common.{get_or}
use Rattle.std.proofs.Common.{refl, ap, subst, arith}
use Rattle.std.proofs.Math.ListN.{set}
use Rattle.std.proofs.lemmas.Bool.{cases_eq}
use Rattle.std.proofs.lemmas.List.Sums.{sum_by-cons}
use Rattle.std.specs.List.{AllByRecursion}
use Rattle.sd_runs.proofs.Places.{by_cases}
use Rattle.sd_counts.specs.Right.{sum_counted}
use Rattle.sd_counts.specs.Uses.{counts_one, uses_of_pair, uses_in}
use Rattle.sd_counts.proofs.Adding.{counts_same, counts_other}
use Rattle.sd_counts.proofs.OnStack.{not_both}

-- one number more is counted
pub sum_risen : (f : ℕ → ℕ) (bs : List Bool) (m : ℕ) → m < length bs → get_or bs m false ≡ false
    → sum_counted f (set bs m true) ≡ sum_counted f bs + f m
sum_risen f [] m inside off = absurd (omega arith)
sum_risen f (true ∷ bs) zero inside off = absurd (not_both off refl)
sum_risen f (false ∷ bs) zero inside off = omega arith
sum_risen f (b ∷ bs) (suc m) inside off =
    let rest : sum_counted (λ n. f (suc n)) (set bs m true) ≡ sum_counted (λ n. f (suc n)) bs + f (suc m) =
    sum_risen (λ n. f (suc n)) bs m (omega arith) off in
    omega arith

-- one number less
pub sum_fallen : (f : ℕ → ℕ) (bs : List Bool) (m : ℕ) → get_or bs m false ≡ true
    → sum_counted f bs ≡ sum_counted f (set bs m false) + f m
sum_fallen f [] m on = absurd (not_both refl on)
sum_fallen f (true ∷ bs) zero on = omega arith
sum_fallen f (false ∷ bs) zero on = absurd (not_both refl on)
sum_fallen f (b ∷ bs) (suc m) on =
    let rest : sum_counted (λ n. f (suc n)) bs ≡ sum_counted (λ n. f (suc n)) (set bs m false) + f (suc m) =
    sum_fallen (λ n. f (suc n)) bs m on in
    omega arith

-- each counted number adds its part
pub sum_has : (f : ℕ → ℕ) (bs : List Bool) (m : ℕ) → get_or bs m false ≡ true → f m ≤ sum_counted f bs
sum_has f bs m on = omega (arith, sum_fallen f bs m on)

-- the first number adds, or a later one does
first_or : (f : ℕ → ℕ) (bs : List Bool) → 0 < sum_counted f (true ∷ bs) → (k : ℕ) → f 0 ≡ k
    → (0 < sum_counted (λ n. f (suc n)) bs → (m : ℕ) × (get_or bs m false ≡ true) × (0 < f (suc m)))
    → (m : ℕ) × (get_or (true ∷ bs) m false ≡ true) × (0 < f m)
first_or f bs some (suc k) e later = (0, refl, omega (arith, e))
first_or f bs some zero e later =
    let more = later (omega (arith, some, e)) in (suc more.0, more.1, more.2)

-- where the sum is not zero, some counted number adds to it
pub sum_some : (f : ℕ → ℕ) (bs : List Bool) → 0 < sum_counted f bs
    → (m : ℕ) × (get_or bs m false ≡ true) × (0 < f m)
sum_some f [] some = absurd (omega arith)
sum_some f (false ∷ bs) some =
    let more = sum_some (λ n. f (suc n)) bs (omega arith) in (suc more.0, more.1, more.2)
sum_some f (true ∷ bs) some = first_or f bs some (f 0) refl (λ more. sum_some (λ n. f (suc n)) bs more)

-- what is so for each counted number is so for the sum
pub sum_equal : (f g : ℕ → ℕ) (bs : List Bool) → ((n : ℕ) → get_or bs n false ≡ true → f n ≡ g n)
    → sum_counted f bs ≡ sum_counted g bs
sum_equal f g [] h = refl
sum_equal f g (true ∷ bs) h =
    let rest : sum_counted (λ n. f (suc n)) bs ≡ sum_counted (λ n. g (suc n)) bs =
    sum_equal (λ n. f (suc n)) (λ n. g (suc n)) bs (λ n on. h (suc n) on) in
    omega (arith, h 0 refl, rest)
sum_equal f g (false ∷ bs) h =
    let rest : sum_counted (λ n. f (suc n)) bs ≡ sum_counted (λ n. g (suc n)) bs =
    sum_equal (λ n. f (suc n)) (λ n. g (suc n)) bs (λ n on. h (suc n) on) in
    omega (arith, rest)

pub sum_twice : (f g : ℕ → ℕ) (bs : List Bool) → ((n : ℕ) → f n ≤ g n + g n)
    → sum_counted f bs ≤ sum_counted g bs + sum_counted g bs
sum_twice f g [] h = omega arith
sum_twice f g (true ∷ bs) h =
    omega (arith, h 0, sum_twice (λ n. f (suc n)) (λ n. g (suc n)) bs (λ n. h (suc n)))
sum_twice f g (false ∷ bs) h =
    omega (arith, sum_twice (λ n. f (suc n)) (λ n. g (suc n)) bs (λ n. h (suc n)))

pub sum_both : (f g : ℕ → ℕ) (bs : List Bool)
    → sum_counted (λ n. f n + g n) bs ≡ sum_counted f bs + sum_counted g bs
sum_both f g [] = refl
sum_both f g (true ∷ bs) = omega (arith, sum_both (λ n. f (suc n)) (λ n. g (suc n)) bs)
sum_both f g (false ∷ bs) = omega (arith, sum_both (λ n. f (suc n)) (λ n. g (suc n)) bs)

pub sum_le : (f g : ℕ → ℕ) (bs : List Bool) → ((n : ℕ) → f n ≤ g n) → sum_counted f bs ≤ sum_counted g bs
sum_le f g [] h = omega arith
sum_le f g (true ∷ bs) h = omega (arith, h 0, sum_le (λ n. f (suc n)) (λ n. g (suc n)) bs (λ n. h (suc n)))
sum_le f g (false ∷ bs) h = omega (arith, sum_le (λ n. f (suc n)) (λ n. g (suc n)) bs (λ n. h (suc n)))

-- a number more that is not counted
pub sum_padded : (f : ℕ → ℕ) (bs : List Bool) → sum_counted f (bs ++ false ∷ []) ≡ sum_counted f bs
sum_padded f [] = refl
sum_padded f (b ∷ bs) = ap (λ k. cond b (f 0) 0 + k) (sum_padded (λ n. f (suc n)) bs)

-- a code counts at most once for another, and at most twice in a pair
one_at_most : (c code : ℕ) → counts_one c code ≤ 1
one_at_most c code =
    by_cases (λ e. omega (arith, counts_same c code e)) (λ ne. omega (arith, counts_other c code ne)) (cases_eq code c)

pub uses_twice : (c : ℕ) (list : List (ℕ × ℕ)) → uses_in c list ≤ length list + length list
uses_twice c [] = omega arith
uses_twice c (e ∷ list) =
    omega (
      arith,
      sum_by-cons (uses_of_pair c) e list,
      uses_twice c list,
      one_at_most c e.0,
      one_at_most c e.1,
    )

-- where a code is used in a list, what holds of all its codes holds of it
pub used_so : (P : ℕ → Type 0) (c : ℕ) (list : List (ℕ × ℕ))
    → AllByRecursion (λ (e : ℕ × ℕ). P e.0 × P e.1) list → 0 < uses_in c list → P c
used_so P c [] all some = absurd (omega arith)
used_so P c (e ∷ list) all some =
    by_cases
    (λ same. subst P same (all.0).0)
    (λ ne. by_cases
    (λ same. subst P same (all.0).1)
    (λ nf. used_so P c list all.1 (omega (
      arith,
      some,
      sum_by-cons (uses_of_pair c) e list,
      counts_other c e.0 ne,
      counts_other c e.1 nf,
    )))
    (cases_eq e.1 c))
    (cases_eq e.0 c)

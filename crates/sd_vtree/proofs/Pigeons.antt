-- Lists of the numbers 1 to n, each once.
use Rattle.std.proofs.Common.{◌≡◌, ◌≢◌, ℕ, zero, suc, ◌+◌, ◌<◌, ◌≤◌, List, [], ◌∷◌, ◌++◌, length, refl, inl, inr}
use Rattle.std.proofs.Common.{arith, subst}
use Rattle.std.specs.List.{AllByRecursion, range_with_len}
use Rattle.std.proofs.lemmas.Bool.{cases_eq, cases_lt}
use Rattle.sd_model.specs.Tree.{AreDistinct, IsVtree, Tree, leaves, variables}
use Rattle.sd_vtree.specs.Numbered.{times}
use Rattle.sd_vtree.proofs.Times.{times_same, times_other}

-- how often the numbers 1 to n stand in a list, together
abbrev pub times_to : ℕ → List ℕ → ℕ
times_to zero xs = 0
times_to (suc n) xs = times_to n xs + times (suc n) xs

times_to_nil : (n : ℕ) → times_to n [] ≡ 0
times_to_nil zero = refl
times_to_nil (suc n) = omega (arith, times_to_nil n)

-- a number past n does not count
times_to_past : (n x : ℕ) (xs : List ℕ) → n < x → times_to n (x ∷ xs) ≡ times_to n xs
times_to_past zero x xs h = refl
times_to_past (suc n) x xs h =
    let d : x ≡ suc n → ⊥ = λ e. omega arith in
    omega (arith, times_to_past n x xs (omega arith), times_other (suc n) x xs d)

-- a number from 1 to n counts once
times_to_within : (n x : ℕ) (xs : List ℕ) → 1 ≤ x → x ≤ n → times_to n (x ∷ xs) ≡ 1 + times_to n xs
times_to_within zero x xs p h = absurd (omega arith)
times_to_within (suc n) x xs p h = elim (cases_eq x (suc n)) [
  | inl e ↦ omega (arith, times_to_past n x xs (omega arith), times_same (suc n) x xs e)
  | inr d ↦ omega (arith, times_to_within n x xs p (omega arith), times_other (suc n) x xs d)
]

-- a list of such numbers alone
times_to_length : (n : ℕ) (xs : List ℕ) → AllByRecursion (λ x. (1 ≤ x) × (x ≤ n)) xs → times_to n xs ≡ length xs
times_to_length n [] a = times_to_nil n
times_to_length n (x ∷ xs) a = omega (arith, times_to_length n xs a.1, times_to_within n x xs a.0.0 a.0.1)

-- where no number stands twice, there are at most n of them
times_to_le : (n : ℕ) (xs : List ℕ) → ((x : ℕ) → times x xs ≤ 1) → times_to n xs ≤ n
times_to_le zero xs h = omega arith
times_to_le (suc n) xs h = omega (arith, times_to_le n xs h, h (suc n))

-- one of them missing
times_to_lt : (n : ℕ) (xs : List ℕ) → ((x : ℕ) → times x xs ≤ 1) → (y : ℕ) → 1 ≤ y → y ≤ n → times y xs ≡ 0 →
    times_to n xs < n
times_to_lt zero xs h y p w z = absurd (omega arith)
times_to_lt (suc n) xs h y p w z = elim (cases_eq y (suc n)) [
  | inl e ↦ (let s : times (suc n) xs ≡ 0 = subst (λ k. times k xs ≡ 0) e z in omega (arith, times_to_le n xs h))
  | inr d ↦ omega (arith, times_to_lt n xs h y p (omega arith) z, h (suc n))
]

-- a number that differs from all of a list is not in it
absent : (x : ℕ) (xs : List ℕ) → AllByRecursion (λ y. x ≢ y) xs → times x xs ≡ 0
absent x [] a = refl
absent x (y ∷ xs) a = omega (arith, absent x xs a.1, times_other x y xs (λ e. a.0 (let r : x ≡ y = omega arith in r)))

absent_back : (x : ℕ) (xs : List ℕ) → times x xs ≡ 0 → AllByRecursion (λ y. x ≢ y) xs
absent_back x [] z = tt
absent_back x (y ∷ xs) z = elim (cases_eq y x) [
  | inl e ↦ absurd (omega (arith, times_same x y xs e))
  | inr d ↦ ((λ e. d (let r : y ≡ x = omega arith in r)), absent_back x xs (omega (arith, times_other x y xs d)))
]

-- no number stands twice in a list, both ways of saying so
pub times_distinct : (xs : List ℕ) → AreDistinct xs → (x : ℕ) → times x xs ≤ 1
times_distinct [] a x = omega arith
times_distinct (y ∷ xs) a x = elim (cases_eq y x) [
  | inl e ↦ (let z : times x xs ≡ 0 = subst (λ k. times k xs ≡ 0) e (absent y xs a.0) in omega
      (arith, times_same x y xs e))
  | inr d ↦ omega (arith, times_distinct xs a.1 x, times_other x y xs d)
]

pub distinct_times : (xs : List ℕ) → ((x : ℕ) → times x xs ≤ 1) → AreDistinct xs
distinct_times [] h = tt
distinct_times (y ∷ xs) h =
    (absent_back y xs (omega (arith, h y, times_same y y xs refl)), distinct_times xs (λ x. at x))
  where
    at : (x : ℕ) → times x xs ≤ 1
    at x = elim (cases_eq y x) [
      | inl e ↦ omega (arith, h x, times_same x y xs e)
      | inr d ↦ omega (arith, h x, times_other x y xs d)
    ]

-- what holds of each element, both ways of saying so
pub times_all : (P : ℕ → Type 0) (xs : List ℕ) → AllByRecursion P xs → (x : ℕ) → 1 ≤ times x xs → P x
times_all P [] a x h = absurd (omega arith)
times_all P (y ∷ xs) a x h = elim (cases_eq y x) [
  | inl e ↦ subst P e a.0
  | inr d ↦ times_all P xs a.1 x (omega (arith, times_other x y xs d))
]

pub all_times : (P : ℕ → Type 0) (xs : List ℕ) → ((x : ℕ) → 1 ≤ times x xs → P x) → AllByRecursion P xs
all_times P [] h = tt
all_times P (y ∷ xs) h = (h y (omega (arith, times_same y y xs refl)), all_times P xs (λ x p. h x (more x p)))
  where
    more : (x : ℕ) → 1 ≤ times x xs → 1 ≤ times x (y ∷ xs)
    more x p = omega arith

-- each variable of a vtree has a leaf
pub has_variable : (t : Tree) → IsVtree t → (x : ℕ) → 1 ≤ x → x ≤ leaves t → 1 ≤ times x (variables t)
has_variable t v x p w = elim (cases_lt 0 (times x (variables t))) [
  | inl h ↦ omega arith
  | inr z ↦ absurd (omega (
    arith,
    times_to_lt (leaves t) (variables t) (times_distinct (variables t) v.distinct) x p w (omega arith),
    times_to_length (leaves t) (variables t) v.in_range,
  ))
]

-- each leaf has a variable from 1 on
pub variable_in_range : (t : Tree) → IsVtree t → (x : ℕ) → 1 ≤ times x (variables t) → (1 ≤ x) × (x ≤ leaves t)
variable_in_range t v x h = times_all (λ y. (1 ≤ y) × (y ≤ leaves t)) (variables t) v.in_range x h

-- the numbers from one on, in order
pub times_range_past : (n a k : ℕ) → n < a → times n (range_with_len a k) ≡ 0
times_range_past n a zero h = refl
times_range_past n a (suc k) h =
    let d : a ≡ n → ⊥ = λ e. omega arith in
    omega (arith, times_range_past n (a + 1) k (omega arith), times_other n a (range_with_len (a + 1) k) d)

pub times_range_above : (n a k : ℕ) → a + k ≤ n → times n (range_with_len a k) ≡ 0
times_range_above n a zero h = refl
times_range_above n a (suc k) h =
    let d : a ≡ n → ⊥ = λ e. omega arith in
    omega (arith, times_range_above n (a + 1) k (omega arith), times_other n a (range_with_len (a + 1) k) d)

-- a number of the range stands there once
pub times_range_within : (n a k : ℕ) → a ≤ n → n < a + k → times n (range_with_len a k) ≡ 1
times_range_within n a zero p h = absurd (omega arith)
times_range_within n a (suc k) p h = elim (cases_eq a n) [
  | inl e ↦ omega (arith, times_range_past n (a + 1) k (omega arith), times_same n a (range_with_len (a + 1) k) e)
  | inr d ↦ omega (
    arith,
    times_range_within n (a + 1) k (omega arith) (omega arith),
    times_other n a (range_with_len (a + 1) k) d,
  )
]

-- each number stands there at most once, and only where it is in the range
pub times_range : (n a k : ℕ) → times n (range_with_len a k) ≤ 1
times_range n a k = elim (cases_lt n a) [
  | inl h ↦ omega (arith, times_range_past n a k h)
  | inr h ↦ elim (cases_lt n (a + k)) [
    | inl w ↦ omega (arith, times_range_within n a k h w)
    | inr w ↦ omega (arith, times_range_above n a k w)
  ]
]

-- what stands in a range is between its ends
pub in_range : (n a k : ℕ) → 1 ≤ times n (range_with_len a k) → (a ≤ n) × (n < a + k)
in_range n a k h = elim (cases_lt n a) [
  | inl p ↦ absurd (omega (arith, times_range_past n a k p))
  | inr p ↦ elim (cases_lt n (a + k)) [
    | inl w ↦ (p, w)
    | inr w ↦ absurd (omega (arith, times_range_above n a k w))
  ]
]

-- a range is two ranges joined
pub range_append : (a m k : ℕ) → range_with_len a (m + k) ≡ range_with_len a m ++ range_with_len (a + m) k
range_append a zero k = rw (let e : 0 + k ≡ k = omega arith in e, let f : a + 0 ≡ a = omega arith in f) refl
range_append a (suc m) k =
    let e : suc m + k ≡ suc (m + k) = omega arith in
    let f : a + suc m ≡ (a + 1) + m = omega arith in
    rw (e, f, range_append (a + 1) m k) refl

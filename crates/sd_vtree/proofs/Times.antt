-- How often a number stands in a list.
use Rattle.std.proofs.Common.{◌≡◌, ℕ, zero, suc, ◌+◌, ◌<◌, ◌≤◌, List, [], ◌∷◌, ◌++◌, length, slice_get, get_or, Some}
use Rattle.std.proofs.Common.{refl, ap, subst, ◌∙◌, eq-eqb, ne_eqb, inl, inr, arith}
use Rattle.std.proofs.lemmas.Bool.{cases_eq}
use Rattle.std.proofs.lemmas.Option.{none-some, same_Some}
use Rattle.sd_vtree.specs.Numbered.{times}

-- in two lists joined
pub times_append : (n : ℕ) (xs ys : List ℕ) → times n (xs ++ ys) ≡ times n xs + times n ys
times_append n [] ys = omega arith
times_append n (x ∷ xs) ys = omega (arith, times_append n xs ys)

-- at the head
pub times_same : (n m : ℕ) (ms : List ℕ) → m ≡ n → times n (m ∷ ms) ≡ 1 + times n ms
times_same n m ms e = rw (eq-eqb m n e) refl

pub times_other : (n m : ℕ) (ms : List ℕ) → (m ≡ n → ⊥) → times n (m ∷ ms) ≡ times n ms
times_other n m ms d = rw (ne_eqb m n d) (omega arith)

-- at a node: its own number and those of its children
pub times_node : (n m : ℕ) (ls rs : List ℕ) → times n (ls ++ m ∷ rs) ≡ times n ls + times n (m ∷ rs)
times_node n m ls rs = times_append n ls (m ∷ rs)

-- where a number stands that is in the list
pub record Place (n : ℕ) (ms : List ℕ) : Type 0 where
  pub index : ℕ
  pub within : index < length ms
  pub is : get_or ms index 0 ≡ n

-- a number that is in the list has a place
pub place : (n : ℕ) (ms : List ℕ) → 1 ≤ times n ms → Place n ms
place n [] h = absurd (omega arith)
place n (m ∷ ms) h = elim (cases_eq m n) [
  | inl e ↦ record { index = 0; within = omega arith; is = e }
  | inr d ↦ (let p = place n ms
      (omega (arith, times_other n m ms d)) in record {
        index = suc p.index;
        within = (let w = p.within in omega arith);
        is = p.is;
      })
]

-- what stands in the list at an index is in it
pub times_get_or : (ms : List ℕ) (p : ℕ) → p < length ms → 1 ≤ times (get_or ms p 0) ms
times_get_or [] p h = absurd (omega arith)
times_get_or (m ∷ ms) zero h = omega (arith, times_same m m ms refl)
times_get_or (m ∷ ms) (suc p) h = let r = times_get_or ms p (omega arith) in omega arith

-- what is read is in the list
pub times_slice_get : (ms : List ℕ) (p n : ℕ) → slice_get ms p ≡ Some n → 1 ≤ times n ms
times_slice_get [] p n e = absurd (none-some n e)
times_slice_get (m ∷ ms) zero n e = omega (arith, times_same n m ms (same_Some m n e))
times_slice_get (m ∷ ms) (suc p) n e = omega (arith, times_slice_get ms p n e)

-- a number that stands once stands in one place
pub one_place : (ms : List ℕ) (n p q : ℕ) → times n ms ≤ 1 → slice_get ms p ≡ Some n → slice_get ms q ≡ Some n → p ≡ q
one_place [] n p q h e f = absurd (none-some n e)
one_place (m ∷ ms) n zero zero h e f = refl
one_place (m ∷ ms) n zero (suc q) h e f = absurd
    (omega (arith, times_same n m ms (same_Some m n e), times_slice_get ms q n f))
one_place (m ∷ ms) n (suc p) zero h e f = absurd
    (omega (arith, times_same n m ms (same_Some m n f), times_slice_get ms p n e))
one_place (m ∷ ms) n (suc p) (suc q) h e f = ap suc (one_place ms n p q (omega arith) e f)

pub slice_get_append : (xs ys : List ℕ) (p : ℕ) → slice_get (xs ++ ys) (length xs + p) ≡ slice_get ys p
slice_get_append [] ys p = ap (slice_get ys) (let e : 0 + p ≡ p = omega arith in e)
slice_get_append (x ∷ xs) ys p = ap (slice_get (x ∷ (xs ++ ys)))
    (let e : suc (length xs) + p ≡ suc (length xs + p) = omega arith in e) ∙ slice_get_append xs ys p

-- a measure that fell below an equal number
pub smaller : {a k t : ℕ} → a < k → k ≡ t → a < t
smaller {a} {k} {t} h e = subst (λ n. a < n) e h

pub slice_get_left : (xs ys : List ℕ) (p : ℕ) → p < length xs → slice_get (xs ++ ys) p ≡ slice_get xs p
slice_get_left [] ys p h = absurd (omega arith)
slice_get_left (x ∷ xs) ys zero h = refl
slice_get_left (x ∷ xs) ys (suc p) h = slice_get_left xs ys p (omega arith)

-- The parity of literals that hold is the exclusive or of their values, taken from either end.
use Rattle.std.proofs.Common.{◌≡◌, ℕ, suc, ◌%◌, Bool, true, false, not, List, [], ◌∷◌, ◌++◌, length, ℤ}
use Rattle.std.proofs.Common.{refl, ap, sym, ◌∙◌, inl, inr, arith}
use Rattle.std.specs.Prelude.{◌==◌, filter}
use Rattle.std.proofs.lemmas.Bool.{cases_Bool, cases_lt}
use Rattle.sd_model.specs.declared.trees.Operation.TheVariants.{Xor}
use Rattle.sd_model.specs.Assignment.{literal_holds}
use Rattle.sd_model.specs.Expression.{combine, odd_hold}

-- one more is odd where the number is not
odd_next : (n : ℕ) → (suc n % 2 == 1) ≡ not (n % 2 == 1)
odd_next n = elim (cases_lt (n % 2) 1) [
  | inl even ↦
      let here : n % 2 ≡ 0 = omega arith in
      let next : suc n % 2 ≡ 1 = omega arith in
      rw (here, next) refl
  | inr odd ↦
      let here : n % 2 ≡ 1 = omega arith in
      let next : suc n % 2 ≡ 0 = omega arith in
      rw (here, next) refl
]

-- one more literal in front
pub odd_more : (a : List Bool) (z : ℤ) (zs : List ℤ)
    → odd_hold a (z ∷ zs) ≡ combine Xor (literal_holds a z) (odd_hold a zs)
odd_more a z zs = elim (cases_Bool (literal_holds a z)) [
  | inl holds ↦ rw holds (odd_next (length (filter (literal_holds a) zs)))
  | inr fails ↦ rw fails refl
]

-- the exclusive or does not depend on where brackets stand
pub xor_assoc : (b c d : Bool) → combine Xor b (combine Xor c d) ≡ combine Xor (combine Xor b c) d
xor_assoc true true true = refl
xor_assoc true true false = refl
xor_assoc true false d = refl
xor_assoc false c d = refl

-- two lists of literals one after the other
pub odd_append : (a : List Bool) (xs ys : List ℤ)
    → odd_hold a (xs ++ ys) ≡ combine Xor (odd_hold a xs) (odd_hold a ys)
odd_append a [] ys = refl
odd_append a (x ∷ xs) ys =
    odd_more a x (xs ++ ys) ∙ ap (combine Xor (literal_holds a x)) (odd_append a xs ys)
    ∙ xor_assoc (literal_holds a x) (odd_hold a xs) (odd_hold a ys)
    ∙ ap (λ b. combine Xor b (odd_hold a ys)) (sym (odd_more a x xs))

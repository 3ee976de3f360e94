-- Of the elements of a partition one has a true prime.
use Rattle.std.proofs.Common.{◌≡◌, ℕ, suc, Bool, true, false, cond, List, refl, arith}
use Rattle.sd_model.specs.Diagram.{Diagram, Elements, meaning}
use Rattle.sd_model.specs.Canonical.{IsElement, first, later, true_primes}

-- one more element makes no number smaller
not_zero_step : (b : Bool) (n : ℕ) → (n ≡ 0 → ⊥) → cond b (suc n) n ≡ 0 → ⊥
not_zero_step true n ih h = absurd (omega arith)
not_zero_step false n ih h = ih h

-- where a prime is true, the number of true primes is not zero
not_zero : {p s : Diagram} {es : Elements} → IsElement p s es → (a : List Bool) → meaning p a ≡ true →
    true_primes es a ≡ 0 → ⊥
not_zero (first {rest = rest}) a e h =
    let k : suc (true_primes rest a) ≡ 0 = rw e at h in absurd (omega arith)
not_zero (later {q = q} {rest = rest} m) a e h = not_zero_step (meaning q a) (true_primes rest a) (not_zero m a e) h

-- where one prime is true before others, none of those is
rest_zero : (b : Bool) (n : ℕ) → b ≡ true → cond b (suc n) n ≡ 1 → n ≡ 0
rest_zero true n e h = omega arith
rest_zero false n e h = absurd (cc (e))

-- and where one is true behind it, it is false itself
rest_one : (b : Bool) (n : ℕ) → (n ≡ 0 → ⊥) → cond b (suc n) n ≡ 1 → n ≡ 1
rest_one true n ih h = absurd (ih (omega arith))
rest_one false n ih h = h

-- two elements with true primes are one
pub same_element : {p s r u : Diagram} {es : Elements} → IsElement p s es → IsElement r u es → (a : List Bool) →
    true_primes es a ≡ 1 → meaning p a ≡ true → meaning r a ≡ true → (p ≡ r) × (s ≡ u)
same_element first first a one hp hr = (refl, refl)
same_element {p = p} (first {rest = rest}) (later m) a one hp hr =
    absurd (not_zero m a hr (rest_zero (meaning p a) (true_primes rest a) hp one))
same_element {r = r} (later m) (first {rest = rest}) a one hp hr =
    absurd (not_zero m a hp (rest_zero (meaning r a) (true_primes rest a) hr one))
same_element (later {q = q} {rest = rest} m) (later k) a one hp hr =
    same_element m k a (rest_one (meaning q a) (true_primes rest a) (not_zero m a hp) one) hp hr

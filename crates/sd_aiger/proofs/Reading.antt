-- Steps of a reading that had no fault.
use Rattle.std.proofs.Common.{◌≡◌, ℕ, ◌+◌, Bool, true, false, List, [], ◌∷◌, ◌++◌, length, length-append}
use Rattle.std.proofs.Common.{Option, Some, None, Result, Ok, Err, refl, ap, subst, arith}
use Rattle.sd_base.specs.Reading.{◌>>=◌, ◌>>◌, fault_if, fault_for, each, each_after}

-- a test that passed, and what follows
pub passed : {B : Type 0} (b : Bool) (e : List ℕ) (rest : Result B (List ℕ)) (x : B)
    → (fault_if b e >> rest) ≡ Ok x → (b ≡ false) × (rest ≡ Ok x)
passed true e rest x h = cc
passed false e rest x h = (refl, h)

-- nothing was found, and what follows
pub none_found : {A B : Type 0} (fault : A → List ℕ) (o : Option A) (rest : Result B (List ℕ)) (x : B)
    → (fault_for fault o >> rest) ≡ Ok x → (o ≡ None) × (rest ≡ Ok x)
none_found fault (Some y) rest x h = cc
none_found fault None rest x h = (refl, h)

-- a step that gave a value, and what follows
pub gave : {A B : Type 0} (r : Result A (List ℕ)) (f : A → Result B (List ℕ)) (x : B)
    → (r >>= f) ≡ Ok x → (a : A) × (r ≡ Ok a) × (f a ≡ Ok x)
gave (Ok a) f x h = (a, refl, h)
gave (Err e) f x h = cc

-- what is put behind what came before it, where there was no fault
pub put_behind : {A B : Type 0} (f : List B → A → Result B (List ℕ)) (earlier : List B) (x : A) (ys : List B)
    → (f earlier x >>= λ y. Ok (earlier ++ y ∷ [])) ≡ Ok ys → (y : B) × (f earlier x ≡ Ok y) × (earlier ++ y ∷ [] ≡ ys)
put_behind f earlier x ys h =
    let step = gave (f earlier x) (λ y. Ok (earlier ++ y ∷ [])) ys h in
    let same : earlier ++ step.0 ∷ [] ≡ ys = cc (step.2) in
    (step.0, step.1, same)

-- what each step keeps, where it had no fault, holds of what was read
pub kept : {A B : Type 0} (P : List B → Type 0) (f : List B → A → Result B (List ℕ))
    → ((earlier : List B) (x : A) (y : B) → P earlier → f earlier x ≡ Ok y → P (earlier ++ y ∷ []))
    → (earlier : List B) (xs : List A) (ys : List B) → P earlier → each_after f earlier xs ≡ Ok ys → P ys
kept P f step earlier [] ys holds h = let same : earlier ≡ ys = cc in subst P same holds
kept P f step earlier (x ∷ xs) ys holds h =
    let first = gave (f earlier x >>= λ y. Ok (earlier ++ y ∷ [])) (λ next. each_after f next xs) ys h in
    let put = put_behind f earlier x first.0 first.1 in
    kept P f step first.0 xs ys (subst P put.2 (step earlier x put.0 holds put.1)) first.2

-- one element is read of each
pub length_after : {A B : Type 0} (f : List B → A → Result B (List ℕ)) (earlier : List B) (xs : List A) (ys : List B)
    → each_after f earlier xs ≡ Ok ys → length ys ≡ length earlier + length xs
length_after f earlier [] ys h = let same : earlier ≡ ys = cc in omega (arith, ap length same)
length_after f earlier (x ∷ xs) ys h =
    let first = gave (f earlier x >>= λ y. Ok (earlier ++ y ∷ [])) (λ next. each_after f next xs) ys h in
    let put = put_behind f earlier x first.0 first.1 in
    let shorter = length_after f first.0 xs ys first.2 in
    omega (arith, shorter, ap length put.2, length-append earlier (put.0 ∷ []))

-- so also where each is read alone
pub length_each : {A B : Type 0} (f : A → Result B (List ℕ)) (xs : List A) (ys : List B)
    → each f xs ≡ Ok ys → length ys ≡ length xs
length_each f [] ys h = let same : [] ≡ ys = cc in omega (arith, ap length same)
length_each f (x ∷ xs) ys h =
    let first = gave (f x) (λ y. each f xs >>= λ zs. Ok (y ∷ zs)) ys h in
    let others = gave (each f xs) (λ zs. Ok (first.0 ∷ zs)) ys first.2 in
    let same : first.0 ∷ others.0 ≡ ys = cc (others.2) in
    omega (arith, ap length same, length_each f xs others.0 others.1)

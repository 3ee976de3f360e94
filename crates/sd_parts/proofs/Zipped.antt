-- Two lists that fit place by place, put together.
use Rattle.std.proofs.Common.{List, [], ◌∷◌, ◌++◌, ℕ, take, drop, subst}
use Rattle.std.proofs.lemmas.List.{take-append-drop}
use Rattle.std.specs.List.{AllZip}

-- lists that fit, one behind the other
pub zipped_append : {A B : Type 0} (R : A → B → Type 0) (xs more : List A) (ys rest : List B) → AllZip R xs ys →
    AllZip R more rest → AllZip R (xs ++ more) (ys ++ rest)
zipped_append R [] more [] rest e f = f
zipped_append R [] more (y ∷ ys) rest e f = absurd e
zipped_append R (x ∷ xs) more [] rest e f = absurd e
zipped_append R (x ∷ xs) more (y ∷ ys) rest e f = (e.0, zipped_append R xs more ys rest e.1 f)

-- what fits the first n and what fits the others fits the whole
pub zipped_halves : {A B : Type 0} (R : A → B → Type 0) (n : ℕ) (xs : List A) (ys rest : List B) →
    AllZip R (take n xs) ys → AllZip R (drop n xs) rest → AllZip R xs (ys ++ rest)
zipped_halves R n xs ys rest e f =
    subst (λ zs. AllZip R zs (ys ++ rest)) (take-append-drop n xs)
    (zipped_append R (take n xs) (drop n xs) ys rest e f)

-- Lists that are read and written element by element.
use Rattle.std.proofs.Common.{◌≡◌, ℕ, zero, suc, ◌+◌, ◌<◌, List, [], ◌∷◌, ◌++◌, map, length, take, drop, get_or}
use Rattle.std.proofs.Common.{Some, slice_get, refl, sym, ◌∙◌, ap, subst, arith}
use Rattle.std.specs.List.{AllByRecursion}
use Rattle.std.proofs.lemmas.Option.{same_Some}
use Rattle.std.proofs.lemmas.List.{append_assoc}
use Rattle.sd_laws.proofs.Products.{all_push}

-- the first elements of a list and the next one
pub take_next : {X : Type 0} (xs : List X) (i : ℕ) (x : X) → slice_get xs i ≡ Some x →
    take (i + 1) xs ≡ take i xs ++ x ∷ []
take_next {X} xs i x h = go xs i h
  where
    step : (xs : List X) (i : ℕ) → take (suc i) xs ≡ take (i + 1) xs
    step xs i = let e : suc i ≡ i + 1 = omega arith in ap (λ n. take n xs) e

    go : (xs : List X) (i : ℕ) → slice_get xs i ≡ Some x → take (i + 1) xs ≡ take i xs ++ x ∷ []
    go [] i h = absurd (cc)
    go (y ∷ ys) zero h = sym (step (y ∷ ys) 0) ∙ ap (λ z. z ∷ []) (same_Some y x h)
    go (y ∷ ys) (suc i) h =
        sym (step (y ∷ ys) (suc i)) ∙ ap (λ l. y ∷ l) (step ys i ∙ go ys i h)

-- what is mapped of a list and one element more
pub map_push : {X Y : Type 0} (f : X → Y) (xs : List X) (x : X) → map f (xs ++ x ∷ []) ≡ map f xs ++ f x ∷ []
map_push f [] x = refl
map_push f (y ∷ xs) x = ap (λ l. f y ∷ l) (map_push f xs x)

-- one element more of what is added to a list
pub mapped_more : {X Y : Type 0} (f : X → Y) (old now new : List Y) (xs : List X) (i : ℕ) (x : X)
    → now ≡ old ++ map f (take i xs) → slice_get xs i ≡ Some x → new ≡ now ++ f x ∷ []
    → new ≡ old ++ map f (take (i + 1) xs)
mapped_more f old now new xs i x so_far at is =
    is ∙ ap (λ l. l ++ f x ∷ []) so_far ∙ append_assoc old (map f (take i xs)) (f x ∷ [])
    ∙ ap (λ l. old ++ l) (sym (map_push f (take i xs) x) ∙ ap (map f) (sym (take_next xs i x at)))

-- what the first elements have
pub all_taken : {X : Type 0} (P : X → Type 0) (xs : List X) (i : ℕ) (x : X) → AllByRecursion P (take i xs)
    → slice_get xs i ≡ Some x → P x → AllByRecursion P (take (i + 1) xs)
all_taken P xs i x all at last =
    subst (AllByRecursion P) (sym (take_next xs i x at)) (all_push P (take i xs) x all last)

-- what is read inside the first of two lists
pub slice_get_left : {X : Type 0} (xs ys : List X) (i : ℕ) → i < length xs
    → slice_get (xs ++ ys) i ≡ slice_get xs i
slice_get_left [] ys i lt = absurd (omega (arith, lt))
slice_get_left (x ∷ xs) ys zero lt = refl
slice_get_left (x ∷ xs) ys (suc i) lt = slice_get_left xs ys i (omega (arith, lt))

-- and what is read behind it
pub slice_get_last : {X : Type 0} (xs : List X) (y : X) → slice_get (xs ++ y ∷ []) (length xs) ≡ Some y
slice_get_last [] y = refl
slice_get_last (x ∷ xs) y = slice_get_last xs y

-- what follows of each mapped element
pub all_mapped : {X Y : Type 0} (f : X → Y) (P : X → Type 0) (Q : Y → Type 0) → ((x : X) → P x → Q (f x))
    → (xs : List X) → AllByRecursion P xs → AllByRecursion Q (map f xs)
all_mapped f P Q step [] all = tt
all_mapped f P Q step (x ∷ xs) all = (step x all.0, all_mapped f P Q step xs all.1)

-- two functions that agree at each element map the list to one
pub mapped_same : {X Y : Type 0} (f g : X → Y) (P : X → Type 0) → ((x : X) → P x → f x ≡ g x)
    → (xs : List X) → AllByRecursion P xs → map f xs ≡ map g xs
mapped_same f g P step [] all = refl
mapped_same f g P step (x ∷ xs) all =
    ap (λ y. y ∷ map f xs) (step x all.0) ∙ ap (λ l. g x ∷ l) (mapped_same f g P step xs all.1)

-- what is left of no elements
drop_none : {X : Type 0} (k : ℕ) → drop {A = X} k [] ≡ []
drop_none zero = refl
drop_none (suc k) = refl

-- what is left of what is left
pub drop_sum : {X : Type 0} (xs : List X) (n m : ℕ) → drop m (drop n xs) ≡ drop (n + m) xs
drop_sum xs zero m = let e : m ≡ 0 + m = omega arith in ap (λ k. drop k xs) e
drop_sum [] (suc n) m = drop_none m ∙ sym (drop_none (suc n + m))
drop_sum (x ∷ xs) (suc n) m =
    let e : suc (n + m) ≡ suc n + m = omega arith in
    drop_sum xs n m ∙ ap (λ k. drop k (x ∷ xs)) e

-- what each mapped element has, at an index
pub mapped_at : {X Y : Type 0} (f : X → Y) (P : Y → Type 0) (xs : List X) (i : ℕ) (d : X)
    → AllByRecursion P (map f xs) → i < length xs → P (f (get_or xs i d))
mapped_at f P [] i d all lt = absurd (omega (arith, lt))
mapped_at f P (x ∷ xs) zero d all lt = all.0
mapped_at f P (x ∷ xs) (suc i) d all lt = mapped_at f P xs i d all.1 (omega (arith, lt))

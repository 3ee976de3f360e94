-- Scans of a list that stop at the first element that tells.
use Rattle.std.proofs.Common.{◌≡◌, ℕ, zero, suc, ◌+◌, ◌<◌, ◌≤◌, Bool, true, false, ◌&&◌, ◌||◌}
use Rattle.std.proofs.Common.{List, [], ◌∷◌, length, take}
use Rattle.std.proofs.Common.{Some, slice_get, not, refl, sym, ◌∙◌, ap, subst, arith}
use Rattle.std.proofs.Common.{map, ◌++◌, get_or}
use Rattle.std.specs.List.{list_any, list_all}
use Rattle.std.proofs.lemmas.Grind.{get_or_default_zero}
use Rattle.std.proofs.lemmas.List.{map_push, take_more}
use Rattle.std.proofs.lemmas.Option.{slice_get_within, get_or_from_slice_get}
use Rattle.sd_check.specs.Judging.{built_pair}

-- one more that does not pass
any_step : {X : Type 0} (p : X → Bool) (xs : List X) (i : ℕ) (x : X) → slice_get xs i ≡ Some x →
    list_any p (take i xs) ≡ false → p x ≡ false → list_any p (take (suc i) xs) ≡ false
any_step p [] i x at h k = refl
any_step p (y ∷ ys) zero x at h k = let is : y ≡ x = cc in ap (λ z. p z || false) is ∙ ap (λ b. b || false) k
any_step p (y ∷ ys) (suc i) x at h k = go (λ e. any_step p ys i x at e k) (p y) h
  where
    go : (list_any p (take i ys) ≡ false → list_any p (take (suc i) ys) ≡ false) → (b : Bool) →
        (b || list_any p (take i ys)) ≡ false → (b || list_any p (take (suc i) ys)) ≡ false
    go ih true e = absurd (cc)
    go ih false e = ih e

-- the same by the next index
pub any_none : {X : Type 0} (p : X → Bool) (xs : List X) (i : ℕ) (x : X) → slice_get xs i ≡ Some x →
    list_any p (take i xs) ≡ false → p x ≡ false → list_any p (take (i + 1) xs) ≡ false
any_none p xs i x at h k =
    let next : suc i ≡ i + 1 = omega arith in
    subst (λ n. list_any p (take n xs) ≡ false) next (any_step p xs i x at h k)

-- one that passes
pub any_found : {X : Type 0} (p : X → Bool) (xs : List X) (i : ℕ) (x : X) → slice_get xs i ≡ Some x → p x ≡ true →
    true ≡ list_any p xs
any_found p [] i x at k = absurd (cc)
any_found p (y ∷ ys) zero x at k =
    let is : x ≡ y = cc in ap (λ b. b || list_any p ys) (sym k) ∙ ap (λ z. p z || list_any p ys) is
any_found p (y ∷ ys) (suc i) x at k = go (p y) (any_found p ys i x at k)
  where
    go : (b : Bool) → true ≡ list_any p ys → true ≡ (b || list_any p ys)
    go true e = refl
    go false e = e

-- all of a list
taken : {X : Type 0} (xs : List X) (i : ℕ) → length xs ≤ i → take i xs ≡ xs
taken [] zero h = refl
taken [] (suc i) h = refl
taken (x ∷ xs) zero h = absurd (omega arith)
taken (x ∷ xs) (suc i) h = ap (λ l. x ∷ l) (taken xs i (omega arith))

-- none passed
pub any_end : {X : Type 0} (p : X → Bool) (xs : List X) (i : ℕ) → length xs ≤ i → list_any p (take i xs) ≡ false →
    false ≡ list_any p xs
any_end p xs i h k = sym k ∙ ap (list_any p) (taken xs i h)

-- one more that passes
all_step : {X : Type 0} (p : X → Bool) (xs : List X) (i : ℕ) (x : X) → slice_get xs i ≡ Some x →
    list_all p (take i xs) ≡ true → p x ≡ true → list_all p (take (suc i) xs) ≡ true
all_step p [] i x at h k = refl
all_step p (y ∷ ys) zero x at h k = let is : y ≡ x = cc in ap (λ z. p z && true) is ∙ ap (λ b. b && true) k
all_step p (y ∷ ys) (suc i) x at h k = go (λ e. all_step p ys i x at e k) (p y) h
  where
    go : (list_all p (take i ys) ≡ true → list_all p (take (suc i) ys) ≡ true) → (b : Bool) →
        (b && list_all p (take i ys)) ≡ true → (b && list_all p (take (suc i) ys)) ≡ true
    go ih true e = ih e
    go ih false e = absurd (cc)

-- the same by the next index
pub all_more : {X : Type 0} (p : X → Bool) (xs : List X) (i : ℕ) (x : X) → slice_get xs i ≡ Some x →
    list_all p (take i xs) ≡ true → p x ≡ true → list_all p (take (i + 1) xs) ≡ true
all_more p xs i x at h k =
    let next : suc i ≡ i + 1 = omega arith in
    subst (λ n. list_all p (take n xs) ≡ true) next (all_step p xs i x at h k)

-- one that does not pass
pub all_stopped : {X : Type 0} (p : X → Bool) (xs : List X) (i : ℕ) (x : X) → slice_get xs i ≡ Some x →
    p x ≡ false → false ≡ list_all p xs
all_stopped p [] i x at k = absurd (cc)
all_stopped p (y ∷ ys) zero x at k =
    let is : x ≡ y = cc in ap (λ b. b && list_all p ys) (sym k) ∙ ap (λ z. p z && list_all p ys) is
all_stopped p (y ∷ ys) (suc i) x at k = go (p y) (all_stopped p ys i x at k)
  where
    go : (b : Bool) → false ≡ list_all p ys → false ≡ (b && list_all p ys)
    go true e = e
    go false e = refl

-- all passed
pub all_end : {X : Type 0} (p : X → Bool) (xs : List X) (i : ℕ) → length xs ≤ i → list_all p (take i xs) ≡ true →
    true ≡ list_all p xs
all_end p xs i h k = sym k ∙ ap (list_all p) (taken xs i h)

-- what is not true
pub not_true : (b : Bool) → not b ≡ true → b ≡ false
not_true true h = absurd (cc)
not_true false h = refl

-- ---- pairs of nodes

-- the nodes of one more pair
pub pairs_more : (built : List ℕ) (pairs : List (ℕ × ℕ)) (i : ℕ) (e : ℕ × ℕ) (a b : ℕ) (items later : List (ℕ × ℕ)) →
    slice_get pairs i ≡ Some e → e.0 < length built → e.1 < length built → a ≡ get_or built e.0 a →
    b ≡ get_or built e.1 b → items ≡ map (built_pair built) (take i pairs) → later ≡ items ++ (a, b) ∷ [] →
    later ≡ map (built_pair built) (take (i + 1) pairs)
pairs_more built pairs i e a b items later at prime sub ea eb h same =
    let one : a ≡ get_or built e.0 0 = ea ∙ get_or_default_zero built e.0 a prime in
    let other : b ≡ get_or built e.1 0 = eb ∙ get_or_default_zero built e.1 b sub in
    let below = slice_get_within pairs i e at in
    let here = get_or_from_slice_get pairs i e e at in
    same ∙ ap (λ (l : List (ℕ × ℕ)). l ++ (a, b) ∷ []) h
    ∙ ap (λ n. map (built_pair built) (take i pairs) ++ (n, b) ∷ []) one
    ∙ ap (λ n. map (built_pair built) (take i pairs) ++ (get_or built e.0 0, n) ∷ []) other
    ∙ ap (λ x. map (built_pair built) (take i pairs) ++ built_pair built x ∷ []) (sym here)
    ∙ sym (map_push (built_pair built) (take i pairs) (get_or pairs i e))
    ∙ ap (map (built_pair built)) (sym (take_more pairs i e below))

-- and of all
pub pairs_end : (built : List ℕ) (pairs : List (ℕ × ℕ)) (i : ℕ) (items : List (ℕ × ℕ)) → length pairs ≤ i →
    items ≡ map (built_pair built) (take i pairs) → items ≡ map (built_pair built) pairs
pairs_end built pairs i items le h = h ∙ ap (map (built_pair built)) (taken pairs i le)

-- Numbers in first-seen order, and how a set of references and a list of words go together.
use Rattle.std.proofs.Common.{◌≡◌, ℕ, ◌+◌, Bool, true, false, not, cond, ◌||◌, List, [], ◌∷◌, ◌++◌}
use Rattle.std.proofs.Common.{map, length, refl, ap, ◌∙◌, arith, if◌then◌else◌}
use Rattle.std.specs.Prelude.{bytes_eq}
use Rattle.std.specs.List.{list_any, position_or_len}
use Rattle.std.proofs.lemmas.List.{map-append}
use Rattle.std.proofs.lemmas.List.Folds.{list_any-append}
use Rattle.std.proofs.lemmas.Slice.Eq.{bytes_eq-Decides}
use Rattle.indexmap.specs.IndexSet.{insert_key}
use Rattle.std.proofs.Common.{◌<◌, ◌≢◌, ◌&&◌, get_or, set, subst, get_or-set_other, get_or-set_same}
use Rattle.std.proofs.lemmas.Bool.Decides.{nat_tests}
use Rattle.std.specs.Prelude.{◌==◌}
use Rattle.sd_script.specs.Commands.{has}
use Rattle.sd_script.specs.Forms.{Word}
use Rattle.sd_script.specs.Scripts.{see, number_of_word}

-- ---- the first index at which a test passes, with one more element behind

-- an index that is there stays
index_stays : {X : Type 0} (p : X → Bool) (xs : List X) (y : X)
    → list_any p xs ≡ true → position_or_len p (xs ++ y ∷ []) ≡ position_or_len p xs
index_stays p [] y h = cc
index_stays p (x ∷ xs) y h = by (p x) refl (index_stays p xs y)
  where
    by : (b : Bool) → p x ≡ b
        → (list_any p xs ≡ true → position_or_len p (xs ++ y ∷ []) ≡ position_or_len p xs)
        → position_or_len p ((x ∷ xs) ++ y ∷ []) ≡ position_or_len p (x ∷ xs)
    by true e rest = rw e refl
    by false e rest = rw e (ap (λ n. 1 + n) (rest (rw e at h)))

-- where there is none, the new element has the next index if it passes
index_next : {X : Type 0} (p : X → Bool) (xs : List X) (y : X)
    → list_any p xs ≡ false → p y ≡ true → position_or_len p (xs ++ y ∷ []) ≡ position_or_len p xs
index_next p [] y h e = rw e refl
index_next p (x ∷ xs) y h e = by (p x) refl (λ rest. index_next p xs y rest e)
  where
    by : (b : Bool) → p x ≡ b
        → (list_any p xs ≡ false → position_or_len p (xs ++ y ∷ []) ≡ position_or_len p xs)
        → position_or_len p ((x ∷ xs) ++ y ∷ []) ≡ position_or_len p (x ∷ xs)
    by true f rest = rw f refl
    by false f rest = rw f (ap (λ n. 1 + n) (rest (rw f at h)))

-- ---- words that are seen

-- a word is itself
same_word : (w : Word) → bytes_eq w w ≡ true
same_word w = (bytes_eq-Decides w w).1 refl

-- a word that was seen is there
pub has_see : (words : List Word) (w : Word) → list_any (bytes_eq w) (see words w) ≡ true
unfolding see
has_see words w = by (list_any (bytes_eq w) words) refl
  where
    by : (b : Bool) → list_any (bytes_eq w) words ≡ b
        → list_any (bytes_eq w) (if list_any (bytes_eq w) words then words else words ++ w ∷ []) ≡ true
    by true e = rw e e
    by false e = rw e (list_any-append (bytes_eq w) words (w ∷ []) ∙ rw (e, same_word w) refl)

-- and stays there
pub has_see_other : (words : List Word) (w x : Word) → list_any (bytes_eq w) words ≡ true
    → list_any (bytes_eq w) (see words x) ≡ true
unfolding see
has_see_other words w x h = by (list_any (bytes_eq x) words)
  where
    by : (b : Bool) → list_any (bytes_eq w) (if b then words else words ++ x ∷ []) ≡ true
    by true = h
    by false = list_any-append (bytes_eq w) words (x ∷ []) ∙ rw h refl

-- the number of a word that is new is the next one
pub number_see : (words : List Word) (w : Word) → number_of_word (see words w) w ≡ number_of_word words w
unfolding see number_of_word
number_see words w = by (list_any (bytes_eq w) words) refl
  where
    by : (b : Bool) → list_any (bytes_eq w) words ≡ b
        → position_or_len (bytes_eq w) (if b then words else words ++ w ∷ [])
        ≡ position_or_len (bytes_eq w) words
    by true e = refl
    by false e = index_next (bytes_eq w) words w e (same_word w)

-- a word that is there keeps its number
pub number_see_other : (words : List Word) (w x : Word) → list_any (bytes_eq w) words ≡ true
    → number_of_word (see words x) w ≡ number_of_word words w
unfolding see number_of_word
number_see_other words w x h = by (list_any (bytes_eq x) words)
  where
    by : (b : Bool)
        → position_or_len (bytes_eq w) (if b then words else words ++ x ∷ [])
        ≡ position_or_len (bytes_eq w) words
    by true = refl
    by false = index_stays (bytes_eq w) words x h

-- ---- a set of references

module _ {R : Type 0} (view : R → Word) where
  -- the test of a reference is that of its word
  any_view : (w : Word) (keys : List R)
      → list_any (λ k. bytes_eq w (view k)) keys ≡ list_any (bytes_eq w) (map view keys)
  any_view w [] = refl
  any_view w (k ∷ keys) = ap (λ c. bytes_eq w (view k) || c) (any_view w keys)

  -- the index of a reference is that of its word
  index_view : (w : Word) (keys : List R)
      → position_or_len (λ k. bytes_eq w (view k)) keys ≡ position_or_len (bytes_eq w) (map view keys)
  index_view w [] = refl
  index_view w (k ∷ keys) = ap (λ n. cond (not (bytes_eq w (view k))) (1 + n) 0) (index_view w keys)

  -- and so its number
  pub number_view : (w : Word) (keys : List R)
      → position_or_len (λ k. bytes_eq w (view k)) keys ≡ number_of_word (map view keys) w
  unfolding number_of_word
  number_view w keys = index_view w keys

  -- the words after one more reference
  pub see_view : (keys : List R) (k : R)
      → map view (insert_key (λ a b. bytes_eq (view a) (view b)) keys k) ≡ see (map view keys) (view k)
  unfolding see
  see_view keys k =
      ap (λ b. map view (if b then keys else keys ++ k ∷ [])) (any_view (view k) keys)
      ∙ by (list_any (bytes_eq (view k)) (map view keys))
    where
      by : (b : Bool) → map view (if b then keys else keys ++ k ∷ [])
          ≡ (if b then map view keys else map view keys ++ view k ∷ [])
      by true = refl
      by false = map-append view keys (k ∷ [])

-- ---- marks

-- an index that is marked
pub mark_there : (marks : List Bool) (n i : ℕ) → n < length marks
    → get_or (set marks n true) i false ≡ (has (n ∷ []) i || get_or marks i false)
mark_there marks n i h = by (n == i) refl
  where
    by : (b : Bool) → (n == i) ≡ b
        → get_or (set marks n true) i false ≡ ((b || false) || get_or marks i false)
    by true e =
        let same : n ≡ i = grind (arith, nat_tests) in
        subst (λ k. get_or (set marks n true) k false ≡ true) same (get_or-set_same marks n true false h)
    by false e =
        let other : i ≢ n = grind (arith, nat_tests) in
        get_or-set_other marks n i true false other

-- an index that loses its mark
pub mark_gone : (marks : List Bool) (n i : ℕ) → n < length marks
    → get_or (set marks n false) i false ≡ (not (has (n ∷ []) i) && get_or marks i false)
mark_gone marks n i h = by (n == i) refl
  where
    by : (b : Bool) → (n == i) ≡ b
        → get_or (set marks n false) i false ≡ (not (b || false) && get_or marks i false)
    by true e =
        let same : n ≡ i = grind (arith, nat_tests) in
        subst (λ k. get_or (set marks n false) k false ≡ false) same (get_or-set_same marks n false false h)
    by false e =
        let other : i ≢ n = grind (arith, nat_tests) in
        get_or-set_other marks n i false false other

-- The numbers of words, one after another.
use Rattle.std.proofs.Common.{◌≡◌, ℕ, ◌+◌, ◌<◌, Bool, true, false, List, [], ◌∷◌, ◌++◌, length}
use Rattle.std.proofs.Common.{refl, ap, sym, ◌∙◌, map, take, get_or, arith}
use Rattle.std.proofs.lemmas.List.{map-append}
use Rattle.std.proofs.lemmas.Grind.{take_at_read}
use Rattle.std.specs.Prelude.{bytes_eq}
use Rattle.std.specs.List.{list_any, position_or_len, AllByRecursion}
use Rattle.sd_script.specs.Forms.{Word}
use Rattle.sd_script.specs.Scripts.{see, see_all, number_of_word}
use Rattle.sd_script.proofs.TableLaws.{has_see, has_see_other, number_see_other}

-- an index that is there is within
index_within : {X : Type 0} (p : X → Bool) (xs : List X)
    → list_any p xs ≡ true → position_or_len p xs < length xs
index_within p [] h = cc
index_within p (x ∷ xs) h = by (p x) refl (index_within p xs)
  where
    by : (b : Bool) → p x ≡ b → (list_any p xs ≡ true → position_or_len p xs < length xs)
        → position_or_len p (x ∷ xs) < length (x ∷ xs)
    by true e rest = rw e (omega arith)
    by false e rest = let h2 = rest (rw e at h) in rw e (omega arith)

-- the number of a word that is there is below their count
within : (words : List Word) (w : Word)
    → list_any (bytes_eq w) words ≡ true → number_of_word words w < length words
unfolding number_of_word
within words w h = index_within (bytes_eq w) words h

-- a word that is there stays, with more of them
pub has_see_all : (words more : List Word) (w : Word) → list_any (bytes_eq w) words ≡ true
    → list_any (bytes_eq w) (see_all words more) ≡ true
has_see_all words [] w h = h
has_see_all words (m ∷ more) w h = has_see_all (see words m) more w (has_see_other words w m h)

-- words that were seen are there
pub all_seen : (words more : List Word)
    → AllByRecursion (λ w. list_any (bytes_eq w) (see_all words more) ≡ true) more
all_seen words [] = tt
all_seen words (m ∷ more) =
    (has_see_all (see words m) more m (has_see words m), all_seen (see words m) more)

-- the numbers of words that are there
all_within : (words some : List Word) → AllByRecursion (λ w. list_any (bytes_eq w) words ≡ true) some
    → AllByRecursion (λ n. n < length words) (map (number_of_word words) some)
all_within words [] h = tt
all_within words (w ∷ some) h = (within words w h.0, all_within words some h.1)

-- of many
pub numbers_within_all : (words more : List Word)
    → AllByRecursion (λ n. n < length (see_all words more)) (map (number_of_word (see_all words more)) more)
numbers_within_all words more = all_within (see_all words more) more (all_seen words more)

-- words that are there keep their numbers, with one more
all_stay : (words some : List Word) (x : Word) → AllByRecursion (λ w. list_any (bytes_eq w) words ≡ true) some
    → map (number_of_word (see words x)) some ≡ map (number_of_word words) some
all_stay words [] x h = refl
all_stay words (w ∷ some) x h =
    ap (λ n. n ∷ map (number_of_word (see words x)) some) (number_see_other words w x h.0)
    ∙ ap (λ ns. number_of_word words w ∷ ns) (all_stay words some x h.1)

-- the words with more of them, one at a time
pub see_all_more : (words more : List Word) (x : Word)
    → see_all words (more ++ x ∷ []) ≡ see (see_all words more) x
see_all_more words [] x = refl
see_all_more words (m ∷ more) x = see_all_more (see words m) more x

-- the numbers of words that were seen, with one more
pub numbers_more : (words more : List Word) (x : Word)
    → map (number_of_word (see (see_all words more) x)) (more ++ x ∷ [])
    ≡ map (number_of_word (see_all words more)) more ++ number_of_word (see (see_all words more) x) x ∷ []
numbers_more words more x =
    map-append (number_of_word (see (see_all words more) x)) more (x ∷ [])
    ∙ ap (λ ns. ns ++ number_of_word (see (see_all words more) x) x ∷ [])
    (all_stay (see_all words more) more x (all_seen words more))

-- ---- words that are numbered one after another, by their references

module _ {R : Type 0} (view : R → Word) where
  -- the words up to one more place
  up_to_next : (refs : List R) (i : ℕ) (d : R) → i < length refs
      → map view (take (i + 1) refs) ≡ map view (take i refs) ++ view (get_or refs i d) ∷ []
  up_to_next refs i d h =
      ap (map view) (take_at_read refs i d h).1 ∙ map-append view (take i refs) (get_or refs i d ∷ [])

  -- what the table has after the word at that place
  pub seen_more : (old t u : List Word) (refs : List R) (i : ℕ) (d : R) → i < length refs
      → t ≡ see_all old (map view (take i refs)) → u ≡ see t (view (get_or refs i d))
      → u ≡ see_all old (map view (take (i + 1) refs))
  seen_more old t u refs i d h e f =
      f ∙ ap (λ l. see l (view (get_or refs i d))) e
      ∙ sym (see_all_more old (map view (take i refs)) (view (get_or refs i d)))
      ∙ ap (see_all old) (sym (up_to_next refs i d h))

  -- and the numbers that were given
  pub numbered_more : (old t u : List Word) (refs : List R) (i : ℕ) (d : R) → i < length refs
      → (before after : List ℕ) (n : ℕ)
      → t ≡ see_all old (map view (take i refs))
      → before ≡ map (number_of_word t) (map view (take i refs))
      → u ≡ see t (view (get_or refs i d))
      → n ≡ number_of_word u (view (get_or refs i d)) → after ≡ before ++ n ∷ []
      → after ≡ map (number_of_word u) (map view (take (i + 1) refs))
  numbered_more old t u refs i d h before after n e b f m a =
      let w = view (get_or refs i d) in
      let words = map view (take i refs) in
      let whole : u ≡ see (see_all old words) w = f ∙ ap (λ l. see l w) e in
      a ∙ ap (λ l. l ++ n ∷ []) (b ∙ ap (λ l. map (number_of_word l) words) e)
      ∙ ap (λ k. map (number_of_word (see_all old words)) words ++ k ∷ []) (m ∙ ap (λ l. number_of_word l w) whole)
      ∙ sym (numbers_more old words w)
      ∙ ap (λ l. map (number_of_word l) (words ++ w ∷ [])) (sym whole)
      ∙ ap (map (number_of_word u)) (sym (up_to_next refs i d h))

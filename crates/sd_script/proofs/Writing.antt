-- The names and the file of a write, word by word.
use Rattle.std.proofs.Common.{◌≡◌, ◌+◌, ◌-◌, ◌<◌, Bool, true, false, ◌&&◌, List, [], ◌∷◌, ◌++◌, length}
use Rattle.std.proofs.Common.{take, refl, ap, sym, ◌∙◌, arith, length-append, suc}
use Rattle.std.proofs.lemmas.List.{append_assoc}
use Rattle.std.proofs.lemmas.Bool.Decides.{nat_tests}
use Rattle.std.proofs.Math.Seq.{take-append-add}
use Rattle.std.specs.Prelude.{Some, None, nat_le}
use Rattle.std.specs.Bool.{then_some}
use Rattle.std.specs.List.{list_all}
use Rattle.sd_script.specs.Forms.{Word, is_name, are_names}
use Rattle.sd_script.specs.Steps.{IsNoWrite}

-- ---- whether words are names

-- a word with no name is none
pub no_name : (w : Word) → None ≡ then_some (is_name w) w → is_name w ≡ false
no_name w h = by (is_name w) h
  where
    by : (b : Bool) → None ≡ then_some b w → b ≡ false
    by true e = cc
    by false e = refl

-- and one that has a name is one, with its own bytes
pub own_name : (w name : Word) → Some name ≡ then_some (is_name w) w → (is_name w ≡ true) × (name ≡ w)
own_name w name h = by (is_name w) h
  where
    by : (b : Bool) → Some name ≡ then_some b w → (b ≡ true) × (name ≡ w)
    by true e = (refl, cc)
    by false e = cc

-- one word that is no name
one_bad : (xs : List Word) (x : Word) (ys : List Word) → is_name x ≡ false
    → list_all is_name (xs ++ x ∷ ys) ≡ false
one_bad [] x ys h = rw h refl
one_bad (y ∷ xs) x ys h = rw (one_bad xs x ys h) (by (is_name y))
  where
    by : (b : Bool) → (b && false) ≡ false
    by true = refl
    by false = refl

-- one name more
pub all_more : (xs : List Word) (x : Word) → list_all is_name xs ≡ true → is_name x ≡ true
    → list_all is_name (xs ++ x ∷ []) ≡ true
all_more [] x h k = rw k refl
all_more (y ∷ xs) x h k = by (is_name y) h (λ e. all_more xs x e k)
  where
    by : (b : Bool) → (b && list_all is_name xs) ≡ true
        → (list_all is_name xs ≡ true → list_all is_name (xs ++ x ∷ []) ≡ true)
        → (b && list_all is_name (xs ++ x ∷ [])) ≡ true
    by true e rest = rest e
    by false e rest = cc

-- ---- the words but the last

-- words of which one is no name
none_of_bad : (words : List Word) → list_all is_name words ≡ false → are_names words ≡ false
none_of_bad words h = rw h (by (nat_le 1 (length words) && nat_le (length words) 1024))
  where
    by : (b : Bool) → (b && false) ≡ false
    by true = refl
    by false = refl

-- too many words
none_of_many : (words : List Word) → 1024 < length words → are_names words ≡ false
none_of_many words h =
    let high : nat_le (length words) 1024 ≡ false = grind (arith, nat_tests) in
    rw high (by (nat_le 1 (length words)))
  where
    by : (b : Bool) → ((b && false) && list_all is_name words) ≡ false
    by true = refl
    by false = refl

-- of words in three parts
but_last : (names : List Word) (last next : Word) (left : List Word)
    → take (length (names ++ last ∷ next ∷ left) - 1) (names ++ last ∷ next ∷ left)
    ≡ names ++ last ∷ take (length left) (next ∷ left)
but_last names last next left =
    ap (λ n. take n (names ++ last ∷ next ∷ left)) count
    ∙ take-append-add names (last ∷ next ∷ left) (suc (length left))
  where
    count : length (names ++ last ∷ next ∷ left) - 1 ≡ length names + suc (length left)
    count = omega (arith, length-append names (last ∷ next ∷ left))

-- ---- a write

-- a word before the last that is no name
pub none_at : (all names : List Word) (last next : Word) (left : List Word)
    → all ≡ names ++ last ∷ next ∷ left → is_name last ≡ false → IsNoWrite all
none_at all names last next left e h =
    ap (λ (l : List Word). are_names (take (length l - 1) l)) e
    ∙ ap are_names (but_last names last next left)
    ∙ none_of_bad (names ++ last ∷ take (length left) (next ∷ left))
    (one_bad names last (take (length left) (next ∷ left)) h)

-- 1,025 words before the last
pub none_past : (all names : List Word) (last next : Word) (left : List Word)
    → all ≡ names ++ last ∷ next ∷ left → length names ≡ 1024 → IsNoWrite all
none_past all names last next left e h =
    ap (λ (l : List Word). are_names (take (length l - 1) l)) e
    ∙ ap are_names (but_last names last next left)
    ∙ none_of_many (names ++ last ∷ take (length left) (next ∷ left))
    (omega (arith, h, length-append names (last ∷ take (length left) (next ∷ left))))

-- one word further
pub word_more : (all names : List Word) (last next : Word) (left : List Word)
    → all ≡ names ++ last ∷ next ∷ left → all ≡ (names ++ last ∷ []) ++ next ∷ left
word_more all names last next left e = e ∙ sym (append_assoc names (last ∷ []) (next ∷ left))

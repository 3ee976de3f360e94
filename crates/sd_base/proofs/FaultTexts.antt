-- What the texts of faults tell: their words, and the numbers between them.
use Rattle.std.proofs.Common.{◌≡◌, ◌≢◌, ℕ, zero, suc, ◌+◌, ◌≤◌, List, [], ◌∷◌, ◌++◌, codes, filter, map}
use Rattle.std.proofs.Common.{ℤ, pos, negsuc, append_assoc, refl, sym, ◌∙◌, ap, arith, not, true, false, true≢false}
use Rattle.std.specs.List.{AllByRecursion}
use Rattle.std.specs.Int.Digits.{AllBelowBase}
use Rattle.std.specs.Str.{bytes_eq}
use Rattle.std.proofs.lemmas.Bool.{le-leb}
use Rattle.std.proofs.lemmas.Int.Digits.{all_below_base_digits_of}
use Rattle.std.proofs.lemmas.List.{append_cancel_right}
use Rattle.std.proofs.lemmas.List.Elements.{filter-append}
use Rattle.std.proofs.lemmas.Slice.Eq.{bytes_eq-Decides}
use Rattle.sd_model.specs.Text.{number_text}
use Rattle.sd_model.proofs.Words.{number_suc, number_back, literal_back}
use Rattle.sd_base.specs.FaultTexts.{at_line, counts, signed_text}
use Rattle.sd_base.specs.Numbers.{is_within}

-- ---- digits

-- the bytes are those of digits
abbrev AreDigits : List ℕ → Type 0
AreDigits bytes = AllByRecursion (λ b. (48 ≤ b) × (b ≤ 57)) bytes

-- a digit has such a byte
digit_bytes : (ds : List ℕ) → AllBelowBase 10 ds → AreDigits (map (λ digit. 48 + digit) ds)
digit_bytes [] h = tt
digit_bytes (d ∷ ds) h = ((omega arith, omega (arith, h.0)), digit_bytes ds h.1)

-- and so has a number
number_digits : (n : ℕ) → AreDigits (number_text n)
unfolding number_text
number_digits zero = ((omega arith, omega arith), tt)
number_digits (suc n) = rw (number_suc n) (digit_bytes _ (all_below_base_digits_of 10 (suc n) (omega arith)))

-- ---- the words of a text

-- a text without its digits
abbrev pub words_alone : List ℕ → List ℕ
words_alone text = filter (λ b. not (is_within 48 57 b)) text

-- digits leave nothing
no_words : (bytes : List ℕ) → AreDigits bytes → words_alone bytes ≡ []
no_words [] h = refl
no_words (b ∷ bytes) h = rw (le-leb 48 b h.0.0, le-leb b 57 h.0.1) (no_words bytes h.1)

-- a number at the end
pub without_last : (n : ℕ) → words_alone (number_text n) ≡ []
without_last n = no_words (number_text n) (number_digits n)

-- a number before other text
pub without_number : (n : ℕ) (text : List ℕ) → words_alone (number_text n ++ text) ≡ words_alone text
without_number n text =
    filter-append _ (number_text n) text
    ∙ ap (λ bytes. bytes ++ words_alone text) (without_last n)

-- Texts with other words are not one text. The words of a fault's text are computed at a fault without open numbers,
-- whose text has the same words.
pub other_words : {F : Type 0} (text : F → List ℕ) (plain : F → F)
    → ((e : F) → words_alone (text e) ≡ words_alone (text (plain e))) → (e f : F)
    → bytes_eq (words_alone (text (plain e))) (words_alone (text (plain f))) ≡ false → text e ≡ text f → ⊥
other_words text plain told e f other same =
    let words = sym (told e) ∙ ap words_alone same ∙ told f in
    true≢false (sym ((bytes_eq-Decides _ _).1 words) ∙ other)

-- ---- the numbers

-- the byte is none of a digit
abbrev IsNoDigit : ℕ → Type 0
IsNoDigit c = (b : ℕ) → 48 ≤ b → b ≤ 57 → b ≢ c

-- two texts cut at such a byte, which is the first
cut : (c : ℕ) (xs ys us vs : List ℕ) → IsNoDigit c → AreDigits xs → AreDigits ys → xs ++ c ∷ us ≡ ys ++ c ∷ vs
    → (xs ≡ ys) × (us ≡ vs)
cut c [] [] us vs none h k e = (refl, cc)
cut c [] (y ∷ ys) us vs none h k e = let f : y ≡ c = cc in absurd (none y k.0.0 k.0.1 f)
cut c (x ∷ xs) [] us vs none h k e = let f : x ≡ c = cc in absurd (none x h.0.0 h.0.1 f)
cut c (x ∷ xs) (y ∷ ys) us vs none h k e =
    let f : x ≡ y = cc in
    let r = cut c xs ys us vs none h.1 k.1 (cc) in
    let g : xs ≡ ys = r.0 in
    (cc, r.1)

-- a number before such a byte, and what is behind it
number_before : (c m n : ℕ) (us vs : List ℕ) → IsNoDigit c → number_text m ++ c ∷ us ≡ number_text n ++ c ∷ vs
    → (m ≡ n) × (us ≡ vs)
number_before c m n us vs none e =
    let r = cut c (number_text m) (number_text n) us vs none (number_digits m) (number_digits n) e in
    (number_back m n r.0, r.1)

-- the number of a line and the text behind it, which begins with a colon
pub line_back : (m n : ℕ) (us vs : List ℕ) → at_line m (58 ∷ us) ≡ at_line n (58 ∷ vs) → (m ≡ n) × (us ≡ vs)
line_back m n us vs e = number_before 58 m n us vs (λ b low high f. omega (arith, f, high)) (cc)

-- what is behind the first of two numbers that differ
behind : ℕ → List ℕ
behind f = codes "stated, " ++ number_text f ++ codes " found"

first_of_two : (s f : ℕ) → counts s f ≡ codes ": " ++ (number_text s ++ 32 ∷ behind f)
unfolding behind
first_of_two s f =
    ap (λ text. codes ": " ++ (text ++ codes " found"))
    (append_assoc (number_text s) (codes " stated, ") (number_text f))
    ∙ ap (λ text. codes ": " ++ text)
    (append_assoc (number_text s) (codes " stated, " ++ number_text f) (codes " found"))

second_back : (f g : ℕ) → behind f ≡ behind g → f ≡ g
unfolding behind
second_back f g e = number_back f g (append_cancel_right (number_text f) (number_text g) (codes " found") (cc))

-- both numbers
pub counts_back : (s f t g : ℕ) → counts s f ≡ counts t g → (s ≡ t) × (f ≡ g)
counts_back s f t g e =
    let whole = sym (first_of_two s f) ∙ e ∙ first_of_two t g in
    let r = number_before 32 s t (behind f) (behind g) (λ b low high f. omega (arith, f, low)) (cc) in
    (r.0, second_back f g r.1)

-- and their words
pub counts_alone : (s f : ℕ) → words_alone (counts s f) ≡ codes ":  stated,  found"
unfolding behind
counts_alone s f =
    ap words_alone (first_of_two s f)
    ∙ rw (without_number s (32 ∷ behind f), without_number f (codes " found")) refl

-- a literal with its sign
pub signed_back : (y z : ℤ) → signed_text y ≡ signed_text z → y ≡ z
signed_back (pos m) (pos n) e = ap pos (literal_back m n true true e).0
signed_back (pos m) (negsuc j) e = absurd (true≢false (literal_back m (suc j) true false e).1)
signed_back (negsuc i) (pos n) e = absurd (true≢false (sym (literal_back (suc i) n false true e).1))
signed_back (negsuc i) (negsuc j) e =
    let f : suc i ≡ suc j = (literal_back (suc i) (suc j) false false e).0 in
    ap negsuc (omega (arith, f))

-- A text made of lines of words is read back as these lines and words, and numbers as these numbers.
use Rattle.std.proofs.Common.{◌≡◌, ℕ, ◌+◌, ◌<◌, ◌≤◌, ◌^◌, Bool, true, false}
use Rattle.std.proofs.Common.{List, [], ◌∷◌, ◌++◌, length, map, filter, Some, refl, ap, ◌∙◌, arith}
use Rattle.std.proofs.Common.{append_assoc, append-nil, ne_eqb}
use Rattle.std.specs.List.{AllByRecursion, slice_split, onto_first, flat_map}
use Rattle.std.specs.Fmt.{decimal}
use Rattle.std.specs.Str.{all_ascii_digits}
use Rattle.std.specs.Str.Parse.{digits_value}
use Rattle.std.proofs.lemmas.Bool.{le-leb}
use Rattle.std.proofs.lemmas.Fmt.{decimal_nonempty, length-decimal-le, digits_decimal, digits_value-decimal}
use Rattle.std.proofs.lemmas.Str.Parse.{numerals_by_value, tells_all_ascii_digits}
use Rattle.sd_base.specs.Lines.{TextLine, numbered_lines_from, is_content, begins_with, is_blank, content_of}
use Rattle.sd_base.specs.Numbers.{natural_value}
use Rattle.sd_base.specs.Words.{is_line_end, is_separator, is_filled, without_empty_end, words_of}
use Rattle.sd_model.specs.Text.{number_text, spaced, line_text}
use Rattle.sd_model.proofs.Numbers.{number_text_decimal}
use Rattle.sd_model.proofs.Words.{IsWord, number_is_word}

-- ---- numbers

-- a number of at most 18 digits
pub natural_back : (n : ℕ) → n < 10 ^ 18 → natural_value (number_text n) ≡ Some n
natural_back n h =
    let small : n < 2 ^ 64 = omega arith in
    let own = numerals_by_value (λ ds. all_ascii_digits ds ≡ true) tells_all_ascii_digits in
    let digits : all_ascii_digits (decimal n) ≡ true = digits_decimal own n small in
    let value : digits_value 10 (decimal n) ≡ n = digits_value-decimal own n small in
    let some = le-leb 1 (length (decimal n)) (decimal_nonempty n small) in
    let within_limit = le-leb (length (decimal n)) 18 (length-decimal-le 18 n (omega arith) h small) in
    rw (number_text_decimal n small, some, within_limit, digits, value) refl

-- ---- pieces

-- a piece before the first end of a piece
pub split_at : (p : ℕ → Bool) (xs ys : List ℕ) (z : ℕ) → AllByRecursion (λ b. p b ≡ false) xs → p z ≡ true
    → slice_split p (xs ++ z ∷ ys) ≡ xs ∷ slice_split p ys
split_at p [] ys z none ends = rw ends refl
split_at p (x ∷ xs) ys z none ends = rw none.0 (ap (onto_first x) (split_at p xs ys z none.1 ends))

-- a piece without an end
split_whole : (p : ℕ → Bool) (xs : List ℕ) → AllByRecursion (λ b. p b ≡ false) xs → slice_split p xs ≡ xs ∷ []
split_whole p [] none = refl
split_whole p (x ∷ xs) none = rw none.0 (ap (onto_first x) (split_whole p xs none.1))

-- ---- words

-- bytes past those of separators, at least one
pub record IsFullWord (word : List ℕ) : Type 0 where
  pub bytes : IsWord word
  pub filled : is_filled word ≡ true

-- a number's text is one
pub full_number : (n : ℕ) → n < 10 ^ 18 → IsFullWord (number_text n)
full_number n h =
    let small : n < 2 ^ 64 = omega arith in
    let filled = some (decimal n) (decimal_nonempty n small) in
    record { bytes = number_is_word n; filled = rw (number_text_decimal n small) filled }
  where
    some : (bytes : List ℕ) → 0 < length bytes → is_filled bytes ≡ true
    some [] k = absurd (omega arith)
    some (b ∷ bs) k = refl

no_separator : (b : ℕ) → 33 ≤ b → is_separator b ≡ false
no_separator b h =
    rw (ne_eqb b 32 (λ e. omega arith), ne_eqb b 9 (λ e. omega arith), ne_eqb b 13 (λ e. omega arith)) refl

no_separators : (word : List ℕ) → IsWord word → AllByRecursion (λ b. is_separator b ≡ false) word
no_separators [] h = tt
no_separators (b ∷ bs) h = (no_separator b h.0, no_separators bs h.1)

-- a line without its end
abbrev pub line_bytes : List (List ℕ) → List ℕ
line_bytes [] = []
line_bytes (w ∷ ws) = w ++ spaced ws

-- the words of a line
pub words_back : (w : List ℕ) (ws : List (List ℕ)) → AllByRecursion IsFullWord (w ∷ ws)
    → words_of (w ++ spaced ws) ≡ w ∷ ws
words_back w [] h =
    rw (append-nil w, split_whole is_separator w (no_separators w h.0.bytes), h.0.filled) refl
words_back w (v ∷ vs) h =
    rw (split_at is_separator w (v ++ spaced vs) 32 (no_separators w h.0.bytes) refl, h.0.filled)
    (ap (λ words. w ∷ words) (words_back v vs h.1))

-- ---- lines

-- a line with words, of which the first does not begin with a mark
pub record IsTextLine (mark : ℕ) (line : List (List ℕ)) : Type 0 where
  pub words : AllByRecursion IsFullWord line
  pub not_blank : is_blank line ≡ false
  pub plain : begins_with mark line ≡ false

-- the lines of words with their numbers
abbrev pub numbered : ℕ → List (List (List ℕ)) → List TextLine
numbered n [] = []
numbered n (line ∷ lines) = record { number = n; words = line } ∷ numbered (n + 1) lines

-- no line end stands in words
pub feedless : (bytes rest : List ℕ) → IsWord bytes → AllByRecursion (λ b. is_line_end b ≡ false) rest
    → AllByRecursion (λ b. is_line_end b ≡ false) (bytes ++ rest)
feedless [] rest h k = k
feedless (b ∷ bs) rest h k = (ne_eqb b 10 (λ e. omega (arith, h.0)), feedless bs rest h.1 k)

-- nor in a line
pub feedless_line : (w : List ℕ) (ws : List (List ℕ)) → AllByRecursion IsFullWord (w ∷ ws)
    → AllByRecursion (λ b. is_line_end b ≡ false) (w ++ spaced ws)
feedless_line w [] h = feedless w [] h.0.bytes tt
feedless_line w (v ∷ vs) h = feedless w (32 ∷ (v ++ spaced vs)) h.0.bytes (refl, feedless_line v vs h.1)

-- the pieces of a text of lines: the lines, and an empty one
lines_split : (lines : List (List (List ℕ))) (mark : ℕ) → AllByRecursion (IsTextLine mark) lines
    → slice_split is_line_end (flat_map line_text lines) ≡ map line_bytes lines ++ [] ∷ []
lines_split [] mark h = refl
lines_split ([] ∷ lines) mark h = let s = h.0.not_blank in cc
lines_split ((w ∷ ws) ∷ lines) mark h =
    let one = append_assoc (w ++ spaced ws) (10 ∷ []) (flat_map line_text lines) in
    rw one
    (split_at is_line_end (w ++ spaced ws) (flat_map line_text lines) 10 (feedless_line w ws h.0.words) refl
    ∙ ap (λ pieces. (w ++ spaced ws) ∷ pieces) (lines_split lines mark h.1))

-- the empty one is none
no_empty_end : (pieces : List (List ℕ)) → without_empty_end (pieces ++ [] ∷ []) ≡ pieces
no_empty_end [] = refl
no_empty_end ([] ∷ []) = refl
no_empty_end ([] ∷ next ∷ pieces) = ap (λ ps. [] ∷ ps) (no_empty_end (next ∷ pieces))
no_empty_end ((b ∷ bs) ∷ pieces) = ap (λ ps. (b ∷ bs) ∷ ps) (no_empty_end pieces)

-- the lines that count
content_back : (n mark : ℕ) (lines : List (List (List ℕ))) → AllByRecursion (IsTextLine mark) lines
    → filter (is_content mark) (numbered_lines_from n (map line_bytes lines)) ≡ numbered n lines
content_back n mark [] h = refl
content_back n mark ([] ∷ lines) h = let s = h.0.not_blank in cc
content_back n mark ((w ∷ ws) ∷ lines) h =
    rw (words_back w ws h.0.words, h.0.plain)
    (ap (λ rest. record { number = n; words = w ∷ ws } ∷ rest) (content_back (n + 1) mark lines h.1))

-- a text of lines of words
pub text_back : (mark : ℕ) (lines : List (List (List ℕ))) → AllByRecursion (IsTextLine mark) lines
    → content_of mark (flat_map line_text lines) ≡ numbered 1 lines
text_back mark lines h =
    rw (lines_split lines mark h, no_empty_end (map line_bytes lines)) (content_back 1 mark lines h)

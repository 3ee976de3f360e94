-- A text has no more words than bytes.
use Rattle.std.proofs.Common.{◌≡◌, ℕ, zero, suc, ◌+◌, ◌≤◌, Bool, List, [], ◌∷◌, length, take}
use Rattle.std.proofs.Common.{filter, refl, ap, ◌∙◌, arith, inl, inr, length-append}
use Rattle.std.specs.List.{slice_split, onto_first, flat_map, prefix_len}
use Rattle.std.specs.Prelude.{not}
use Rattle.std.proofs.lemmas.Bool.{cases_Bool}
use Rattle.std.proofs.lemmas.List.{length-map}
use Rattle.sd_base.specs.Words.{words_of, lines_of, is_filled, is_separator, is_line_end, without_empty_end}
use Rattle.sd_base.specs.Lines.{TextLine, numbered_lines_from, content_of, begins_with, is_content}
use Rattle.sd_formula.specs.Dimacs.{words_at, body_words}

-- ---- pieces of a list

-- how many elements the pieces have together
abbrev total : {X : Type 0} → List (List X) → ℕ
total [] = 0
total (piece ∷ pieces) = length piece + total pieces

total_onto : {X : Type 0} (x : X) (pieces : List (List X)) → total (onto_first x pieces) ≡ 1 + total pieces
total_onto x [] = refl
total_onto x (piece ∷ pieces) = omega arith

-- what ends a piece is in none
total_split : {X : Type 0} (p : X → Bool) (xs : List X) → total (slice_split p xs) ≤ length xs
total_split p [] = omega arith
total_split p (x ∷ xs) =
    let later = total_split p xs in
    elim (cases_Bool (p x)) [
      | inl ends ↦ rw ends (omega (arith, later))
      | inr inside ↦ rw inside (omega (arith, later, total_onto x (slice_split p xs)))
    ]

-- each filled piece has an element
filled : (pieces : List (List ℕ)) → length (filter is_filled pieces) ≤ total pieces
filled [] = omega arith
filled ([] ∷ pieces) = omega (arith, filled pieces)
filled ((b ∷ bs) ∷ pieces) = omega (arith, filled pieces)

-- an empty piece at the end has none
total_without : (pieces : List (List ℕ)) → total (without_empty_end pieces) ≤ total pieces
total_without [] = omega arith
total_without ([] ∷ []) = omega arith
total_without ([] ∷ next ∷ pieces) = omega (arith, total_without (next ∷ pieces))
total_without ((b ∷ bs) ∷ pieces) = omega (arith, total_without pieces)

-- ---- the words of lines

words_few : (line : List ℕ) → length (words_of line) ≤ length line
words_few line = omega (arith, filled (slice_split is_separator line), total_split is_separator line)

-- how many words the lines have
abbrev word_count : List TextLine → ℕ
word_count lines = length (flat_map words_at lines)

word_count_cons : (line : TextLine) (lines : List TextLine)
    → word_count (line ∷ lines) ≡ length line.words + word_count lines
word_count_cons line lines =
    let here : length (words_at line) ≡ length line.words = length-map line.words _ in
    length-append (words_at line) (flat_map words_at lines) ∙ ap (λ n. n + word_count lines) here

numbered : (n : ℕ) (lines : List (List ℕ)) → word_count (numbered_lines_from n lines) ≤ total lines
numbered n [] = omega arith
numbered n (line ∷ lines) =
    let first : TextLine = record { number = n; words = words_of line } in
    let all = word_count_cons first (numbered_lines_from (n + 1) lines) in
    omega (arith, all, words_few line, numbered (n + 1) lines)

-- lines that are passed over have words, or none
kept : (p : TextLine → Bool) (lines : List TextLine) → word_count (filter p lines) ≤ word_count lines
kept p [] = omega arith
kept p (line ∷ lines) =
    let later = kept p lines in
    let all = word_count_cons line lines in
    elim (cases_Bool (p line)) [
      | inl stays ↦ rw stays (omega (arith, later, all, word_count_cons line (filter p lines)))
      | inr goes ↦ rw goes (omega (arith, later, all))
    ]

first_lines : (n : ℕ) (lines : List TextLine) → word_count (take n lines) ≤ word_count lines
first_lines zero lines = omega arith
first_lines (suc n) [] = omega arith
first_lines (suc n) (line ∷ lines) =
    omega (arith, first_lines n lines, word_count_cons line lines, word_count_cons line (take n lines))

-- the body of a text has no more words than the text has bytes
pub few_words : (bytes : List ℕ) (header : TextLine) (lines : List TextLine) → content_of 99 bytes ≡ header ∷ lines
    → length (body_words lines) ≤ length bytes
few_words bytes header lines e =
    let pieces = slice_split is_line_end bytes in
    let content = ap word_count e ∙ word_count_cons header lines in
    let counts = kept (is_content 99) (numbered_lines_from 1 (lines_of bytes)) in
    let body = first_lines (prefix_len (λ line. not (begins_with 37 line.words)) lines) lines in
    let lengths = numbered 1 (lines_of bytes) in
    omega (arith, content, counts, body, lengths, total_without pieces, total_split is_line_end bytes)

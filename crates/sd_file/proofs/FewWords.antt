-- A text has no more words than bytes.
use Rattle.std.proofs.Common.{◌≡◌, ℕ, ◌+◌, ◌≤◌, Bool, List, [], ◌∷◌, length}
use Rattle.std.proofs.Common.{filter, refl, ap, arith, inl, inr}
use Rattle.std.specs.List.{slice_split, onto_first}
use Rattle.std.proofs.lemmas.Bool.{cases_Bool}
use Rattle.sd_base.specs.Words.{words_of, lines_of, is_filled, is_separator, is_line_end, without_empty_end}
use Rattle.sd_base.specs.Lines.{TextLine, numbered_lines_from, content_of, is_content}
use Rattle.sd_file.specs.Steps.{word_count}

-- ---- pieces of a list

-- how many elements the pieces have together
abbrev total : {X : Type 0} → List (List X) → ℕ
total [] = 0
total (piece ∷ pieces) = length piece + total pieces

total_onto : {X : Type 0} (x : X) (pieces : List (List X)) → total (onto_first x pieces) ≡ 1 + total pieces
total_onto x [] = refl
total_onto x (piece ∷ pieces) = omega arith

-- what ends a piece is in none
total_split : {X : Type 0} (p : X → Bool) (xs : List X) → total (slice_split p xs) ≤ length xs
total_split p [] = omega arith
total_split p (x ∷ xs) =
    let later = total_split p xs in
    elim (cases_Bool (p x)) [
      | inl ends ↦ rw ends (omega (arith, later))
      | inr inside ↦ rw inside (omega (arith, later, total_onto x (slice_split p xs)))
    ]

-- each filled piece has an element
filled : (pieces : List (List ℕ)) → length (filter is_filled pieces) ≤ total pieces
filled [] = omega arith
filled ([] ∷ pieces) = omega (arith, filled pieces)
filled ((b ∷ bs) ∷ pieces) = omega (arith, filled pieces)

-- an empty piece at the end has none
total_without : (pieces : List (List ℕ)) → total (without_empty_end pieces) ≤ total pieces
total_without [] = omega arith
total_without ([] ∷ []) = omega arith
total_without ([] ∷ next ∷ pieces) = omega (arith, total_without (next ∷ pieces))
total_without ((b ∷ bs) ∷ pieces) = omega (arith, total_without pieces)

-- ---- the words of lines

words_few : (line : List ℕ) → length (words_of line) ≤ length line
words_few line = omega (arith, filled (slice_split is_separator line), total_split is_separator line)

-- and so have all lines together
numbered : (n : ℕ) (lines : List (List ℕ)) → word_count (numbered_lines_from n lines) ≤ total lines
numbered n [] = omega arith
numbered n (line ∷ lines) = omega (arith, words_few line, numbered (n + 1) lines)

-- lines that are passed over have words, or none
kept : (p : TextLine → Bool) (lines : List TextLine) → word_count (filter p lines) ≤ word_count lines
kept p [] = omega arith
kept p (line ∷ lines) =
    let later = kept p lines in
    elim (cases_Bool (p line)) [
      | inl stays ↦ rw stays (omega (arith, later))
      | inr goes ↦ rw goes (omega (arith, later))
    ]

-- the lines after a header have no more words than the text has bytes
pub few_words : (bytes : List ℕ) (header : TextLine) (lines : List TextLine) → content_of 99 bytes ≡ header ∷ lines
    → word_count lines ≤ length bytes
few_words bytes header lines e =
    let pieces = slice_split is_line_end bytes in
    let content : word_count (content_of 99 bytes) ≡ length header.words + word_count lines = ap word_count e in
    let counts = kept (is_content 99) (numbered_lines_from 1 (lines_of bytes)) in
    let lengths = numbered 1 (lines_of bytes) in
    omega (arith, content, counts, lengths, total_without pieces, total_split is_line_end bytes)

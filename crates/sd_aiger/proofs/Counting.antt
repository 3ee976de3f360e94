-- A text has not many more lines than bytes.
use Rattle.std.proofs.Common.{ℕ, ◌+◌, ◌≤◌, List, [], ◌∷◌, length, arith}
use Rattle.std.specs.List.{slice_split, enumerate_from}
use Rattle.std.proofs.lemmas.List.{length-map}
use Rattle.std.proofs.lemmas.List.FromFn.{length-enumerate_from}
use Rattle.std.proofs.lemmas.List.Splits.{length-slice_split}
use Rattle.std.proofs.lemmas.List.Sums.{count_by-le-length}
use Rattle.sd_base.specs.Lines.{TextLine, numbered_lines_from}
use Rattle.sd_base.specs.Words.{lines_of, words_of, is_line_end, without_empty_end}

-- there are no more lines than pieces
no_more : (pieces : List (List ℕ)) → length (without_empty_end pieces) ≤ length pieces
no_more [] = omega arith
no_more ([] ∷ []) = omega arith
no_more ([] ∷ (q ∷ qs)) = omega (arith, no_more (q ∷ qs))
no_more ((b ∷ bs) ∷ pieces) = omega (arith, no_more pieces)

-- the numbered lines of a text
pub few_lines : (n : ℕ) (bytes : List ℕ) → length (numbered_lines_from n (lines_of bytes)) ≤ length bytes + 1
few_lines n bytes =
    let lines = lines_of bytes in
    let numbered : ℕ × List ℕ → TextLine = λ (k, line). record { number = k; words = words_of line } in
    let all = length-map (enumerate_from n lines) numbered in
    omega (
      arith,
      all,
      length-enumerate_from n lines,
      no_more (slice_split is_line_end bytes),
      length-slice_split is_line_end bytes,
      count_by-le-length is_line_end bytes,
    )

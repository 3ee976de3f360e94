-- Comments behind the lines of an SDD file are passed over when it is read.
use Rattle.std.proofs.Common.{◌≡◌, ℕ, suc, ◌+◌, false, List, [], ◌∷◌, ◌++◌, filter}
use Rattle.std.proofs.Common.{refl, ap, ◌∙◌, append_assoc, arith}
use Rattle.std.specs.List.{AllByRecursion, flat_map}
use Rattle.sd_base.specs.Lines.{content_from, is_content, numbered_lines_from}
use Rattle.sd_base.specs.Words.{is_line_end, without_empty_end, lines_of}
use Rattle.sd_model.specs.Diagram.{Diagram}
use Rattle.sd_model.specs.Text.{line_text, spaced, index_of, root_lines, naming_lines}
use Rattle.sd_model.proofs.Words.{IsWord, number_is_word}
use Rattle.sd_vfile.proofs.Texts.{IsTextLine, numbered, split_at, words_back, feedless, feedless_line}

-- a line whose first word is a c
abbrev pub IsComment : List (List ℕ) → Type 0
IsComment [] = ⊥
IsComment (w ∷ ws) = (w ≡ 99 ∷ []) × AllByRecursion IsWord ws

-- ---- a line, and what follows it

-- bytes without a line end, and one behind them
first_cut : (b : ℕ) (bs rest : List ℕ) → AllByRecursion (λ x. is_line_end x ≡ false) (b ∷ bs)
    → lines_of ((b ∷ bs) ++ 10 ∷ rest) ≡ (b ∷ bs) ∷ lines_of rest
first_cut b bs rest none = ap without_empty_end (split_at is_line_end (b ∷ bs) rest 10 none refl)

-- a line that counts
content_line : (n : ℕ) (line : List (List ℕ)) (rest : List ℕ) → IsTextLine 99 line
    → content_from 99 n (line_text line ++ rest) ≡ record { number = n; words = line } ∷ content_from 99 (n + 1) rest
content_line n [] rest h = let s = h.not_blank in cc
content_line n ([] ∷ ws) rest h = let s = h.words.0.filled in cc
content_line n ((b ∷ bs) ∷ ws) rest h =
    ap (content_from 99 n) (append_assoc ((b ∷ bs) ++ spaced ws) (10 ∷ []) rest)
    ∙ ap (λ lines. filter (is_content 99) (numbered_lines_from n lines))
    (first_cut b (bs ++ spaced ws) rest (feedless_line (b ∷ bs) ws h.words))
    ∙ ap
    (λ words. filter (is_content 99)
    (record { number = n; words = words } ∷ numbered_lines_from (n + 1) (lines_of rest)))
    (words_back (b ∷ bs) ws h.words)
    ∙ rw h.plain refl

-- no line end stands in words
feedless_words : (ws : List (List ℕ)) → AllByRecursion IsWord ws
    → AllByRecursion (λ b. is_line_end b ≡ false) (spaced ws)
feedless_words [] h = tt
feedless_words (w ∷ ws) h = (refl, feedless w (spaced ws) h.0 (feedless_words ws h.1))

-- a comment
comment_line : (n : ℕ) (ws : List (List ℕ)) (rest : List ℕ) → AllByRecursion IsWord ws
    → content_from 99 n (line_text ((99 ∷ []) ∷ ws) ++ rest) ≡ content_from 99 (n + 1) rest
comment_line n [] rest h =
    ap (λ lines. filter (is_content 99) (numbered_lines_from n lines)) (first_cut 99 [] rest (refl, tt))
comment_line n (w ∷ ws) rest h =
    ap (content_from 99 n) (append_assoc ((99 ∷ []) ++ spaced (w ∷ ws)) (10 ∷ []) rest)
    ∙ ap (λ lines. filter (is_content 99) (numbered_lines_from n lines))
    (first_cut 99 (spaced (w ∷ ws)) rest (refl, feedless_words (w ∷ ws) h))

-- ---- all lines

-- comments alone
comments_pass : (n : ℕ) (comments : List (List (List ℕ))) → AllByRecursion IsComment comments
    → content_from 99 n (flat_map line_text comments) ≡ []
comments_pass n [] h = refl
comments_pass n ([] ∷ comments) h = absurd h.0
comments_pass n ((w ∷ ws) ∷ comments) h =
    let rest = flat_map line_text comments in
    ap (λ v. content_from 99 n (line_text (v ∷ ws) ++ rest)) h.0.0 ∙ comment_line n ws rest h.0.1
    ∙ comments_pass (n + 1) comments h.1

-- lines that count, and comments behind them
pub lines_before_comments : (n : ℕ) (lines comments : List (List (List ℕ))) → AllByRecursion (IsTextLine 99) lines
    → AllByRecursion IsComment comments → content_from 99 n (flat_map line_text (lines ++ comments)) ≡ numbered n lines
lines_before_comments n [] comments h k = comments_pass n comments k
lines_before_comments n (line ∷ lines) comments h k =
    content_line n line (flat_map line_text (lines ++ comments)) h.0
    ∙ ap (λ rest. record { number = n; words = line } ∷ rest) (lines_before_comments (n + 1) lines comments h.1 k)

-- ---- the lines that name roots

-- those of all roots are comments
root_comments : (nodes : List Diagram) (n : ℕ) (roots : List Diagram)
    → AllByRecursion IsComment (root_lines nodes n roots)
root_comments nodes n [] = tt
root_comments nodes n (root ∷ roots) = (
  (
    refl,
    (
      (omega arith, (omega arith, (omega arith, (omega arith, tt)))),
      (number_is_word n, (number_is_word (index_of root nodes), tt)),
    ),
  ),
  root_comments nodes (suc n) roots,
)

-- whether or not there are several
pub naming_comments : (nodes roots : List Diagram) → AllByRecursion IsComment (naming_lines nodes roots)
naming_comments nodes [] = tt
naming_comments nodes (root ∷ []) = tt
naming_comments nodes (root ∷ second ∷ roots) = root_comments nodes 0 (root ∷ second ∷ roots)

-- The steps of the reader, against the definition.
use Rattle.std.proofs.Common.{◌≡◌, ℕ, ◌+◌, false, not, List, [], ◌∷◌, ◌++◌, length, length-append, Result, Ok, Err}
use Rattle.std.proofs.Common.{refl, sym, ap, ◌∙◌, subst, Bool, true, ◌==◌}
use Rattle.std.proofs.Common.{◌&&◌, if◌then◌else◌, Option, Some, ◌-◌, take, arith}
use Rattle.std.specs.List.{take_while, flat_map, last_or, slice_split}
use Rattle.std.proofs.lemmas.Grind.{flat_map-append}
use Rattle.std.proofs.lemmas.List.Sums.{take_while-cons}
use Rattle.sd_base.specs.Lines.{TextLine, begins_with, content_of}
use Rattle.sd_base.specs.Reading.{◌>>=◌, each}
use Rattle.sd_model.specs.Expression.{Group}
use Rattle.sd_formula.specs.declared.formula.Kind.{Kind}
use Rattle.sd_formula.specs.declared.formula.Kind.TheVariants.{Cnf, Dnf}
use Rattle.sd_formula.specs.declared.error.FormulaError.{FormulaError}
use Rattle.sd_formula.specs.declared.error.FormulaError.TheVariants.{OutOfMemory}
use Rattle.sd_formula.specs.Dimacs.{Groups, Stated, BodyWord, after_mark, word_pieces, is_mark, is_end_word}
use Rattle.sd_formula.specs.Dimacs.{group_of, has_begun, Fails, all_but_last, body_words, words_at, groups_of}
use Rattle.sd_formula.specs.Dimacs.{stated_of, formula_of, dimacs}
use Rattle.sd_formula.specs.Steps.{Parts, no_parts, marked, literal_read, put_word, put_words, put_pieces}
use Rattle.sd_formula.specs.Steps.{all_groups}
use Rattle.sd_formula.proofs.FlatLaws.{length_cut}
use Rattle.sd_formula.proofs.PartsLaws.{by_parts}

pub all_but_last_push : (parts : List Group) (part : Group) → all_but_last (parts ++ part ∷ []) ≡ parts
all_but_last_push parts part =
    let short : length (parts ++ part ∷ []) - 1 ≡ length parts = omega (arith, length-append parts (part ∷ [])) in
    ap (λ n. take n (parts ++ part ∷ [])) short ∙ front parts
  where
    front : (ps : List Group) → take (length ps) (ps ++ part ∷ []) ≡ ps
    front [] = refl
    front (p ∷ ps) = ap (λ qs. p ∷ qs) (front ps)

pub last_part_push : (first : Option Group) (parts : List Group) (part : Group)
    → last_or first (parts ++ part ∷ []) ≡ Some part
last_part_push first [] part = refl
last_part_push first (x ∷ xs) part = last_part_push (Some x) xs part

-- the formula of a text is that of its lines
pub text_of_lines : (kind : Kind) (bytes : List ℕ) → dimacs kind bytes ≡ formula_of kind (content_of 99 bytes)
unfolding dimacs
text_of_lines kind bytes = refl

-- what the count of groups rests on
pub ruleset counted = (all_but_last_push, last_part_push, length_cut)

-- ---- the lines of the body

-- words that are put one list after another
pub put_words_append : (kind : Kind) (v : ℕ) (p : Parts) (xs ys : List BodyWord)
    → put_words kind v p (xs ++ ys) ≡ (put_words kind v p xs >>= λ q. put_words kind v q ys)
put_words_append kind v p [] ys = refl
put_words_append kind v p (x ∷ xs) ys = after (put_word kind v p x) (λ q. put_words_append kind v q xs ys)
  where
    after : (r : Result Parts (List ℕ))
        → ((q : Parts) → put_words kind v q (xs ++ ys) ≡ (put_words kind v q xs >>= λ q. put_words kind v q ys))
        → (r >>= λ q. put_words kind v q (xs ++ ys))
        ≡ ((r >>= λ q. put_words kind v q xs) >>= λ q. put_words kind v q ys)
    after (Ok q) shorter = shorter q
    after (Err e) shorter = refl

-- so also with the marks that are joined to them
pieces_append : (kind : Kind) (v : ℕ) (p : Parts) (xs ys : List BodyWord)
    → put_pieces kind v p (xs ++ ys) ≡ (put_pieces kind v p xs >>= λ q. put_pieces kind v q ys)
pieces_append kind v p xs ys =
    ap (put_words kind v p) (flat_map-append (word_pieces kind) xs ys)
    ∙ put_words_append kind v p (flat_map (word_pieces kind) xs) (flat_map (word_pieces kind) ys)

-- a word of a line, and those after it
pub pieces_cons : (kind : Kind) (v : ℕ) (p : Parts) (x : BodyWord) (ys : List BodyWord)
    → put_pieces kind v p (x ∷ ys) ≡ (put_words kind v p (word_pieces kind x) >>= λ q. put_pieces kind v q ys)
pieces_cons kind v p x ys = put_words_append kind v p (word_pieces kind x) (flat_map (word_pieces kind) ys)

-- a mark with a literal or a zero that is joined to it
pub mark_joined : (kind : Kind) (v : ℕ) (p : Parts) (line : ℕ) (bytes rest : List ℕ)
    → after_mark kind bytes ≡ Some rest → has_begun p.open_part ≡ false → (length rest == 0) ≡ false
    → put_words kind v p (word_pieces kind (record { line = line; bytes = bytes }))
    ≡ literal_read v (marked p) (record { line = line; bytes = rest })
mark_joined Dnf v p line bytes rest mark fresh filled = absurd cc
mark_joined Cnf v p line bytes [] mark fresh filled = absurd cc
mark_joined Cnf v p line bytes (byte ∷ rest) mark fresh filled =
    let word : BodyWord = record { line = line; bytes = byte ∷ rest } in
    let second = put_joined (is_mark Cnf word) (literal_read v (marked p) word) in
    rw (mark, fresh) second
  where
    -- no mark may stand behind the mark
    put_joined : (mark : Bool) (r : Result Parts (List ℕ))
        → ((if mark && false then Ok (marked (marked p)) else r) >>= λ q. Ok q) ≡ r
    put_joined true (Ok q) = refl
    put_joined true (Err e) = refl
    put_joined false (Ok q) = refl
    put_joined false (Err e) = refl

-- the words of a line, and those of the lines after it
body_cons : (line : TextLine) (lines : List TextLine) → begins_with 37 line.words ≡ false
    → body_words (line ∷ lines) ≡ words_at line ++ body_words lines
body_cons line lines other =
    let counts = λ (l : TextLine). not (begins_with 37 l.words) in
    let first : take_while counts (line ∷ lines) ≡ line ∷ take_while counts lines =
    take_while-cons counts line lines ∙ rw other refl in
    ap (flat_map words_at) first

-- a line of the body, and the lines after it
pub body_line : (kind : Kind) (v : ℕ) (p : Parts) (line : TextLine) (lines : List TextLine)
    → begins_with 37 line.words ≡ false
    → put_pieces kind v p (body_words (line ∷ lines))
    ≡ (put_pieces kind v p (words_at line) >>= λ q. put_pieces kind v q (body_words lines))
body_line kind v p line lines other =
    ap (put_pieces kind v p) (body_cons line lines other) ∙ pieces_append kind v p (words_at line) (body_words lines)

-- and how many words that are
pub body_length : (line : TextLine) (lines : List TextLine) → begins_with 37 line.words ≡ false
    → length (body_words (line ∷ lines)) ≡ length (words_at line) + length (body_words lines)
body_length line lines other =
    ap length (body_cons line lines other) ∙ length-append (words_at line) (body_words lines)

-- ---- the whole text

-- a fault decides, whatever would come after it
pub fails_then : {A B : Type 0} (e : FormulaError) (r : Result A (List ℕ)) (f : A → Result B (List ℕ))
    → Fails e r → Fails e (r >>= f)
fails_then OutOfMemory r f h = tt
fails_then e r f h = ap (λ x. x >>= f) h

-- what the lines of a body give
abbrev body_parts : Kind → List TextLine → Stated → Result Parts (List ℕ)
body_parts kind lines s = put_pieces kind s.variables no_parts (body_words lines)

-- the formula of a header and a body that was read into parts
abbrev of_parts : Kind → Stated → Result Parts (List ℕ) → Result Groups (List ℕ)
of_parts kind s reading = reading >>= λ p. groups_of kind s (all_groups p)

-- the formula by way of the parts
formula_by_parts : (kind : Kind) (header : TextLine) (lines : List TextLine)
    → formula_of kind (header ∷ lines) ≡ (stated_of kind header >>= λ s. of_parts kind s (body_parts kind lines s))
formula_by_parts kind header lines = at (stated_of kind header)
  where
    at : (r : Result Stated (List ℕ))
        → (r >>= λ s. each (group_of kind s.variables) (slice_split is_end_word (flat_map (word_pieces kind)
        (body_words lines))) >>= groups_of kind s)
        ≡ (r >>= λ s. of_parts kind s (body_parts kind lines s))
    at (Ok s) = by_parts kind s.variables (flat_map (word_pieces kind) (body_words lines)) (groups_of kind s)
    at (Err e) = refl

-- the reading, where the header has no fault
after_header : (kind : Kind) (content : List TextLine) (header : TextLine) (lines : List TextLine) (s : Stated)
    → content ≡ header ∷ lines → stated_of kind header ≡ Ok s
    → formula_of kind content ≡ of_parts kind s (body_parts kind lines s)
after_header kind content header lines s at header_is =
    let go_on = λ (r : Result Stated (List ℕ)). r >>= λ t. of_parts kind t (body_parts kind lines t) in
    ap (formula_of kind) at ∙ formula_by_parts kind header lines ∙ ap go_on header_is

-- the reading, where header and body have no fault
pub whole : (kind : Kind) (content : List TextLine) (header : TextLine) (lines : List TextLine) (s : Stated) (p : Parts)
    → content ≡ header ∷ lines → stated_of kind header ≡ Ok s
    → put_pieces kind s.variables no_parts (body_words lines) ≡ Ok p
    → formula_of kind content ≡ groups_of kind s (all_groups p)
whole kind content header lines s p at header_is body_is =
    after_header kind content header lines s at header_is ∙ ap (of_parts kind s) body_is

-- the reading, where the body has a fault
pub body_fails : (kind : Kind) (content : List TextLine) (header : TextLine) (lines : List TextLine) (s : Stated)
    (e : FormulaError) → content ≡ header ∷ lines → stated_of kind header ≡ Ok s
    → Fails e (put_pieces kind s.variables no_parts (body_words lines)) → Fails e (formula_of kind content)
body_fails kind content header lines s e at header_is fails =
    let decided = fails_then e (body_parts kind lines s) (λ q. groups_of kind s (all_groups q)) fails in
    subst (Fails e) (sym (after_header kind content header lines s at header_is)) decided

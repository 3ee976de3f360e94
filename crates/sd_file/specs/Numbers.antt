-- The numbers that codes have, kept as marks: one more than the number, and 0 for a code with none.
use Rattle.std.specs.Prelude.{◌≡◌, ℕ, ◌+◌, ◌-◌, ◌<◌, ◌^◌, List, [], ◌∷◌, length, slice_index_or}
use Rattle.std.specs.Prelude.{suc, codes, ◌==◌, if◌then◌else◌}
use Rattle.std.specs.List.{sum_by}
use Rattle.sd_model.specs.Text.{number_text}
use Rattle.sd_file.specs.declared.numbers.Numbers.{Numbers}

-- the mark of a code
abbrev pub mark_at : Numbers → ℕ → ℕ
mark_at numbers c = slice_index_or numbers.marks.items c 0

-- how many marks are 0
abbrev pub count_of_zeros : List ℕ → ℕ
count_of_zeros marks = sum_by (λ n. if n == 0 then 1 else 0) marks

-- as many numbers were given as there are other marks, and there are no more marks than codes of a u32
pub record HaveRoom (numbers : Numbers) : Type 0 where
  pub counted : numbers.count + count_of_zeros numbers.marks.items ≡ length numbers.marks.items
  pub within_limit : length numbers.marks.items < 2 ^ 32

-- the code may get the next number
pub record CanGive (numbers : Numbers) (code : ℕ) : Type 0 where
  pub none : mark_at numbers code ≡ 0
  pub low : code < 2 ^ 32 - 1
  pub room : HaveRoom numbers

-- the code got the next number
pub record HasNextNumber (old new : Numbers) (code : ℕ) : Type 0 where
  pub count : new.count ≡ old.count + 1
  pub marks : (c : ℕ) → mark_at new c ≡ (if c == code then old.count + 1 else mark_at old c)
  pub room : HaveRoom new

-- both codes of a pair have numbers
abbrev pub HaveNumbers : Numbers → ℕ × ℕ → Type 0
HaveNumbers numbers e = (0 < mark_at numbers e.0) × (0 < mark_at numbers e.1)

-- the numbers of the codes in pairs, as words
abbrev pub pair_words : Numbers → List (ℕ × ℕ) → List (List ℕ)
pair_words numbers [] = []
pair_words numbers (e ∷ es) =
    number_text (mark_at numbers e.0 - 1) ∷ number_text (mark_at numbers e.1 - 1) ∷ pair_words numbers es

-- the code has a number
abbrev pub HasNumber : Numbers → ℕ → Type 0
HasNumber numbers c = 0 < mark_at numbers c

-- the lines `c root I ID` of the codes of roots, with I from a number on
abbrev pub root_words : Numbers → ℕ → List ℕ → List (List (List ℕ))
root_words numbers n [] = []
root_words numbers n (c ∷ others) =
    (codes "c" ∷ codes "root" ∷ number_text n ∷ number_text (mark_at numbers c - 1) ∷ [])
    ∷ root_words numbers (suc n) others

-- the lines that name the roots of two or more codes; a single one has none
abbrev pub naming_words : Numbers → List ℕ → List (List (List ℕ))
naming_words numbers [] = []
naming_words numbers (c ∷ []) = []
naming_words numbers (c ∷ second ∷ others) = root_words numbers 0 (c ∷ second ∷ others)

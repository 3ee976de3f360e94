-- What a reader keeps are literals in range.
use Rattle.std.proofs.Common.{◌≡◌, ℕ, ◌≤◌, true, not, ◌&&◌, ltb, List, [], ◌∷◌, ◌++◌, ℤ, unsigned_abs}
use Rattle.std.proofs.Common.{Option, Some, None, Result, Ok, Err, refl, subst, arith, inl, inr}
use Rattle.std.specs.List.{AllByRecursion}
use Rattle.std.proofs.lemmas.Bool.{cases_Bool, and_parts, ltb-false, eqb-false}
use Rattle.sd_base.specs.Numbers.{integer_value}
use Rattle.sd_base.specs.Reading.{◌>>=◌}
use Rattle.sd_formula.specs.declared.error.FormulaError.TheVariants.{LiteralRange}
use Rattle.sd_formula.specs.declared.formula.Kind.{Kind}
use Rattle.sd_formula.specs.declared.formula.Kind.TheVariants.{Cnf, Dnf}
use Rattle.sd_formula.specs.Dimacs.{BodyWord, formula_fault_text, literal_of_word, is_zero, is_mark, has_begun}
use Rattle.sd_formula.specs.Formulas.{IsLiteral, IsGroup}
use Rattle.sd_formula.specs.Steps.{Parts, no_group, marked, put_literal, literal_read, put_word, put_words, PartsFit}
use Rattle.sd_formula.proofs.PartsLaws.{done, in_range}

-- what holds of each element of a list, and of one more
pub all_push : {X : Type 0} (P : X → Type 0) (xs : List X) (x : X) → AllByRecursion P xs → P x
    → AllByRecursion P (xs ++ x ∷ [])
all_push P [] x all here = (here, tt)
all_push P (y ∷ ys) x all here = (all.0, all_push P ys x all.1 here)

-- a group that has not begun
pub nothing_fits : (kind : Kind) (v : ℕ) → IsGroup kind v no_group
nothing_fits Cnf v = record { mark = tt; literals = tt }
nothing_fits Dnf v = record { mark = refl; literals = tt }

-- a literal in range, or a zero, is put
put_fits : (kind : Kind) (v : ℕ) (p : Parts) (z : ℤ) → unsigned_abs z ≤ v → PartsFit kind v p
    → PartsFit kind v (put_literal p z)
put_fits kind v p z small fit = elim (cases_Bool (is_zero z)) [
  | inl ends ↦
      let closed = all_push (IsGroup kind v) p.closed p.open_part fit.closed fit.open_part in
      rw ends (record { closed = closed; open_part = nothing_fits kind v })
  | inr other ↦
      let fits : IsLiteral v z = record { low = omega (arith, eqb-false (unsigned_abs z) 0 other); high = small } in
      let literals = all_push (IsLiteral v) p.open_part.literals z fit.open_part.literals fits in
      rw other (record {
        closed = fit.closed;
        open_part = record { mark = fit.open_part.mark; literals = literals };
      })
]

-- a literal that was read is in range
small_after : (v line : ℕ) (o : Option ℤ) (z : ℤ) → in_range v line o ≡ Ok z → unsigned_abs z ≤ v
small_after v line None z e = absurd cc
small_after v line (Some y) z e = elim (cases_Bool (ltb v (unsigned_abs y))) [
  | inl past ↦ let refused : Err (formula_fault_text (LiteralRange line y)) ≡ Ok z = rw past at e in absurd cc
  | inr within ↦
      let same : done y ≡ done z = rw within at e in
      let is : y ≡ z = cc in
      subst (λ x. unsigned_abs x ≤ v) is (ltb-false v (unsigned_abs y) within)
]

-- what is put of a literal that was read fits
read_fits : (kind : Kind) (v : ℕ) (p q : Parts) (r : Result ℤ (List ℕ)) → PartsFit kind v p
    → ((z : ℤ) → r ≡ Ok z → unsigned_abs z ≤ v) → (r >>= λ z. Ok (put_literal p z)) ≡ Ok q → PartsFit kind v q
read_fits kind v p q (Ok z) fit small e =
    let same : done (put_literal p z) ≡ done q = e in
    let is : put_literal p z ≡ q = cc in
    subst (PartsFit kind v) is (put_fits kind v p z (small z refl) fit)
read_fits kind v p q (Err f) fit small e = absurd cc

-- a mark is put only under cnf
mark_fits : (kind : Kind) (v : ℕ) (p : Parts) (word : BodyWord) → is_mark kind word ≡ true → PartsFit kind v p
    → PartsFit kind v (marked p)
mark_fits Cnf v p word is fit =
    record { closed = fit.closed; open_part = record { mark = tt; literals = fit.open_part.literals } }
mark_fits Dnf v p word is fit = absurd cc

-- a word that has no fault is put
word_fits : (kind : Kind) (v : ℕ) (p q : Parts) (word : BodyWord) → PartsFit kind v p → put_word kind v p word ≡ Ok q
    → PartsFit kind v q
word_fits kind v p q word fit e = elim (cases_Bool (is_mark kind word && not (has_begun p.open_part))) [
  | inl both ↦
      let same : done (marked p) ≡ done q = rw both at e in
      let is : marked p ≡ q = cc in
      let parts = and_parts (is_mark kind word) (not (has_begun p.open_part)) both in
      subst (PartsFit kind v) is (mark_fits kind v p word parts.0 fit)
  | inr other ↦
      let read : literal_read v p word ≡ Ok q = rw other at e in
      read_fits kind v p q (literal_of_word v word) fit
      (λ z is. small_after v word.line (integer_value word.bytes) z is) read
]

words_fit_after : (kind : Kind) (v : ℕ) (p q : Parts) (r : Result Parts (List ℕ)) (words : List BodyWord)
    → ((x : Parts) → r ≡ Ok x → PartsFit kind v x)
    → ((x : Parts) → PartsFit kind v x → put_words kind v x words ≡ Ok q → PartsFit kind v q)
    → (r >>= λ x. put_words kind v x words) ≡ Ok q → PartsFit kind v q
words_fit_after kind v p q (Ok x) words first others e = others x (first x refl) e
words_fit_after kind v p q (Err f) words first others e = absurd cc

-- literals in range are kept after words that have no fault
pub words_fit : (kind : Kind) (v : ℕ) (p q : Parts) (words : List BodyWord) → PartsFit kind v p
    → put_words kind v p words ≡ Ok q → PartsFit kind v q
words_fit kind v p q [] fit e =
    let same : done p ≡ done q = e in
    let is : p ≡ q = cc in
    subst (PartsFit kind v) is fit
words_fit kind v p q (word ∷ words) fit e =
    words_fit_after kind v p q (put_word kind v p word) words (λ x is. word_fits kind v p x word fit is)
    (λ x fits is. words_fit kind v x q words fits is) e

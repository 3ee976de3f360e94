-- Ten digits write a number below 2^64, so the parse of std reads it.
use Rattle.std.proofs.Common.{rules, arith, ◌≡◌, ◌∙◌, ℕ, ◌<◌, ◌^◌, ap, refl, sym, true, false, true≢false}
use Rattle.std.proofs.Common.{List, [], ◌∷◌, length, Ok, Result}
use Rattle.std.specs.Char.{is_ascii_digit}
use Rattle.std.specs.List.{list_all}
use Rattle.std.specs.Str.Parse.{ParsesUnsigned, digits_value}
use Rattle.std.proofs.lemmas.Str.Parse.{IsNumeralModel, digits_value_short, numerals_by_value, parse_gives}
use Rattle.std.proofs.lemmas.Bool.{leb-true}
use Rattle.std.specs.Prelude.{Bool, ◌&&◌, nat_le, not}
use Rattle.std.specs.Str.{all_ascii_digits}
use Rattle.std.proofs.lemmas.Bool.Decides.{nat_tests}
use Rattle.sd_base.specs.Numbers.{is_within}
use Rattle.clap.specs.Walk.{is_empty}
use Rattle.clap.proofs.WalkLemmas.{both}
use Rattle.sd_words.specs.Numbers.{is_number}
use Rattle.sd_words.proofs.numbers.natural.Goals as goal

digits : IsNumeralModel (λ ds. list_all is_ascii_digit ds ≡ true) (digits_value 10)
digits = numerals_by_value _ (search rules)

some_digit : (text : List ℕ) → not (is_empty text) ≡ true → 0 < length text
some_digit [] h = absurd (true≢false (sym h))
some_digit (x ∷ xs) h = omega arith

-- one to ten digits are read as the number that they write
reads : {E : Type 0} (text : List ℕ) (r : Result ℕ E) → ParsesUnsigned 64 10 text r
    → is_number text ≡ true → r ≡ Ok (digits_value 10 text)
reads text r parsed number =
    let not_empty = both _ _ number in
    let digits_only = both _ _ not_empty.1 in
    let short : digits_value 10 text < 10 ^ 10 =
    digits_value_short digits text 10 digits_only.1 (leb-true _ _ digits_only.0) in
    parse_gives digits 64 text r parsed digits_only.1 (some_digit text not_empty.0) (omega arith)

same_digits : (text : List ℕ) → list_all is_ascii_digit text ≡ all_ascii_digits text
same_digits [] = refl
same_digits (x ∷ xs) = ap (λ (rest : Bool). is_ascii_digit x && rest) (same_digits xs)

not_empty : (text : List ℕ) → not (is_empty text) ≡ nat_le 1 (length text)
not_empty [] = refl
not_empty (x ∷ xs) = search (rules, nat_tests)

regroup : (a b c : Bool) → (a && (b && c)) ≡ (a && b && c)
regroup true b c = refl
regroup false b c = refl

-- the test of the code is that of the definition
same_test : (text : List ℕ) → is_number text ≡ (is_within 1 10 (length text) && all_ascii_digits text)
same_test text =
    regroup (not (is_empty text)) (nat_le (length text) 10) (list_all is_ascii_digit text)
    ∙ rw (not_empty text, same_digits text) refl

pub returns-then-is_number : goal.returns-then-is_number
returns-then-is_number c =
    let number : is_number c.args.text.now ≡ true = sym c.is_number.ensures ∙ c.if-is_number.true in
    let read = reads c.args.text.now c.parse.result c.parse.ensures.value.0 number in
    rw (sym (same_test c.args.text.now) ∙ number, c.ok.ensures.value, read) refl

pub returns-else-is_number : goal.returns-else-is_number
returns-else-is_number c =
    rw (sym (same_test c.args.text.now) ∙ sym c.is_number.ensures ∙ c.if-is_number.false) refl

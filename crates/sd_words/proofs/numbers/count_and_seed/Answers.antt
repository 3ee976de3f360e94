-- Where no colon stands, the text after it is empty and no seed.
use Rattle.std.proofs.Common.{arith, ◌≡◌, ◌==◌, ◌∙◌, refl, sym, ℕ, Option, Some, None, [], length}
use Rattle.std.proofs.Common.{drop_of_length-le}
use Rattle.std.specs.List.{after_first, position_or_len}
use Rattle.std.specs.Option.{option_zip}
use Rattle.sd_words.specs.Numbers.{number_within}
use Rattle.sd_words.proofs.numbers.count_and_seed.Goals as goal

zip_none : (o : Option ℕ) → option_zip {U = ℕ} o None ≡ None
zip_none None = refl
zip_none (Some n) = refl

no_seed : number_within 0 4294967295 [] ≡ None
no_seed = refl

pub returns-in_err-count : goal.returns-in_err-count
returns-in_err-count c =
    let text = c.args.text.now in
    let none : position_or_len (λ byte. byte == 58) text ≡ length text =
    c.in_err-count.ensures.byte (omega arith) (λ w o h. h) in
    let after : after_first (λ byte. byte == 58) text ≡ [] = drop_of_length-le text (omega arith) in
    c.from_residual.ensures ∙ sym (rw (after, no_seed) (zip_none _))

-- Numbers as values on the command line: one to ten digits and nothing else.
use Rattle.std.specs.Prelude.{ℕ, ◌&&◌, ◌==◌, Bool, Option, length}
use Rattle.std.specs.Prelude.{nat_le, not, option_and_then}
use Rattle.std.specs.Bool.{then_some}
use Rattle.std.specs.Char.{is_ascii_digit}
use Rattle.std.specs.Option.{option_zip}
use Rattle.std.specs.List.{after_first, before_first, list_all}
use Rattle.sd_base.specs.Numbers.{is_within, natural_to}
use Rattle.clap.specs.Walk.{Text, is_empty}
use Rattle.sd_words.specs.Options.{range_of}

-- the number of one to ten digits that a text writes, where it is from `least` to `most`
abbrev pub number_within : ℕ → ℕ → Text → Option ℕ
number_within least most text =
    option_and_then (λ n. then_some (is_within least most n) n) (natural_to 10 text)

-- the number that an option has, where the text writes one in its range
abbrev pub number_of_text : Text → Text → Option ℕ
number_of_text word text = option_and_then (λ range. number_within range.0 range.1 text) (range_of word)

-- `COUNT:SEED` (`:` is byte 58): the number of variables, 3 to 1,024, and a seed of 32 bits
abbrev pub count_and_seed : Text → Option (ℕ × ℕ)
count_and_seed text = option_zip
    (number_within 3 1024 (before_first (λ byte. byte == 58) text))
    (number_within 0 4294967295 (after_first (λ byte. byte == 58) text))

-- ---- for the contracts of private functions, and for proofs

-- one to ten digits
abbrev pub is_number : Text → Bool
is_number text = not (is_empty text) && (nat_le (length text) 10 && list_all is_ascii_digit text)

-- What the options of a call say, once `clap` has read the words.
use Rattle.std.specs.Prelude.{ℕ, Bool, false, List, codes, find, if◌then◌else◌}
use Rattle.std.specs.Prelude.{Option, Some, None, is_some, is_none, option_and_then}
use Rattle.std.specs.Option.{option_map_or}
use Rattle.std.specs.Str.{bytes_eq}
use Rattle.clap.specs.Walk.{Text}
use Rattle.sd_words.specs.Numbers.{count_and_seed, number_of_text}
use Rattle.sd_words.specs.declared.jobs.TreeWord.{TreeWord}
use Rattle.sd_words.specs.declared.jobs.TreeWord.TheVariants as tree
use Rattle.sd_words.specs.Options.{word_of}
use Rattle.sd_words.specs.declared.options.OptionName.{OptionName}

-- the value of each option that is there, by its word; that of a flag is `true`
abbrev pub ParsedOptions : Type 0
ParsedOptions = Text → Option Text

-- the option is there
abbrev pub has_option : ParsedOptions → Text → Bool
has_option parsed word = is_some (parsed word)

-- the first option of a list that is there, where another is there too
abbrev pub first_beside : ParsedOptions → Text → List Text → Option Text
first_beside parsed word others = if has_option parsed word then find (has_option parsed) others else None

-- the value is there and reads as nothing
abbrev pub fails : {T : Type 0} → (Text → Option T) → Option Text → Bool
fails read value = option_map_or (λ text. is_none (read text)) value false

-- the number of an option, where it is there and has one
abbrev pub option_number : ParsedOptions → Text → Option ℕ
option_number parsed word = option_and_then (number_of_text word) (parsed word)

-- the option is there and its number is not as it has to be
abbrev pub has_bad_number : ParsedOptions → Text → Bool
has_bad_number parsed word = if bytes_eq word (codes "generate")
    then fails count_and_seed (parsed word) else fails (number_of_text word) (parsed word)

-- the number of variables and the seed of `--generate`, where it is there and has them
abbrev pub generated : ParsedOptions → Option (ℕ × ℕ)
generated parsed = option_and_then count_and_seed (parsed (codes "generate"))

-- the shape that the value of `--start` names
abbrev pub start_of : Text → Option TreeWord
start_of text = if bytes_eq text (codes "balanced") then Some tree.Balanced
    else (if bytes_eq text (codes "right") then Some tree.Right
    else (if bytes_eq text (codes "left") then Some tree.Left else None))

-- ---- for the contracts of private functions, and for proofs

-- the option is there and its value passes the test
abbrev pub has_that : (Text → Bool) → ParsedOptions → OptionName → Bool
has_that test parsed o = option_map_or test (parsed (word_of o)) false

-- the option is there
abbrev pub has_named : ParsedOptions → OptionName → Bool
has_named parsed o = has_option parsed (word_of o)

-- the first option of a list that is there beside another
abbrev pub first_named_beside : OptionName → List OptionName → ParsedOptions → Option OptionName
first_named_beside o others parsed = if has_named parsed o then find (has_named parsed) others else None

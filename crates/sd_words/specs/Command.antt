-- The command line as a command of `clap`, and what `clap` makes of the words.
use Rattle.std.specs.Prelude.{Bool, true, List, ◌∷◌, fold, codes, if◌then◌else◌, Option, Some}
use Rattle.std.specs.Bool.{then_some}
use Rattle.std.specs.Option.{option_and_then}
use Rattle.std.specs.Str.{bytes_eq}
use Rattle.clap.specs.Walk.{Row, Rule, Text, first_of, is_empty, rows_of}
use Rattle.clap.specs.Simple.{App, matches_of, new_app, new_rule, on_top, with_rule}
use Rattle.clap.specs.Faults.{fault_of}
use Rattle.clap.specs.Kinds.{Kinds}
use Rattle.clap.specs.Matches.{found_of}
use Rattle.clap.specs.declared.parser.matches.ArgMatches.{ArgMatches}
use Rattle.clap.specs.declared.builder.action.ArgAction.TheVariants.{Set, SetTrue}
use Rattle.sd_words.specs.ParsedOptions.{ParsedOptions}
use Rattle.sd_words.specs.Options.{all_options, is_flag, word_of}
use Rattle.sd_words.specs.declared.options.OptionName.{OptionName}

-- `Arg::new(word).long(word).action(ArgAction::Set)`: an option that takes one text value
abbrev pub text_option : Text → Rule
text_option word = record (new_rule word) { long = Some word; action = Some Set }

-- `Arg::new(word).long(word).action(ArgAction::SetTrue)`: a flag, which takes no value
abbrev pub flag_option : Text → Rule
flag_option word = record (new_rule word) { long = Some word; action = Some SetTrue }

-- the option with this word
abbrev pub option_rule : Text → Rule
option_rule word = if is_flag word then flag_option word else text_option word

-- `Command::new("sddc")` with `disable_help_flag(true)` and `disable_version_flag(true)`, before it has options
abbrev pub bare_sddc : App
bare_sddc = on_top (λ s. record s { disable_help_flag = true; disable_version_flag = true }) (new_app (codes "sddc"))

-- the command: with `arg` of each option
unfoldable pub sddc : App
sddc = fold (λ app word. with_rule app (option_rule word)) bare_sddc all_options

-- the text, where it is `true`
abbrev pub if_true : Text → Option Text
if_true text = then_some (bytes_eq text (codes "true")) text

-- what a value that `clap` has says of its option: a flag that is not there has one too, which is not `true`
abbrev pub said_of : Text → Option Text → Option Text
said_of option value = if is_flag option then option_and_then if_true value else value

-- the words as `clap` is handed them: the program's name comes first
abbrev pub handed : List Text → List Text
handed words = codes "sddc" ∷ words

-- what `clap` finds wrong with the words that it is handed
unfoldable pub usage_faults : List Text → Kinds
usage_faults = fault_of sddc

-- `clap` takes the words
abbrev pub accepts : List Text → Bool
accepts words = is_empty (usage_faults (handed words))

-- what the first value of each option says, among some rows of matches
abbrev pub parsed_in : List Row → ParsedOptions
parsed_in rows option = said_of option (first_of option rows)

-- what the words after the program's name give, among what `clap` finds in them
unfoldable pub parsed_by : List Text → ParsedOptions
parsed_by words = parsed_in (matches_of sddc (handed words))

-- ---- for the contracts of private functions, and for proofs

-- the command with one option more
abbrev pub with_option : App → OptionName → App
with_option app o = with_rule app (option_rule (word_of o))

-- what `clap` finds in them
unfoldable pub rows_found : List Text → List Row
rows_found = matches_of sddc

-- what a parse gave
unfoldable pub parsed_of : ArgMatches → ParsedOptions
parsed_of m = parsed_in (rows_of (found_of m))

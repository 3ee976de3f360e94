-- The options by their words, without the two dashes: their order, the numbers that they take, and their kinds.
use Rattle.std.specs.Prelude.{ℕ, Bool, List, [], ◌∷◌, map, codes, if◌then◌else◌, Option, Some, None}
use Rattle.std.specs.Str.{bytes_eq}
use Rattle.clap.specs.Walk.{Text}
use Rattle.sd_words.specs.declared.options.OptionName.{OptionName}
use Rattle.sd_words.specs.declared.options.OptionName.TheVariants as option

-- the word of an option
abbrev pub word_of : OptionName → Text
word_of option.Cnf = codes "cnf"
word_of option.Dnf = codes "dnf"
word_of option.Generate = codes "generate"
word_of option.Vtree = codes "vtree"
word_of option.Start = codes "start"
word_of option.Script = codes "script"
word_of option.OutVtree = codes "out-vtree"
word_of option.OutSdd = codes "out-sdd"
word_of option.Minimise = codes "minimise"
word_of option.Every = codes "every"
word_of option.Slack = codes "slack"
word_of option.Limit = codes "limit"
word_of option.Parts = codes "parts"
word_of option.Workers = codes "workers"
word_of option.Portfolio = codes "portfolio"
word_of option.Aag = codes "aag"
word_of option.Check = codes "check"

-- ---- the lists of options

-- all of them, in their order
abbrev pub all_option_names : List OptionName
all_option_names = option.Cnf ∷ option.Dnf ∷ option.Generate ∷ option.Vtree ∷ option.Start ∷ option.Script
    ∷ option.OutVtree ∷ option.OutSdd ∷ option.Minimise ∷ option.Every ∷ option.Slack
    ∷ option.Limit ∷ option.Parts ∷ option.Workers ∷ option.Portfolio ∷ option.Aag ∷ option.Check
    ∷ []

-- those whose value is one number or two
abbrev pub number_option_names : List OptionName
number_option_names = option.Generate ∷ option.Minimise ∷ option.Every ∷ option.Slack ∷ option.Limit
    ∷ option.Parts ∷ option.Workers ∷ []

-- those whose value is the name of a file
abbrev pub file_option_names : List OptionName
file_option_names = option.Cnf ∷ option.Dnf ∷ option.Vtree ∷ option.Script ∷ option.OutVtree ∷ option.OutSdd
    ∷ option.Aag ∷ option.Check ∷ []

-- those that a script stands in place of, in the order in which a fault names the first
abbrev pub replaced_option_names : List OptionName
replaced_option_names = option.OutVtree ∷ option.OutSdd ∷ option.Minimise ∷ []

-- those that have no place beside `--parts`, in that order
abbrev pub names_refused_by_parts : List OptionName
names_refused_by_parts = option.Script ∷ option.Every ∷ []

-- those that have no place beside `--portfolio`, in that order
abbrev pub names_refused_by_portfolio : List OptionName
names_refused_by_portfolio = option.Vtree ∷ option.Start ∷ option.Script ∷ option.Every ∷ option.Parts ∷ []

-- those that have no place beside `--aag`, in that order
abbrev pub names_refused_by_aag : List OptionName
names_refused_by_aag = option.Every ∷ option.Parts ∷ option.Portfolio ∷ []

-- those that have no place beside `--check`, in that order: all others but `--vtree`
abbrev pub names_refused_by_check : List OptionName
names_refused_by_check = option.Cnf ∷ option.Dnf ∷ option.Generate ∷ option.Start ∷ option.Script
    ∷ option.OutVtree ∷ option.OutSdd ∷ option.Minimise ∷ option.Every ∷ option.Slack ∷ option.Limit
    ∷ option.Parts ∷ option.Workers ∷ option.Portfolio ∷ option.Aag ∷ []

-- ---- their words

-- the options that say what is read or made
abbrev pub inputs : List Text
inputs = codes "cnf" ∷ codes "dnf" ∷ codes "generate" ∷ codes "aag" ∷ codes "check" ∷ []

-- the words of all of them
abbrev pub all_options : List Text
all_options = map word_of all_option_names

-- of those whose value is one number or two
abbrev pub number_options : List Text
number_options = map word_of number_option_names

-- of those whose value is the name of a file
abbrev pub files : List Text
files = map word_of file_option_names

-- of those that a script stands in place of
abbrev pub replaced_by_script : List Text
replaced_by_script = map word_of replaced_option_names

-- of those that have no place beside `--parts`
abbrev pub refused_by_parts : List Text
refused_by_parts = map word_of names_refused_by_parts

-- beside `--portfolio`
abbrev pub refused_by_portfolio : List Text
refused_by_portfolio = map word_of names_refused_by_portfolio

-- beside `--aag`
abbrev pub refused_by_aag : List Text
refused_by_aag = map word_of names_refused_by_aag

-- beside `--check`
abbrev pub refused_by_check : List Text
refused_by_check = map word_of names_refused_by_check

-- ---- their values

-- the one that is a flag: it takes no value
abbrev pub is_flag : Text → Bool
is_flag word = bytes_eq word (codes "portfolio")

-- the least and the largest number, of an option whose value is one number
abbrev pub range_of : Text → Option (ℕ × ℕ)
range_of word =
    if bytes_eq word (codes "minimise") then Some (1, 100)
    else (if bytes_eq word (codes "every") then Some (1, 1000000)
    else (if bytes_eq word (codes "slack") then Some (100, 1000)
    else (if bytes_eq word (codes "limit") then Some (1, 268435456)
    else (if bytes_eq word (codes "parts") then Some (1, 64)
    else (if bytes_eq word (codes "workers") then Some (1, 16) else None)))))

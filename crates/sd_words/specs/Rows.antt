-- The texts of the faults of the words, and the tests of the values, one by one.
use Rattle.std.specs.Prelude.{◌&&◌, ◌||◌, ◌==◌, ℕ, Bool, List, [], ◌∷◌, ◌++◌, codes, count_by, find, not}
use Rattle.std.specs.Prelude.{Option, Some, None, if◌then◌else◌, nat_le, option_map}
use Rattle.std.specs.Option.{option_and_then, option_zip}
use Rattle.std.specs.Str.{bytes_eq}
use Rattle.clap.specs.Walk.{Text, is_empty}
use Rattle.sd_words.specs.ParsedOptions.{ParsedOptions, fails, first_named_beside, has_bad_number, has_option}
use Rattle.sd_words.specs.ParsedOptions.{has_that, start_of}
use Rattle.sd_words.specs.Options.{inputs, file_option_names, number_option_names, replaced_option_names, word_of}
use Rattle.sd_words.specs.Options.{names_refused_by_aag, names_refused_by_check, names_refused_by_parts}
use Rattle.sd_words.specs.Options.{names_refused_by_portfolio}
use Rattle.sd_words.specs.declared.options.OptionName.{OptionName}
use Rattle.sd_words.specs.declared.options.OptionName.TheVariants as option
use Rattle.sd_words.specs.declared.faults.WordsFault.{WordsFault}
use Rattle.sd_words.specs.declared.faults.WordsFault.TheVariants as fault

-- the text of a fault of the words
abbrev pub words_fault_text : WordsFault → List ℕ
words_fault_text fault.Usage = codes "usage"
words_fault_text fault.NoInput = codes "no input"
words_fault_text fault.TwoInputs = codes "two inputs"
words_fault_text fault.TwoVtrees = codes "two vtrees"
words_fault_text (fault.NumberRange option) = codes "number out of range: --" ++ word_of option
words_fault_text (fault.WithScript option) = codes "not with --script: --" ++ word_of option
words_fault_text (fault.FileTwice name) = codes "file named twice: " ++ name
words_fault_text fault.StartUnknown = codes "start unknown"
words_fault_text (fault.EmptyName option) = codes "empty name: --" ++ word_of option
words_fault_text fault.WorkersAlone = codes "workers without work"
words_fault_text (fault.WithParts option) = codes "not with --parts: --" ++ word_of option
words_fault_text (fault.WithPortfolio option) = codes "not with --portfolio: --" ++ word_of option
words_fault_text (fault.WithAag option) = codes "not with --aag: --" ++ word_of option
words_fault_text (fault.WithCheck option) = codes "not with --check: --" ++ word_of option
words_fault_text fault.NoVtree = codes "no vtree"
words_fault_text fault.OutOfMemory = []

-- ---- for the contracts of private functions, and for proofs

-- the fault, where the test says so
abbrev pub fault_where : Bool → WordsFault → Option WordsFault
fault_where test f = if test then Some f else None

-- the fault of the first option of a list that passes the test
abbrev pub fault_at_first : (OptionName → Bool) → List OptionName → (OptionName → WordsFault)
    → Option WordsFault
fault_at_first test options fault = option_map fault (find test options)

-- two names that are there are the same bytes
abbrev pub same_name : Option Text → Option Text → Option WordsFault
same_name a b = option_and_then (λ (x, y). fault_where (bytes_eq x y) (fault.FileTwice x)) (option_zip a b)

-- none of `--cnf`, `--dnf`, `--generate`, `--aag` and `--check` is there
unfoldable pub no_input : ParsedOptions → Option WordsFault
no_input parsed = fault_where (count_by (has_option parsed) inputs == 0) fault.NoInput

-- more than one of them is there
unfoldable pub two_inputs : ParsedOptions → Option WordsFault
two_inputs parsed = fault_where (nat_le 2 (count_by (has_option parsed) inputs)) fault.TwoInputs

-- both `--vtree` and `--start` are there
unfoldable pub two_vtrees : ParsedOptions → Option WordsFault
two_vtrees parsed = fault_where (has_option parsed (codes "vtree") && has_option parsed (codes "start")) fault.TwoVtrees

-- a number is not as it has to be; the first option is named
unfoldable pub number_range : ParsedOptions → Option WordsFault
number_range parsed =
    fault_at_first (λ o. has_bad_number parsed (word_of o)) number_option_names (λ o. fault.NumberRange o)

-- `--script` is there with an option that it stands in place of; the first is named
unfoldable pub with_script : ParsedOptions → Option WordsFault
with_script parsed =
    option_map (λ o. fault.WithScript o) (first_named_beside option.Script replaced_option_names parsed)

-- `--out-vtree` and `--out-sdd` name the same bytes
unfoldable pub file_twice : ParsedOptions → Option WordsFault
file_twice parsed = same_name (parsed (codes "out-vtree")) (parsed (codes "out-sdd"))

-- the value of `--start` is not `balanced`, `right` or `left`
unfoldable pub start_unknown : ParsedOptions → Option WordsFault
start_unknown parsed = fault_where (fails start_of (parsed (codes "start"))) fault.StartUnknown

-- the name of a file is empty; the first option is named
unfoldable pub empty_name : ParsedOptions → Option WordsFault
empty_name parsed = fault_at_first (has_that is_empty parsed) file_option_names (λ o. fault.EmptyName o)

-- `--workers` is there without `--parts` and without `--portfolio`
unfoldable pub workers_alone : ParsedOptions → Option WordsFault
workers_alone parsed = fault_where (has_option parsed (codes "workers")
    && not (has_option parsed (codes "parts") || has_option parsed (codes "portfolio"))) fault.WorkersAlone

-- `--parts` is there with an option that has no place beside it; the first is named
unfoldable pub with_parts : ParsedOptions → Option WordsFault
with_parts parsed =
    option_map (λ o. fault.WithParts o) (first_named_beside option.Parts names_refused_by_parts parsed)

-- the same of `--portfolio`
unfoldable pub with_portfolio : ParsedOptions → Option WordsFault
with_portfolio parsed =
    option_map (λ o. fault.WithPortfolio o) (first_named_beside option.Portfolio names_refused_by_portfolio parsed)

-- the same of `--aag`
unfoldable pub with_aag : ParsedOptions → Option WordsFault
with_aag parsed = option_map (λ o. fault.WithAag o) (first_named_beside option.Aag names_refused_by_aag parsed)

-- the same of `--check`
unfoldable pub with_check : ParsedOptions → Option WordsFault
with_check parsed = option_map (λ o. fault.WithCheck o) (first_named_beside option.Check names_refused_by_check parsed)

-- `--check` is there without `--vtree`
unfoldable pub no_vtree : ParsedOptions → Option WordsFault
no_vtree parsed =
    fault_where (has_option parsed (codes "check") && not (has_option parsed (codes "vtree"))) fault.NoVtree

-- those of options that have no place beside one another, or none alone
abbrev pub rows_beside : ParsedOptions → List (Option WordsFault)
rows_beside parsed = workers_alone parsed
    ∷ with_parts parsed
    ∷ with_portfolio parsed
    ∷ with_aag parsed
    ∷ with_check parsed
    ∷ no_vtree parsed
    ∷ []

-- all of them
abbrev pub rows : ParsedOptions → List (Option WordsFault)
rows parsed = no_input parsed
    ∷ two_inputs parsed
    ∷ two_vtrees parsed
    ∷ number_range parsed
    ∷ with_script parsed
    ∷ file_twice parsed
    ∷ start_unknown parsed
    ∷ empty_name parsed
    ∷ rows_beside parsed

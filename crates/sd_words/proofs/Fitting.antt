-- What holds of a job whose values no row refuses.
use Rattle.std.proofs.Common.{arith, ◌≡◌, ◌∙◌, ℕ, ◌≤◌, Bool, true, false, true≢false, refl, sym, ap, subst}
use Rattle.std.proofs.Common.{List, [], ◌∷◌, Option, Some, None, Ok, Err, is_some, option_map, codes}
use Rattle.std.specs.Prelude.{◌&&◌, ◌||◌, find, if◌then◌else◌, nat_le, not, option_and_then, unwrap_or}
use Rattle.std.specs.Bool.{then_some}
use Rattle.std.specs.Option.{option_map_or}
use Rattle.std.proofs.lemmas.Bool.{leb-true, and_parts}
use Rattle.clap.specs.Walk.{Text}
use Rattle.sd_base.specs.Numbers.{is_within, natural_to}
use Rattle.sd_words.specs.Command.{accepts, parsed_by}
use Rattle.sd_words.specs.Fitting.{FitsTogether, IsCheck, IsChosen, IsFormulaWord, IsInParts, IsOfCircuit}
use Rattle.sd_words.specs.JobOf.{first_some, job_of, job_of_parsed, tree_word_of, unless}
use Rattle.sd_words.specs.Numbers.{number_of_text, number_within}
use Rattle.sd_words.specs.Options.{names_refused_by_aag, names_refused_by_check, names_refused_by_parts}
use Rattle.sd_words.specs.Options.{names_refused_by_portfolio, word_of}
use Rattle.sd_words.specs.ParsedOptions.{ParsedOptions, first_named_beside, has_named}
use Rattle.sd_words.specs.Rows.{fault_where, no_vtree, rows, with_aag, with_check, with_parts, with_portfolio}
use Rattle.sd_words.specs.Rows.{workers_alone}
use Rattle.sd_words.specs.declared.faults.WordsFault.{WordsFault}
use Rattle.sd_words.specs.declared.faults.WordsFault.TheVariants as fault
use Rattle.sd_words.specs.declared.jobs.InputWord.{InputWord}
use Rattle.sd_words.specs.declared.jobs.InputWord.TheVariants as input
use Rattle.sd_words.specs.declared.jobs.Job.{Job}
use Rattle.sd_words.specs.declared.options.OptionName.{OptionName}
use Rattle.sd_words.specs.declared.options.OptionName.TheVariants as option
use Rattle.sd_words.proofs.JobLemmas.{job_of_rows}

-- ---- numbers

-- a number that is there is in its range
within_range : (least most n m : ℕ) → then_some (is_within least most n) n ≡ Some m → (least ≤ m) × (m ≤ most)
within_range least most n m = go (is_within least most n) refl
  where
    go : (b : Bool) → is_within least most n ≡ b → then_some b n ≡ Some m → (least ≤ m) × (m ≤ most)
    go true both_hold is =
        let same : n ≡ m = cc in
        let parts = and_parts (nat_le least n) (nat_le n most) both_hold in
        subst (λ (k : ℕ). (least ≤ k) × (k ≤ most)) same (leb-true least n parts.0, leb-true n most parts.1)
    go false both_hold is = let bad : ⊥ = cc in absurd bad

pub in_range_number : (least most : ℕ) (text : Text) (m : ℕ) → number_within least most text ≡ Some m
    → (least ≤ m) × (m ≤ most)
in_range_number least most text m = go (natural_to 10 text)
  where
    go : (n : Option ℕ) → option_and_then (λ n. then_some (is_within least most n) n) n ≡ Some m
        → (least ≤ m) × (m ≤ most)
    go (Some n) is = within_range least most n m is
    go None is = let bad : ⊥ = cc in absurd bad

-- the number of a value that is there
in_range_value : (least most : ℕ) (value : Option Text) (m : ℕ)
    → option_and_then (number_within least most) value ≡ Some m → (least ≤ m) × (m ≤ most)
in_range_value least most (Some text) m is = in_range_number least most text m is
in_range_value least most None m is = let bad : ⊥ = cc in absurd bad

-- or one that stands in its place
in_range_or : (least most other : ℕ) (value : Option Text) → least ≤ other → other ≤ most
    → (least ≤ unwrap_or (option_and_then (number_within least most) value) other)
    × (unwrap_or (option_and_then (number_within least most) value) other ≤ most)
in_range_or least most other value low high = go (option_and_then (number_within least most) value) refl
  where
    go : (n : Option ℕ) → option_and_then (number_within least most) value ≡ n
        → (least ≤ unwrap_or n other) × (unwrap_or n other ≤ most)
    go (Some m) is = in_range_value least most value m is
    go None is = (low, high)

-- ---- what the rows say

-- none of the rows has a fault
abbrev AreClear : List (Option WordsFault) → Type 0
AreClear [] = Unit {0}
AreClear (row ∷ rest) = (row ≡ None) × AreClear rest

clear : (rows : List (Option WordsFault)) → first_some rows ≡ None → AreClear rows
clear [] is = tt
clear (None ∷ rest) is = (refl, clear rest is)
clear (Some f ∷ rest) is = let bad : ⊥ = cc in absurd bad

-- none of these options is there
abbrev AreAbsent : ParsedOptions → List OptionName → Type 0
AreAbsent parsed [] = Unit {0}
AreAbsent parsed (o ∷ rest) = (parsed (word_of o) ≡ None) × AreAbsent parsed rest

-- where none is found
absent : (parsed : ParsedOptions) (names : List OptionName) → find (has_named parsed) names ≡ None
    → AreAbsent parsed names
absent parsed [] is = tt
absent parsed (o ∷ rest) is = go (parsed (word_of o)) (absent parsed rest) is
  where
    go : (value : Option Text) → (find (has_named parsed) rest ≡ None → AreAbsent parsed rest)
        → (if is_some value then Some o else find (has_named parsed) rest) ≡ None
        → (value ≡ None) × AreAbsent parsed rest
    go None later is = (refl, later is)
    go (Some text) later is = let bad : ⊥ = cc in absurd bad

-- beside an option that is there none of these is
absent_beside : (parsed : ParsedOptions) (o : OptionName) (names : List OptionName)
    (refusal : OptionName → WordsFault) → option_map refusal (first_named_beside o names parsed) ≡ None
    → is_some (parsed (word_of o)) ≡ true → AreAbsent parsed names
absent_beside parsed o names refusal is there = absent parsed names (go (has_named parsed o) there _ is)
  where
    go : (b : Bool) → b ≡ true → (found : Option OptionName)
        → option_map refusal (if b then found else None) ≡ None → found ≡ None
    go true there None is = refl
    go true there (Some p) is = let bad : ⊥ = cc in absurd bad
    go false there found is = absurd (true≢false (sym there))

-- what would be refused is not there
not_there : (value : Option Text) → (is_some value ≡ true → ⊥) → value ≡ None
not_there None refused = refl
not_there (Some text) refused = absurd (refused refl)

-- nothing is not there
apart : (value : Option Text) → value ≡ None → is_some value ≡ true → ⊥
apart value is there = true≢false (sym there ∙ ap is_some is)

-- workers have work
no_workers : (workers parts starts : Option Text)
    → fault_where (is_some workers && not (is_some parts || is_some starts)) fault.WorkersAlone ≡ None
    → parts ≡ None → starts ≡ None → workers ≡ None
no_workers None parts starts row p s = refl
no_workers (Some text) None None row p s = let bad : ⊥ = cc in absurd bad
no_workers (Some text) None (Some x) row p s = let bad : ⊥ = cc in absurd bad
no_workers (Some text) (Some x) starts row p s = let bad : ⊥ = cc in absurd bad

-- a check has a vtree file
vtree_there : (check vtree : Option Text)
    → fault_where (is_some check && not (is_some vtree)) fault.NoVtree ≡ None → is_some check ≡ true
    → (file : Text) × (vtree ≡ Some file)
vtree_there check (Some file) row there = (file, refl)
vtree_there (Some text) None row there = let bad : ⊥ = cc in absurd bad
vtree_there None None row there = absurd (true≢false (sym there))

-- ---- the input

-- the input by the values
abbrev input_from : Option Text → Option Text → Option Text → Option Text → Option (ℕ × ℕ) → InputWord
input_from cnf dnf aag check numbers = option_map_or input.Cnf cnf (option_map_or input.Dnf dnf
    (option_map_or input.Aag aag (option_map_or input.Check check
    (option_map_or (λ g. input.Generate g.0 g.1) numbers (input.Generate 0 0)))))

-- it is a formula where neither a circuit nor a check is there
formula_word : (cnf dnf aag check : Option Text) (numbers : Option (ℕ × ℕ)) → aag ≡ None → check ≡ None
    → IsFormulaWord (input_from cnf dnf aag check numbers)
formula_word (Some file) dnf aag check numbers a c = tt
formula_word None (Some file) aag check numbers a c = tt
formula_word None None None None (Some g) a c = tt
formula_word None None None None None a c = tt
formula_word None None None (Some file) numbers a c = let bad : ⊥ = cc in absurd bad
formula_word None None (Some file) check numbers a c = let bad : ⊥ = cc in absurd bad

-- a circuit is that of a file that is there
circuit_there : (cnf dnf aag check : Option Text) (numbers : Option (ℕ × ℕ)) (file : Text)
    → input_from cnf dnf aag check numbers ≡ input.Aag file → is_some aag ≡ true
circuit_there (Some x) dnf aag check numbers file is = let bad : ⊥ = cc in absurd bad
circuit_there None (Some x) aag check numbers file is = let bad : ⊥ = cc in absurd bad
circuit_there None None (Some x) check numbers file is = refl
circuit_there None None None (Some x) numbers file is = let bad : ⊥ = cc in absurd bad
circuit_there None None None None (Some g) file is = let bad : ⊥ = cc in absurd bad
circuit_there None None None None None file is = let bad : ⊥ = cc in absurd bad

-- and so is what is checked
check_there : (cnf dnf aag check : Option Text) (numbers : Option (ℕ × ℕ)) (file : Text)
    → input_from cnf dnf aag check numbers ≡ input.Check file → is_some check ≡ true
check_there (Some x) dnf aag check numbers file is = let bad : ⊥ = cc in absurd bad
check_there None (Some x) aag check numbers file is = let bad : ⊥ = cc in absurd bad
check_there None None (Some x) check numbers file is = let bad : ⊥ = cc in absurd bad
check_there None None None (Some x) numbers file is = refl
check_there None None None None (Some g) file is = let bad : ⊥ = cc in absurd bad
check_there None None None None None file is = let bad : ⊥ = cc in absurd bad

-- ---- the job

-- a number that is not there
no_number : (word : Text) (value : Option Text) → value ≡ None → option_and_then (number_of_text word) value ≡ None
no_number word value is = ap (option_and_then (number_of_text word)) is

number_or : (word : Text) (value : Option Text) (other : ℕ) → value ≡ None
    → unwrap_or (option_and_then (number_of_text word) value) other ≡ other
number_or word value other is = ap (λ (n : Option ℕ). unwrap_or n other) (no_number word value is)

-- what the rows that tell of options beside one another say
record AreApart (parsed : ParsedOptions) : Type 0 where
  workers : workers_alone parsed ≡ None
  parts : with_parts parsed ≡ None
  portfolio : with_portfolio parsed ≡ None
  aag : with_aag parsed ≡ None
  check : with_check parsed ≡ None
  vtree : no_vtree parsed ≡ None

apart_rows : (parsed : ParsedOptions) → first_some (rows parsed) ≡ None → AreApart parsed
apart_rows parsed is =
    let late = (clear (rows parsed) is).1.1.1.1.1.1.1.1 in
    record {
      workers = late.0;
      parts = late.1.0;
      portfolio = late.1.1.0;
      aag = late.1.1.1.0;
      check = late.1.1.1.1.0;
      vtree = late.1.1.1.1.1.0;
    }

-- what makes it wrong that an option is there
refuted : (parsed : ParsedOptions) (o p : OptionName) → (is_some (parsed (word_of p)) ≡ true)
    → (is_some (parsed (word_of o)) ≡ true → parsed (word_of p) ≡ None) → parsed (word_of o) ≡ None
refuted parsed o p there none = not_there (parsed (word_of o)) (λ e. apart (parsed (word_of p)) (none e) there)

beside_aag : (parsed : ParsedOptions) → AreApart parsed → is_some (parsed (codes "aag")) ≡ true
    → AreAbsent parsed names_refused_by_aag
unfolding with_aag
beside_aag parsed rows there = absent_beside parsed option.Aag names_refused_by_aag _ rows.aag there

beside_check : (parsed : ParsedOptions) → AreApart parsed → is_some (parsed (codes "check")) ≡ true
    → AreAbsent parsed names_refused_by_check
unfolding with_check
beside_check parsed rows there = absent_beside parsed option.Check names_refused_by_check _ rows.check there

beside_parts : (parsed : ParsedOptions) → AreApart parsed → is_some (parsed (codes "parts")) ≡ true
    → AreAbsent parsed names_refused_by_parts
unfolding with_parts
beside_parts parsed rows there = absent_beside parsed option.Parts names_refused_by_parts _ rows.parts there

beside_portfolio : (parsed : ParsedOptions) → AreApart parsed → is_some (parsed (codes "portfolio")) ≡ true
    → AreAbsent parsed names_refused_by_portfolio
unfolding with_portfolio
beside_portfolio parsed rows there =
    absent_beside parsed option.Portfolio names_refused_by_portfolio _ rows.portfolio there

-- the option of a number that is there is there
has_value : (word : Text) (value : Option Text) (n : ℕ) → option_and_then (number_of_text word) value ≡ Some n
    → is_some value ≡ true
has_value word (Some text) n is = refl
has_value word None n is = let bad : ⊥ = cc in absurd bad

in_parts : (parsed : ParsedOptions) → AreApart parsed → (count : ℕ) → (job_of_parsed parsed).parts ≡ Some count
    → IsInParts (job_of_parsed parsed) count
unfolding job_of_parsed
in_parts parsed rows count is =
    let there = has_value (codes "parts") (parsed (codes "parts")) count is in
    let range = in_range_value 1 64 (parsed (codes "parts")) count is in
    let others = beside_parts parsed rows there in
    record {
      at_least_one = range.0;
      within_limit = range.1;
      formula = formula_word (parsed (codes "cnf")) (parsed (codes "dnf")) _ _ _
          (refuted parsed option.Aag option.Parts there (λ e. (beside_aag parsed rows e).1.0))
          (refuted parsed option.Check option.Parts there (λ e. (beside_check parsed rows e).1.1.1.1.1.1.1.1.1.1.1.0));
      script = others.0;
      every = no_number (codes "every") _ others.1.0;
    }

chosen : (parsed : ParsedOptions) → AreApart parsed → (job_of_parsed parsed).portfolio ≡ true
    → IsChosen (job_of_parsed parsed)
unfolding job_of_parsed
chosen parsed rows there =
    let others = beside_portfolio parsed rows there in
    record {
      formula = formula_word (parsed (codes "cnf")) (parsed (codes "dnf")) _ _ _
          (refuted parsed option.Aag option.Portfolio there (λ e. (beside_aag parsed rows e).1.1.0))
          (refuted parsed option.Check option.Portfolio there
          (λ e. (beside_check parsed rows e).1.1.1.1.1.1.1.1.1.1.1.1.1.0));
      tree = rw (others.0, others.1.0) refl;
      script = others.1.1.0;
      every = no_number (codes "every") _ others.1.1.1.0;
      parts = no_number (codes "parts") _ others.1.1.1.1.0;
    }

of_circuit : (parsed : ParsedOptions) → AreApart parsed → (file : Text)
    → (job_of_parsed parsed).input ≡ input.Aag file → IsOfCircuit (job_of_parsed parsed)
unfolding job_of_parsed workers_alone
of_circuit parsed rows file is =
    let others = beside_aag parsed rows
    (circuit_there (parsed (codes "cnf")) (parsed (codes "dnf")) (parsed (codes "aag")) _ _ file is) in
    record {
      every = no_number (codes "every") _ others.0;
      parts = no_number (codes "parts") _ others.1.0;
      workers = number_or (codes "workers") _ 1
          (no_workers (parsed (codes "workers")) _ _ rows.workers others.1.0 others.1.1.0);
      portfolio = ap is_some others.1.1.0;
    }

is_check : (parsed : ParsedOptions) → AreApart parsed → (file : Text)
    → (job_of_parsed parsed).input ≡ input.Check file → IsCheck (job_of_parsed parsed)
unfolding job_of_parsed no_vtree
is_check parsed rows file is =
    let there = check_there (parsed (codes "cnf")) (parsed (codes "dnf")) (parsed (codes "aag"))
    (parsed (codes "check")) _ file is in
    let vtree = vtree_there (parsed (codes "check")) (parsed (codes "vtree")) rows.vtree there in
    let others = beside_check parsed rows there in
    let behind = others.1.1.1.1.1.1.1 in
    record {
      tree_file = vtree.0;
      tree = ap (λ (v : Option Text). tree_word_of v (parsed (codes "start"))) vtree.1;
      script = others.1.1.1.1.0;
      out_vtree = others.1.1.1.1.1.0;
      out_sdd = others.1.1.1.1.1.1.0;
      minimise = no_number (codes "minimise") _ behind.0;
      every = no_number (codes "every") _ behind.1.0;
      slack = number_or (codes "slack") _ 200 behind.1.1.0;
      limit = number_or (codes "limit") _ 16777216 behind.1.1.1.0;
      parts = no_number (codes "parts") _ behind.1.1.1.1.0;
      workers = number_or (codes "workers") _ 1 behind.1.1.1.1.1.0;
      portfolio = ap is_some behind.1.1.1.1.1.1.0;
    }

workers_in_range : (parsed : ParsedOptions)
    → (1 ≤ (job_of_parsed parsed).workers) × ((job_of_parsed parsed).workers ≤ 16)
unfolding job_of_parsed
workers_in_range parsed = in_range_or 1 16 1 (parsed (codes "workers")) (omega arith) (omega arith)

parsed_fits : (parsed : ParsedOptions) → first_some (rows parsed) ≡ None → FitsTogether (job_of_parsed parsed)
parsed_fits parsed is =
    let rows = apart_rows parsed is in
    record {
      workers = workers_in_range parsed;
      parts = in_parts parsed rows;
      chosen = chosen parsed rows;
      circuit = of_circuit parsed rows;
      checked = is_check parsed rows;
    }

job_fits : (parsed : ParsedOptions) (job : Job) → unless (first_some (rows parsed)) (job_of_parsed parsed) ≡ Ok job
    → FitsTogether job
job_fits parsed job is = go (first_some (rows parsed)) refl is
  where
    go : (found : Option WordsFault) → first_some (rows parsed) ≡ found
        → unless found (job_of_parsed parsed) ≡ Ok job → FitsTogether job
    go (Some fault) first is = let bad : ⊥ = cc in absurd bad
    go None first is =
        let same : job_of_parsed parsed ≡ job = cc in
        subst (λ (j : Job). FitsTogether j) same (parsed_fits parsed first)

-- the job of words
pub job_fits_together : (words : List Text) (job : Job) → job_of words ≡ Ok job → FitsTogether job
job_fits_together words job is = by (accepts words) (sym (job_of_rows words) ∙ is)
  where
    by : (b : Bool) → (if b then unless (first_some (rows (parsed_by words))) (job_of_parsed (parsed_by words))
        else Err (codes "usage")) ≡ Ok job → FitsTogether job
    by true is = job_fits (parsed_by words) job is
    by false is = let bad : ⊥ = cc in absurd bad

-- The numbers of a generated formula are in their ranges where the words are a job.
use Rattle.std.proofs.Common.{◌≡◌, ℕ, Bool, true, false, List, [], ◌∷◌, Option, Some, None, Ok, Err, is_none}
use Rattle.std.proofs.Common.{refl, ap, subst, sym, ◌∙◌, arith, drop}
use Rattle.std.specs.Prelude.{codes, ◌==◌, option_map, option_and_then, if◌then◌else◌, is_some, count_by}
use Rattle.std.specs.Option.{option_map_or, option_zip}
use Rattle.std.specs.List.{after_first, before_first}
use Rattle.sd_formula.specs.Generated.{IsGenerable}
use Rattle.sd_words.specs.Command.{accepts, parsed_by}
use Rattle.sd_words.specs.Numbers.{count_and_seed}
use Rattle.sd_words.specs.ParsedOptions.{ParsedOptions, fails, has_bad_number}
use Rattle.sd_words.specs.JobOf.{job_of, job_of_parsed, input_of, first_some, unless}
use Rattle.sd_words.specs.Rows.{fault_where, rows, no_input, two_inputs, two_vtrees, number_range}
use Rattle.sd_words.proofs.Fitting.{in_range_number}
use Rattle.sd_words.proofs.JobLemmas.{job_of_rows}
use Rattle.sd_words.specs.declared.faults.WordsFault.{WordsFault}
use Rattle.sd_words.specs.declared.faults.WordsFault.TheVariants as words
use Rattle.sd_words.specs.declared.jobs.Job.{Job}
use Rattle.sd_words.specs.declared.jobs.InputWord.{InputWord}
use Rattle.sd_words.specs.declared.jobs.InputWord.TheVariants as input
use Rattle.sd_words.specs.declared.options.OptionName.{OptionName}
use Rattle.sd_words.specs.declared.options.OptionName.TheVariants as option

-- the numbers of a word, where it has any, give a formula
abbrev pub IsInRange : InputWord → Type 0
IsInRange (input.Generate count seed) = IsGenerable count seed
IsInRange word = Unit {0}

-- ---- two numbers

-- both numbers are there
both_there : (a b : Option ℕ) (p : ℕ × ℕ) → option_zip a b ≡ Some p → (a ≡ Some p.0) × (b ≡ Some p.1)
both_there (Some a) (Some b) p is =
    let same : (a, b) ≡ p = cc in (ap (λ (q : ℕ × ℕ). Some q.0) same, ap (λ (q : ℕ × ℕ). Some q.1) same)
both_there (Some a) None p is = let bad : ⊥ = cc in absurd bad
both_there None b p is = let bad : ⊥ = cc in absurd bad

-- the two numbers of a text give a formula
numbers_fit : (text : List ℕ) (p : ℕ × ℕ) → count_and_seed text ≡ Some p → IsGenerable p.0 p.1
numbers_fit text p is =
    let two = both_there _ _ p is in
    let count = in_range_number 3 1024 (before_first (λ byte. byte == 58) text) p.0 two.0 in
    let seed = in_range_number 0 4294967295 (after_first (λ byte. byte == 58) text) p.1 two.1 in
    record { at_least_three = count.0; within_limit = count.1; seed_fits = let e = seed.1 in omega arith }

-- ---- a job that no row refuses

-- a row of which none is the first
none_here : (row : Option WordsFault) (rows : List (Option WordsFault)) → first_some (row ∷ rows) ≡ None
    → (row ≡ None) × (first_some rows ≡ None)
none_here None rows is = (refl, is)
none_here (Some fault) rows is = let bad : ⊥ = cc in absurd bad

-- a list that begins with an option of a bad number is refused for it
first_fits : (b : Bool) (rest : Option OptionName)
    → option_map (λ o. words.NumberRange o) (if b then Some option.Generate else rest) ≡ None → b ≡ false
first_fits true rest is = let bad : ⊥ = cc in absurd bad
first_fits false rest is = refl

generate_reads : (parsed : ParsedOptions) → number_range parsed ≡ None
    → fails count_and_seed (parsed (codes "generate")) ≡ false
unfolding number_range
generate_reads parsed is = first_fits (has_bad_number parsed (codes "generate")) _ is

-- one of the five inputs is there
some_input : (parsed : ParsedOptions) → no_input parsed ≡ None
    → fault_where (count_by (λ (o : Option (List ℕ)). is_some o)
    (parsed (codes "cnf") ∷ parsed (codes "dnf") ∷ parsed (codes "generate") ∷ parsed (codes "aag")
    ∷ parsed (codes "check") ∷ []) == 0) words.NoInput ≡ None
unfolding no_input
some_input parsed is = is

-- the input of values that are there and read
input_fits : (cnf dnf numbers aag check : Option (List ℕ))
    → fault_where (count_by (λ (o : Option (List ℕ)). is_some o) (cnf ∷ dnf ∷ numbers ∷ aag ∷ check ∷ []) == 0)
    words.NoInput ≡ None
    → fails count_and_seed numbers ≡ false
    → IsInRange (option_map_or input.Cnf cnf (option_map_or input.Dnf dnf (option_map_or input.Aag aag
    (option_map_or input.Check check
    (option_map_or (λ g. input.Generate g.0 g.1) (option_and_then count_and_seed numbers) (input.Generate 0 0))))))
input_fits (Some file) dnf numbers aag check some reads = tt
input_fits None (Some file) numbers aag check some reads = tt
input_fits None None numbers (Some file) check some reads = tt
input_fits None None numbers None (Some file) some reads = tt
input_fits None None None None None some reads = let bad : ⊥ = cc in absurd bad
input_fits None None (Some text) None None some reads = go (count_and_seed text) refl reads
  where
    go : (read : Option (ℕ × ℕ)) → count_and_seed text ≡ read → is_none read ≡ false
        → IsInRange (option_map_or (λ g. input.Generate g.0 g.1) read (input.Generate 0 0))
    go (Some p) is there = numbers_fit text p is
    go None is there = let bad : ⊥ = cc in absurd bad

parsed_fits : (parsed : ParsedOptions) → first_some (rows parsed) ≡ None
    → IsInRange (input_of parsed)
parsed_fits parsed none =
    let first = none_here (no_input parsed) (drop 1 (rows parsed)) none in
    let second = none_here (two_inputs parsed) (drop 2 (rows parsed)) first.1 in
    let third = none_here (two_vtrees parsed) (drop 3 (rows parsed)) second.1 in
    let fourth = none_here (number_range parsed) (drop 4 (rows parsed)) third.1 in
    input_fits (parsed (codes "cnf")) (parsed (codes "dnf")) (parsed (codes "generate")) (parsed (codes "aag"))
    (parsed (codes "check"))
    (some_input parsed first.0) (generate_reads parsed fourth.0)

job_fits : (parsed : ParsedOptions) (job : Job) → unless (first_some (rows parsed)) (job_of_parsed parsed) ≡ Ok job
    → IsInRange job.input
unfolding job_of_parsed
job_fits parsed job is = go (first_some (rows parsed)) refl is
  where
    go : (found : Option WordsFault) → first_some (rows parsed) ≡ found
        → unless found (job_of_parsed parsed) ≡ Ok job → IsInRange job.input
    go (Some fault) first is = let bad : ⊥ = cc in absurd bad
    go None first is =
        let same : job_of_parsed parsed ≡ job = cc in
        subst (λ (j : Job). IsInRange j.input) same (parsed_fits parsed first)

-- the numbers of a job are in their ranges
pub in_range : (ws : List (List ℕ)) (job : Job) → job_of ws ≡ Ok job → IsInRange job.input
in_range ws job is = by (accepts ws) (sym (job_of_rows ws) ∙ is)
  where
    by : (b : Bool) → (if b then unless (first_some (rows (parsed_by ws))) (job_of_parsed (parsed_by ws))
        else Err (codes "usage")) ≡ Ok job → IsInRange job.input
    by true is = job_fits (parsed_by ws) job is
    by false is = let bad : ⊥ = cc in absurd bad

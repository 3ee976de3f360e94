-- How a reading that goes from check to check comes to the answer.
use Rattle.std.proofs.Common.{rules, ◌≡◌, ◌≢◌, ◌∙◌, ◌==◌, ap, sym, refl, inl, inr}
use Rattle.std.proofs.Common.{Bool, true, false, true≢false, List, [], ◌∷◌, drop}
use Rattle.std.proofs.Common.{None, Option, Result, Some, Ok, Err, is_none, is_some}
use Rattle.std.specs.Prelude.{ℕ, codes, count_by, find, if◌then◌else◌, map, not, option_and_then, option_map}
use Rattle.std.specs.Bool.{then_some}
use Rattle.std.specs.Str.{bytes_eq}
use Rattle.std.specs.List.{list_any}
use Rattle.std.specs.Option.{option_map_or, option_or}
use Rattle.std.specs.Result.{IsErrAnd}
use Rattle.std.proofs.lemmas.Bool.Decides.{nat_tests}
use Rattle.std.proofs.lemmas.Result.{err_from_is_err_and}
use Rattle.clap.specs.Walk.{Row, Text, is_empty, rows_of}
use Rattle.clap.specs.Kinds.{Kinds}
use Rattle.clap.specs.Matches.{found_of}
use Rattle.clap.specs.declared.parser.matches.ArgMatches.{ArgMatches}
use Rattle.sd_base.specs.Reading.{◌>>◌, fault_if, fault_for}
use Rattle.sd_words.specs.Command.{accepts, parsed_by, parsed_in, parsed_of, handed, rows_found, usage_faults}
use Rattle.sd_words.specs.ParsedOptions.{ParsedOptions, fails, first_named_beside, has_bad_number}
use Rattle.sd_words.specs.ParsedOptions.{has_named, has_option}
use Rattle.sd_words.specs.JobOf.{Answers, first_some, job_from, job_of, job_of_parsed, name_of_both, unless}
use Rattle.sd_words.specs.Options.{inputs, file_option_names, number_option_names, replaced_option_names, word_of}
use Rattle.sd_words.specs.Options.{names_refused_by_aag, names_refused_by_check, names_refused_by_parts}
use Rattle.sd_words.specs.Options.{names_refused_by_portfolio}
use Rattle.sd_words.specs.Rows.{empty_name, fault_where, file_twice, no_input, number_range, rows, same_name}
use Rattle.sd_words.specs.Rows.{words_fault_text, start_unknown, two_inputs, two_vtrees, with_script}
use Rattle.sd_words.specs.Rows.{no_vtree, with_aag, with_check, with_parts, with_portfolio, workers_alone}
use Rattle.sd_words.specs.declared.faults.WordsFault.{WordsFault}
use Rattle.sd_words.specs.declared.faults.WordsFault.TheVariants as fault
use Rattle.sd_words.specs.declared.jobs.Job.{Job}
use Rattle.sd_words.specs.declared.options.OptionName.{OptionName}
use Rattle.sd_words.specs.declared.options.OptionName.TheVariants as option

-- the first check of the code makes two tests of the table
pub first_two : (a b : Option WordsFault) (rest : List (Option WordsFault))
    → first_some (a ∷ b ∷ rest) ≡ first_some (option_or a b ∷ rest)
first_two None b rest = refl
first_two (Some f) b rest = refl

-- ---- the tests one by one, as rows of a table

-- a test, and then others
tested : (test : Bool) (f : WordsFault) (later : Result Job (List ℕ)) (others : List (Option WordsFault))
    (job : Job) → later ≡ unless (first_some others) job
    → (fault_if test (words_fault_text f) >> later) ≡ unless (first_some (fault_where test f ∷ others)) job
tested true f later others job is = refl
tested false f later others job is = is

-- the same of something that is looked for
looked_for : {A : Type 0} (fault : A → WordsFault) (found : Option A) (later : Result Job (List ℕ))
    (others : List (Option WordsFault)) (job : Job) → later ≡ unless (first_some others) job
    → (fault_for (λ x. words_fault_text (fault x)) found >> later)
    ≡ unless (first_some (option_map fault found ∷ others)) job
looked_for fault (Some x) later others job is = refl
looked_for fault None later others job is = is

-- ---- options by their words, and as the code names them

-- the first word that passes a test is that of the first option
first_word : (test : Text → Bool) (names : List OptionName)
    → find test (map word_of names) ≡ option_map word_of (find (λ o. test (word_of o)) names)
first_word test [] = refl
first_word test (o ∷ rest) = go (test (word_of o)) (first_word test rest)
  where
    go : (b : Bool) → find test (map word_of rest) ≡ option_map word_of (find (λ o. test (word_of o)) rest)
        → (if b then Some (word_of o) else find test (map word_of rest))
        ≡ option_map word_of (if b then Some o else find (λ o. test (word_of o)) rest)
    go true e = refl
    go false e = e

-- the same beside another
word_beside : (parsed : ParsedOptions) (o : OptionName) (names : List OptionName)
    → (if has_named parsed o then find (has_option parsed) (map word_of names) else None)
    ≡ option_map word_of (first_named_beside o names parsed)
word_beside parsed o names = go (has_named parsed o)
  where
    go : (b : Bool) → (if b then find (has_option parsed) (map word_of names) else None)
        ≡ option_map word_of (if b then find (has_named parsed) names else None)
    go true = first_word (has_option parsed) names
    go false = refl

-- a word that is looked for, as a row of the option that is
word_looked_for : (text : Text → List ℕ) (fault : OptionName → WordsFault) (words : Option Text)
    (found : Option OptionName) (later : Result Job (List ℕ)) (others : List (Option WordsFault)) (job : Job)
    → ((o : OptionName) → text (word_of o) ≡ words_fault_text (fault o)) → words ≡ option_map word_of found
    → later ≡ unless (first_some others) job
    → (fault_for text words >> later) ≡ unless (first_some (option_map fault found ∷ others)) job
word_looked_for text fault words found later others job texts same is =
    ap (λ (w : Option Text). fault_for text w >> later) same ∙ go found
  where
    go : (found : Option OptionName) → (fault_for text (option_map word_of found) >> later)
        ≡ unless (first_some (option_map fault found ∷ others)) job
    go (Some o) = ap (λ (t : List ℕ). Err t) (texts o)
    go None = is

-- ---- the rows

-- the name that both are is that of the fault
twice : (a b : Option Text) → option_map (λ x. fault.FileTwice x) (name_of_both a b) ≡ same_name a b
twice None b = refl
twice (Some x) None = refl
twice (Some x) (Some y) = go (bytes_eq x y)
  where
    go : (same : Bool) → option_map (λ x. fault.FileTwice x) (then_some same x) ≡ fault_where same (fault.FileTwice x)
    go true = refl
    go false = refl

-- the job, or the first fault of the rows
pub job_from_rows : (parsed : ParsedOptions)
    → job_from parsed ≡ unless (first_some (rows parsed)) (job_of_parsed parsed)
unfolding job_from no_input two_inputs two_vtrees number_range with_script file_twice start_unknown empty_name
    workers_alone with_parts with_portfolio with_aag with_check no_vtree
job_from_rows parsed =
    let job = job_of_parsed parsed in
    let vtree = parsed (codes "out-vtree") in
    let sdd = parsed (codes "out-sdd") in
    tested _ fault.NoInput _ (drop 1 (rows parsed)) job
    (tested _ fault.TwoInputs _ (drop 2 (rows parsed)) job
    (tested _ fault.TwoVtrees _ (drop 3 (rows parsed)) job
    (word_looked_for _ fault.NumberRange _ _ _ (drop 4 (rows parsed)) job (λ o. refl)
    (first_word (has_bad_number parsed) number_option_names)
    (word_looked_for _ fault.WithScript _ _ _ (drop 5 (rows parsed)) job (λ o. refl)
    (word_beside parsed option.Script replaced_option_names)
    (looked_for fault.FileTwice (name_of_both vtree sdd) _ (drop 6 (rows parsed)) job
    (tested _ fault.StartUnknown _ (drop 7 (rows parsed)) job
    (word_looked_for _ fault.EmptyName _ _ _ (drop 8 (rows parsed)) job (λ o. refl)
    (first_word (λ word. option_map_or is_empty (parsed word) false) file_option_names)
    (tested _ fault.WorkersAlone _ (drop 9 (rows parsed)) job
    (word_looked_for _ fault.WithParts _ _ _ (drop 10 (rows parsed)) job (λ o. refl)
    (word_beside parsed option.Parts names_refused_by_parts)
    (word_looked_for _ fault.WithPortfolio _ _ _ (drop 11 (rows parsed)) job (λ o. refl)
    (word_beside parsed option.Portfolio names_refused_by_portfolio)
    (word_looked_for _ fault.WithAag _ _ _ (drop 12 (rows parsed)) job (λ o. refl)
    (word_beside parsed option.Aag names_refused_by_aag)
    (word_looked_for _ fault.WithCheck _ _ _ (drop 13 (rows parsed)) job (λ o. refl)
    (word_beside parsed option.Check names_refused_by_check)
    (tested _ fault.NoVtree _ [] job refl))))))))
    ∙ ap (λ (f : Option WordsFault). unless (first_some (f ∷ drop 6 (rows parsed))) job) (twice vtree sdd))))))

-- a job that is accepted has the values in their places
pub job_where_accepted : (parsed : ParsedOptions) (job : Job) → job_from parsed ≡ Ok job → job ≡ job_of_parsed parsed
job_where_accepted parsed job is = go (first_some (rows parsed)) (sym (job_from_rows parsed) ∙ is)
  where
    go : (f : Option WordsFault) → unless f (job_of_parsed parsed) ≡ Ok job → job ≡ job_of_parsed parsed
    go (Some f) e = cc
    go None e = cc

-- the exit of a `?` at the first fault
pub refused : (parsed : ParsedOptions) (r : Result Job WordsFault) (f : WordsFault) → IsErrAnd r (λ e. e ≡ f)
    → first_some (rows parsed) ≡ Some f → Answers (job_from parsed) r
refused parsed r f is first =
    let p = err_from_is_err_and r is in
    rw (p.1, p.2) (inr (rw (job_from_rows parsed, first) refl))

-- and where memory ran out
pub ran_out : (parsed : ParsedOptions) (r : Result Job WordsFault) (f : WordsFault) → IsErrAnd r (λ e. e ≡ f)
    → f ≡ fault.OutOfMemory → Answers (job_from parsed) r
ran_out parsed r f is memory =
    let p = err_from_is_err_and r is in
    rw p.1 (inl (p.2 ∙ memory))

-- ---- what the checks leave for the job

not_refused : (b : Bool) (f : WordsFault) (next : Option WordsFault) → option_or (fault_where b f) next ≡ None
    → b ≡ false
not_refused true f next e = cc
not_refused false f next e = refl

-- where the count is not 0, one passes the test
counted : {X : Type 0} (test : X → Bool) (xs : List X) → (count_by test xs == 0) ≡ false
    → list_any test xs ≡ true
counted test [] some = absurd (true≢false some)
counted test (x ∷ xs) some = go (test x) refl (counted test xs)
  where
    go : (b : Bool) → test x ≡ b → ((count_by test xs == 0) ≡ false → list_any test xs ≡ true)
        → list_any test (x ∷ xs) ≡ true
    go true e rest = rw e refl
    go false e rest = rw e (rest (rw e at some))

-- an input is there
pub some_input : (parsed : ParsedOptions) → option_or (no_input parsed) (two_inputs parsed) ≡ None
    → list_any (has_option parsed) inputs ≡ true
unfolding no_input two_inputs
some_input parsed one = counted (has_option parsed) inputs (not_refused _ _ _ one)

-- a value that does not fail reads as something
pub some_reads : {T : Type 0} (read : Text → Option T) (value : Option Text) → fails read value ≡ false
    → is_some (option_and_then read value) ≡ is_some value
some_reads read None h = refl
some_reads read (Some text) h = go (read text) h
  where
    go : {T : Type 0} (o : Option T) → is_none o ≡ false → is_some o ≡ true
    go None h = absurd (true≢false h)
    go (Some x) h = refl

-- ---- the words

not_empty : (kinds : Kinds) → kinds ≢ [] → is_empty kinds ≡ false
not_empty [] some = absurd (some refl)
not_empty (k ∷ ks) some = search (rules, nat_tests)

by_test : (taken : Bool) (job : Result Job (List ℕ))
    → (fault_if (not taken) (codes "usage") >> job) ≡ (if taken then job else Err (codes "usage"))
by_test true job = refl
by_test false job = refl

-- the job of the words, where `clap` takes them
job_of_taken : (words : List Text)
    → job_of words ≡ (if accepts words then job_from (parsed_by words) else Err (codes "usage"))
unfolding job_of usage_faults
job_of_taken words = by_test (accepts words) (job_from (parsed_by words))

-- and by the rows
pub job_of_rows : (words : List Text)
    → job_of words ≡ (if accepts words
    then unless (first_some (rows (parsed_by words))) (job_of_parsed (parsed_by words)) else Err (codes "usage"))
job_of_rows words =
    job_of_taken words
    ∙ ap (λ (job : Result Job (List ℕ)). if accepts words then job else Err (codes "usage"))
    (job_from_rows (parsed_by words))

parsed_rows : (words : List Text) → parsed_by words ≡ parsed_in (rows_found (handed words))
unfolding parsed_by rows_found
parsed_rows words = refl

-- words that `clap` refuses are `Usage`
pub usage : (words all : List Text) → all ≡ handed words → usage_faults all ≢ [] → job_of words ≡ Err (codes "usage")
usage words all is some =
    job_of_taken words
    ∙ rw (not_empty (usage_faults (handed words)) (λ e. some (ap usage_faults is ∙ e))) refl

-- words that `clap` takes are their values' job
pub taken : (words : List Text) → usage_faults (handed words) ≡ [] → job_of words ≡ job_from (parsed_by words)
taken words none = job_of_taken words ∙ rw none refl

-- of others the answer goes by what the parse gave
pub accepted : (words all : List Text) (m : ArgMatches) → all ≡ handed words → usage_faults all ≡ []
    → rows_of (found_of m) ≡ rows_found all → job_of words ≡ job_from (parsed_of m)
unfolding parsed_of
accepted words all m is none found =
    taken words (ap usage_faults (sym is) ∙ none)
    ∙ ap job_from (parsed_rows words)
    ∙ ap (λ (rows : List Row). job_from (parsed_in rows)) (sym (found ∙ ap rows_found is))

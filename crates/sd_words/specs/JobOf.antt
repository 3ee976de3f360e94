-- The job that the words of a call stand for, or the text of the first fault in them.
use Rattle.std.specs.Prelude.{◌≡◌, ◌⊎◌, ℕ, false, not, ◌&&◌, ◌||◌, ◌==◌, nat_le, codes, List, ◌∷◌, ◌++◌}
use Rattle.std.specs.Prelude.{count_by, find}
use Rattle.std.specs.Prelude.{Result, Ok, Err, MatchResult, is_some, Option, Some, None, unwrap_or}
use Rattle.std.specs.Bool.{then_some}
use Rattle.std.specs.Option.{option_and_then, option_flatten, option_map_or, option_zip}
use Rattle.std.specs.Str.{bytes_eq}
use Rattle.clap.specs.Walk.{Text, is_empty}
use Rattle.sd_base.specs.Reading.{◌>>◌, fault_if, fault_for}
use Rattle.sd_words.specs.Command.{accepts, parsed_by}
use Rattle.sd_words.specs.ParsedOptions.{ParsedOptions, fails, first_beside, generated, has_bad_number}
use Rattle.sd_words.specs.ParsedOptions.{has_option, option_number, start_of}
use Rattle.sd_words.specs.Options.{files, inputs, number_options, refused_by_aag, refused_by_check}
use Rattle.sd_words.specs.Options.{refused_by_parts, refused_by_portfolio, replaced_by_script}
use Rattle.sd_words.specs.Rows.{words_fault_text}
use Rattle.sd_words.specs.declared.jobs.InputWord.{InputWord}
use Rattle.sd_words.specs.declared.jobs.InputWord.TheVariants as input
use Rattle.sd_words.specs.declared.jobs.TreeWord.{TreeWord}
use Rattle.sd_words.specs.declared.jobs.TreeWord.TheVariants as tree
use Rattle.sd_words.specs.declared.jobs.Job.{Job}
use Rattle.sd_words.specs.declared.faults.WordsFault.{WordsFault}
use Rattle.sd_words.specs.declared.faults.WordsFault.TheVariants as fault

-- the input, by the numbers of `--generate`; where none is there, the words were refused before
abbrev pub input_by : ParsedOptions → Option (ℕ × ℕ) → InputWord
input_by parsed numbers = option_map_or input.Cnf (parsed (codes "cnf"))
    (option_map_or input.Dnf (parsed (codes "dnf")) (option_map_or input.Aag (parsed (codes "aag"))
    (option_map_or input.Check (parsed (codes "check"))
    (option_map_or (λ g. input.Generate g.0 g.1) numbers (input.Generate 0 0)))))

-- the input that is there
abbrev pub input_of : ParsedOptions → InputWord
input_of parsed = input_by parsed (generated parsed)

-- the vtree, by the values of `--vtree` and `--start`
abbrev pub tree_word_of : Option Text → Option Text → TreeWord
tree_word_of vtree start = option_map_or tree.File vtree (unwrap_or (option_and_then start_of start) tree.Balanced)

-- The job, where nothing is refused. The vtree is that of `--vtree`, else the shape of `--start`, and balanced where
-- neither is there. Where they are not there, the slack is 200 percent, the limit 16,777,216, and the workers one.
unfoldable pub job_of_parsed : ParsedOptions → Job
job_of_parsed parsed = record {
  input = input_of parsed;
  tree = tree_word_of (parsed (codes "vtree")) (parsed (codes "start"));
  script = parsed (codes "script");
  out_vtree = parsed (codes "out-vtree");
  out_sdd = parsed (codes "out-sdd");
  minimise = option_number parsed (codes "minimise");
  every = option_number parsed (codes "every");
  slack = unwrap_or (option_number parsed (codes "slack")) 200;
  limit = unwrap_or (option_number parsed (codes "limit")) 16777216;
  parts = option_number parsed (codes "parts");
  workers = unwrap_or (option_number parsed (codes "workers")) 1;
  portfolio = has_option parsed (codes "portfolio");
}

-- the name that both are
abbrev pub name_of_both : Option Text → Option Text → Option Text
name_of_both a b = option_and_then (λ (x, y). then_some (bytes_eq x y) x) (option_zip a b)

-- the job, or the text of the first fault of options that have no place beside one another, or none alone
abbrev pub job_beside : ParsedOptions → Result Job (List ℕ)
job_beside parsed = do
  -- `--workers` is not there without `--parts` or `--portfolio`
  fault_if (has_option parsed (codes "workers")
      && not (has_option parsed (codes "parts") || has_option parsed (codes "portfolio")))
      (codes "workers without work")
  -- none of `--parts`, `--portfolio`, `--aag` and `--check` is there with an option that has no place beside it
  fault_for (λ word. codes "not with --parts: --" ++ word) (first_beside parsed (codes "parts") refused_by_parts)
  fault_for (λ word. codes "not with --portfolio: --" ++ word)
      (first_beside parsed (codes "portfolio") refused_by_portfolio)
  fault_for (λ word. codes "not with --aag: --" ++ word) (first_beside parsed (codes "aag") refused_by_aag)
  fault_for (λ word. codes "not with --check: --" ++ word) (first_beside parsed (codes "check") refused_by_check)
  -- `--check` is not there without `--vtree`
  fault_if (has_option parsed (codes "check") && not (has_option parsed (codes "vtree"))) (codes "no vtree")
  Ok (job_of_parsed parsed)

-- The job, or the text of the first fault of the values, as the line of the end has it. Where several options have the
-- same fault, the first is named.
unfoldable pub job_from : ParsedOptions → Result Job (List ℕ)
job_from parsed = do
  -- of `--cnf`, `--dnf`, `--generate`, `--aag` and `--check` one is there
  fault_if (count_by (has_option parsed) inputs == 0) (codes "no input")
  fault_if (nat_le 2 (count_by (has_option parsed) inputs)) (codes "two inputs")
  -- `--vtree` and `--start` are not both there
  fault_if (has_option parsed (codes "vtree") && has_option parsed (codes "start")) (codes "two vtrees")
  -- each number is as it has to be
  fault_for (λ word. codes "number out of range: --" ++ word) (find (has_bad_number parsed) number_options)
  -- `--script` is not there with an option that it stands in place of
  fault_for (λ word. codes "not with --script: --" ++ word) (first_beside parsed (codes "script") replaced_by_script)
  -- `--out-vtree` and `--out-sdd` do not name the same bytes
  fault_for (λ name. codes "file named twice: " ++ name)
      (name_of_both (parsed (codes "out-vtree")) (parsed (codes "out-sdd")))
  -- the value of `--start` is `balanced`, `right` or `left`
  fault_if (fails start_of (parsed (codes "start"))) (codes "start unknown")
  -- no name of a file is empty
  fault_for (λ word. codes "empty name: --" ++ word) (find (λ word. option_map_or is_empty (parsed word) false) files)
  -- each stands beside what has to be there, and beside nothing that it is refused with
  job_beside parsed

-- the same of the words, where `clap` finds nothing wrong with them behind the program's name
unfoldable pub job_of : List Text → Result Job (List ℕ)
job_of words = do
  fault_if (not (accepts words)) (codes "usage")
  job_from (parsed_by words)

-- the result is this answer, where a fault has its text, or memory ran out
abbrev pub Answers : {T : Type 0} → Result T (List ℕ) → Result T WordsFault → Type 0
Answers answer result = MatchResult result (λ x. answer ≡ Ok x)
    (λ f. (f ≡ fault.OutOfMemory) ⊎ (answer ≡ Err (words_fault_text f)))

-- ---- for the contracts of private functions, and for proofs

-- the first fault of a list that is there
abbrev pub first_some : List (Option WordsFault) → Option WordsFault
first_some faults = option_flatten (find is_some faults)

-- the text of the fault, or where there is none the value
abbrev pub unless : {T : Type 0} → Option WordsFault → T → Result T (List ℕ)
unless (Some f) _ = Err (words_fault_text f)
unless None x = Ok x

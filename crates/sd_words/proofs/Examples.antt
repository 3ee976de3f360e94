-- Words that are written out, and the answer that the definition gives: it computes.
use Rattle.std.proofs.Common.{◌≡◌, refl, true, false, List, [], ◌∷◌, Ok, Err, codes, None, Some}
use Rattle.std.specs.Prelude.{⊤}
use Rattle.clap.specs.Walk.{Text}
use Rattle.clap.proofs.OnLiterals.{clap_on_literals}
use Rattle.sd_words.specs.Command.{parsed_by, sddc, usage_faults}
use Rattle.sd_words.specs.JobOf.{job_from, job_of_parsed, job_of}
use Rattle.sd_words.specs.Ordinary.{Setting, can_stand_apart}
use Rattle.sd_words.specs.declared.jobs.InputWord.TheVariants as input
use Rattle.sd_words.specs.declared.jobs.Job.{Job}
use Rattle.sd_words.specs.declared.jobs.TreeWord.TheVariants as tree
use Rattle.sd_words.specs.declared.options.OptionName.TheVariants as option
use Rattle.sd_words.proofs.OrdinaryLaw.{ordinary_values_kept}

-- all that has to unfold for the words of an example
unfoldable job_on_literals : ⊤
unfolding clap_on_literals job_of usage_faults parsed_by sddc job_from job_of_parsed
job_on_literals = tt

no_words : job_of [] ≡ Err (codes "no input")
unfolding job_on_literals
no_words = refl

two : job_of (codes "--cnf" ∷ codes "a" ∷ codes "--dnf" ∷ codes "b" ∷ []) ≡ Err (codes "two inputs")
unfolding job_on_literals
two = refl

limit_zero : job_of (codes "--cnf" ∷ codes "a" ∷ codes "--limit" ∷ codes "0" ∷ [])
    ≡ Err (codes "number out of range: --limit")
unfolding job_on_literals
limit_zero = refl

beside_script : job_of (codes "--cnf" ∷ codes "a" ∷ codes "--script" ∷ codes "s" ∷ codes "--minimise" ∷ codes "2" ∷ [])
    ≡ Err (codes "not with --script: --minimise")
unfolding job_on_literals
beside_script = refl

unknown_option : job_of (codes "--cnf" ∷ codes "a" ∷ codes "--colour" ∷ codes "x" ∷ []) ≡ Err (codes "usage")
unfolding job_on_literals
unknown_option = refl

option_twice : job_of (codes "--cnf" ∷ codes "a" ∷ codes "--cnf" ∷ codes "b" ∷ []) ≡ Err (codes "usage")
unfolding job_on_literals
option_twice = refl

dashed_value : job_of (codes "--cnf" ∷ codes "-a" ∷ []) ≡ Err (codes "usage")
unfolding job_on_literals
dashed_value = refl

-- an option is refused beside another, the first in its order
first_of_five : job_of (codes "--cnf" ∷ codes "a" ∷ codes "--portfolio" ∷ codes "--every" ∷ codes "2"
    ∷ codes "--start" ∷ codes "left" ∷ []) ≡ Err (codes "not with --portfolio: --start")
unfolding job_on_literals
first_of_five = refl

-- parts come before starts
parts_first : job_of (codes "--cnf" ∷ codes "a" ∷ codes "--parts" ∷ codes "2" ∷ codes "--portfolio"
    ∷ codes "--script" ∷ codes "s" ∷ []) ≡ Err (codes "not with --parts: --script")
unfolding job_on_literals
parts_first = refl

workers_without_work : job_of (codes "--cnf" ∷ codes "a" ∷ codes "--workers" ∷ codes "2" ∷ [])
    ≡ Err (codes "workers without work")
unfolding job_on_literals
workers_without_work = refl

checked_without_vtree : job_of (codes "--check" ∷ codes "a" ∷ []) ≡ Err (codes "no vtree")
unfolding job_on_literals
checked_without_vtree = refl

-- a flag takes no value
flag_with_value : job_of (codes "--cnf" ∷ codes "a" ∷ codes "--portfolio=true" ∷ []) ≡ Err (codes "usage")
unfolding job_on_literals
flag_with_value = refl

-- with all that is there where nothing is said
generated_formula : job_of (codes "--generate" ∷ codes "4:0" ∷ []) ≡ Ok (record {
  input = input.Generate 4 0;
  tree = tree.Balanced;
  script = None;
  out_vtree = None;
  out_sdd = None;
  minimise = None;
  every = None;
  slack = 200;
  limit = 16777216;
  parts = None;
  workers = 1;
  portfolio = false;
})
unfolding job_on_literals
generated_formula = refl

-- ---- of any names, by the law of ordinary words

-- an input and an output, each in a word of its own
abbrev in_and_out : Text → Text → List Setting
in_and_out file out =
    record { option = option.Cnf; value = file; is_attached = false }
    ∷ record { option = option.OutSdd; value = out; is_attached = false } ∷ []

-- where such words are accepted, the job has the two names and what is there where nothing is said
any_names : (file out : Text) (job : Job) → can_stand_apart file ≡ true → can_stand_apart out ≡ true
    → job_of (codes "--cnf" ∷ file ∷ codes "--out-sdd" ∷ out ∷ []) ≡ Ok job
    → job ≡ record {
      input = input.Cnf file;
      tree = tree.Balanced;
      script = None;
      out_vtree = None;
      out_sdd = Some out;
      minimise = None;
      every = None;
      slack = 200;
      limit = 16777216;
      parts = None;
      workers = 1;
      portfolio = false;
    }
unfolding job_of_parsed
any_names file out job apart other named =
    ordinary_values_kept (in_and_out file out) _ job
    (record { once = refl; spelled = rw (apart, other) refl; written = refl }) named

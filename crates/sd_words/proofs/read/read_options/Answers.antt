-- Each exit is the fault of the first test that fails, since the checks before it found none.
use Rattle.std.proofs.Common.{◌∙◌, codes, is_some, Ok, ap, inl, inr, refl, sym}
use Rattle.sd_words.specs.Command.{parsed_of}
use Rattle.sd_words.specs.Numbers.{count_and_seed}
use Rattle.sd_words.specs.declared.jobs.Job.{Job}
use Rattle.sd_words.proofs.JobLemmas.{first_two, job_from_rows, ran_out, refused, some_reads, some_input}
use Rattle.sd_words.proofs.read.read_options.Goals as goal

pub returns-in_err-check_inputs : goal.returns-in_err-check_inputs
returns-in_err-check_inputs c =
    refused _ _ _ c.from_residual.ensures.1 (rw (first_two, c.in_err-check_inputs.ensures) refl)

pub returns-in_err-check_vtrees : goal.returns-in_err-check_vtrees
returns-in_err-check_vtrees c =
    refused _ _ _ c.from_residual-in_err-check_vtrees.ensures.1
    (rw (first_two, c.in_ok-check_inputs.ensures, c.in_err-check_vtrees.ensures) refl)

pub returns-in_err-numbers : goal.returns-in_err-numbers
returns-in_err-numbers c =
    refused _ _ _ c.from_residual-in_err-numbers.ensures.1
    (rw (
      first_two,
      c.in_ok-check_inputs.ensures,
      c.in_ok-check_vtrees.ensures,
      c.in_err-numbers.ensures.range,
    ) refl)

pub returns-in_err-check_script : goal.returns-in_err-check_script
returns-in_err-check_script c =
    refused _ _ _ c.from_residual-in_err-check_script.ensures.1
    (rw (
      first_two,
      c.in_ok-check_inputs.ensures,
      c.in_ok-check_vtrees.ensures,
      c.in_ok-numbers.ensures.range,
      c.in_err-check_script.ensures,
    ) refl)

-- the fault holds a name, for which memory may run out
pub returns-in_err-check_outputs : goal.returns-in_err-check_outputs
returns-in_err-check_outputs c = elim c.in_err-check_outputs.ensures [
  | inl memory ↦ ran_out _ _ _ c.from_residual-in_err-check_outputs.ensures.1 memory
  | inr twice ↦ refused _ _ _ c.from_residual-in_err-check_outputs.ensures.1
      (rw (
        first_two,
        c.in_ok-check_inputs.ensures,
        c.in_ok-check_vtrees.ensures,
        c.in_ok-numbers.ensures.range,
        c.in_ok-check_script.ensures,
        twice,
      ) refl)
]

pub returns-in_err-start : goal.returns-in_err-start
returns-in_err-start c =
    refused _ _ _ c.from_residual-in_err-start.ensures.1
    (rw (
      first_two,
      c.in_ok-check_inputs.ensures,
      c.in_ok-check_vtrees.ensures,
      c.in_ok-numbers.ensures.range,
      c.in_ok-check_script.ensures,
      c.in_ok-check_outputs.ensures,
      c.in_err-start.ensures.unknown,
    ) refl)

pub returns-in_err-check_names : goal.returns-in_err-check_names
returns-in_err-check_names c =
    refused _ _ _ c.from_residual-in_err-check_names.ensures.1
    (rw (
      first_two,
      c.in_ok-check_inputs.ensures,
      c.in_ok-check_vtrees.ensures,
      c.in_ok-numbers.ensures.range,
      c.in_ok-check_script.ensures,
      c.in_ok-check_outputs.ensures,
      c.in_ok-start.ensures.unknown,
      c.in_err-check_names.ensures,
    ) refl)

pub returns-in_err-check_beside : goal.returns-in_err-check_beside
returns-in_err-check_beside c =
    refused _ _ _ c.from_residual-in_err-check_beside.ensures.1
    (rw (
      first_two,
      c.in_ok-check_inputs.ensures,
      c.in_ok-check_vtrees.ensures,
      c.in_ok-numbers.ensures.range,
      c.in_ok-check_script.ensures,
      c.in_ok-check_outputs.ensures,
      c.in_ok-start.ensures.unknown,
      c.in_ok-check_names.ensures,
    ) c.in_err-check_beside.ensures)

pub job-requires-clause-input : goal.job-requires-clause-input
job-requires-clause-input c = some_input (parsed_of c.args.options.now) c.in_ok-check_inputs.ensures

pub job-requires-clause-generated : goal.job-requires-clause-generated
job-requires-clause-generated c =
    ap is_some c.in_ok-numbers.ensures.numbers.generated
    ∙ some_reads count_and_seed (parsed_of c.args.options.now (codes "generate")) c.in_ok-numbers.ensures.readable

-- no check found a fault, so the answer is the job
pub returns : goal.returns
returns c =
    rw (
      job_from_rows (parsed_of c.args.options.now),
      first_two,
      c.in_ok-check_inputs.ensures,
      c.in_ok-check_vtrees.ensures,
      c.in_ok-numbers.ensures.range,
      c.in_ok-check_script.ensures,
      c.in_ok-check_outputs.ensures,
      c.in_ok-start.ensures.unknown,
      c.in_ok-check_names.ensures,
      c.in_ok-check_beside.ensures,
    ) (ap (λ (j : Job). Ok j) (sym c.in_ok-job.ensures))

-- Out of memory, a refusal of `clap`, or the answer of the checks; each is also one at ordinary words.
use Rattle.std.proofs.Common.{◌≡◌, ◌∙◌, ap, inl, inr, map, string_bytes, sym, Err}
use Rattle.std.specs.Borrow.{Bor}
use Rattle.std.proofs.lemmas.Result.{err_from_is_err_and}
use Rattle.clap.specs.Walk.{Text}
use Rattle.sd_words.specs.Command.{handed}
use Rattle.sd_words.specs.JobOf.{Answers, job_of}
use Rattle.sd_words.specs.Rows.{words_fault_text}
use Rattle.sd_words.specs.declared.faults.WordsFault.{WordsFault}
use Rattle.sd_words.proofs.JobLemmas.{accepted, usage}
use Rattle.sd_words.proofs.OrdinaryLaw.{answers_ordinary}
use Rattle.sd_words.proofs.read.read_words.Goals as goal

pub returns-in_err-handed : goal.returns-in_err-handed
returns-in_err-handed c =
    let words = map string_bytes c.args.words.now in
    let r = c.from_residual.result in
    let p = err_from_is_err_and r c.from_residual.ensures.1 in
    let answer : Answers (job_of words) r = rw p.1 (inl p.2) in
    record { answer = answer; ordinary = answers_ordinary words r answer }

pub returns-in_err-options : goal.returns-in_err-options
returns-in_err-options c =
    let words = map string_bytes c.args.words.now in
    let all = map (λ (s : Bor Text). s.now) c.as_slice.result.now in
    let is : all ≡ handed words =
    ap (map (λ (s : Bor Text). s.now)) c.as_slice.ensures.value ∙ c.in_ok-handed.ensures in
    let r = c.from_residual-in_err-options.result in
    let p = err_from_is_err_and r c.from_residual-in_err-options.ensures.1 in
    let answer : Answers (job_of words) r = rw p.1 (elim c.in_err-options.ensures.refused [
      | inl memory ↦ inl (p.2 ∙ memory)
      | inr (is_usage, some) ↦
          inr (usage words all is some ∙ ap (λ (f : WordsFault). Err (words_fault_text f)) (sym (p.2 ∙ is_usage)))
    ]) in
    record { answer = answer; ordinary = answers_ordinary words r answer }

pub returns : goal.returns
returns c =
    let words = map string_bytes c.args.words.now in
    let all = map (λ (s : Bor Text). s.now) c.as_slice.result.now in
    let is : all ≡ handed words =
    ap (map (λ (s : Bor Text). s.now)) c.as_slice.ensures.value ∙ c.in_ok-handed.ensures in
    let options = c.in_ok-options in
    let by_values = accepted words all options.options is options.ensures.accepted options.ensures.found in
    let answer : Answers (job_of words) c.read_options.result = rw by_values c.read_options.ensures in
    record { answer = answer; ordinary = answers_ordinary words c.read_options.result answer }

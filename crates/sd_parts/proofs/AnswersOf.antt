-- Answers of the tasks that the parts of a formula are.
use Rattle.std.proofs.Common.{◌≡◌, ℕ, ◌≤◌, List, length, sym, subst, ◌∙◌}
use Rattle.std.specs.List.{AllZip}
use Rattle.std.proofs.lemmas.List.FromFn.{length-map-range_with_len}
use Rattle.std.proofs.lemmas.Slice.Zip.{AllZip-long}
use Rattle.sd_model.specs.Tree.{Tree}
use Rattle.sd_formula.specs.Dimacs.{Groups}
use Rattle.sd_parts.specs.Seen.{PartWork}
use Rattle.sd_parts.specs.Work.{AnswersPart, AreAnswers, part_work, parts_of}
use Rattle.sd_parts.specs.declared.part.PartAnswer.{PartAnswer}

-- the answers of all parts, in order, are what a join asks for
pub answers_of : (f : Groups) (t : Tree) (limit bound k : ℕ) (works : List PartWork) (answers : List PartAnswer) →
    1 ≤ k → k ≤ 64 → works ≡ parts_of f t limit bound k → AllZip AnswersPart works answers →
    AreAnswers f t limit answers
answers_of f t limit bound k works answers least most is h =
    let fits : AllZip AnswersPart (parts_of f t limit bound k) answers =
    subst (λ l. AllZip AnswersPart l answers) is h in
    let count : k ≡ length answers =
    sym (AllZip-long AnswersPart (parts_of f t limit bound k) answers fits
    ∙ length-map-range_with_len (part_work f t limit bound k) 0 k) in
    record {
      bound = bound;
      at_least_one = subst (λ n. 1 ≤ n) count least;
      at_most = subst (λ n. n ≤ 64) count most;
      each = subst (λ n. AllZip AnswersPart (parts_of f t limit bound n) answers) count fits;
    }

-- A new manager, a new cache, and the answers of the parts are what a join asks for.
use Rattle.std.proofs.Common.{◌≡◌, ◌==◌, ℕ, zero, suc, ◌≤◌, false, ◌∙◌, sym, ap, subst, arith}
use Rattle.std.specs.Prelude.{vec_len}
use Rattle.std.specs.List.{AllZip}
use Rattle.sd_model.specs.Seen.{tree_of}
use Rattle.sd_vtree.specs.Numbered.{plain_tree}
use Rattle.sd_manager.specs.Table.{Table}
use Rattle.sd_manager.specs.Marking.{AreUnmarked}
use Rattle.sd_manager.proofs.Marking.{unmarked_new}
use Rattle.sd_apply.proofs.Tried.{empty_serves}
use Rattle.sd_parts.specs.Work.{AnswersPart, AreAnswers}
use Rattle.sd_parts.proofs.Alone.{few_roots}
use Rattle.sd_parts.proofs.AnswersOf.{answers_of}
use Rattle.sd_worker_tests.proofs.joins.joined.Goals as goal

-- what is not 0
at_least_one : (n : ℕ) → (n == 0) ≡ false → 1 ≤ n
at_least_one zero h = absurd (cc (h))
at_least_one (suc n) h = omega arith

pub join_parts-requires-clause-room : goal.join_parts-requires-clause-room
join_parts-requires-clause-room g c =
    few_roots c.in_ok-m.m.roots (ap (λ (t : Table). t.roots) c.in_ok-m.ensures.ok)

pub join_parts-requires-clause-unmarked : goal.join_parts-requires-clause-unmarked
join_parts-requires-clause-unmarked g c =
    subst AreUnmarked (sym c.in_ok-m.ensures.ok) (unmarked_new c.in_ok-vtree.vtree c.min-most.result)

pub join_parts-requires-clause-serves : goal.join_parts-requires-clause-serves
join_parts-requires-clause-serves g c = empty_serves c.in_ok-c.c c.in_ok-m.m c.in_ok-c.ensures

pub join_parts-requires-clause-answers : goal.join_parts-requires-clause-answers
join_parts-requires-clause-answers g c =
    let f = c.args.f.now in
    let k = vec_len c.args.gates in
    let least = at_least_one k (sym c.is_empty.ensures ∙ c.if-is_empty.false) in
    let most : k ≤ 64 = omega (arith, c.if-len-gt64.false, c.len.ensures) in
    let zipped : AllZip AnswersPart c.in_ok-tasks.tasks.items c.deref.result.now =
    subst (AllZip AnswersPart c.in_ok-tasks.tasks.items) (sym c.deref.ensures.value) c.in_ok-answers.ensures in
    subst (λ t. AreAnswers f t c.args.limit c.deref.result.now)
    (sym (ap (λ (t : Table). plain_tree t.vtree) c.in_ok-m.ensures.ok ∙ sym c.in_ok-tree.ensures.tree))
    (answers_of f (tree_of c.in_ok-tree.tree) c.args.limit c.min-most.result k c.in_ok-tasks.tasks.items c.deref.result.now
    least most c.in_ok-tasks.ensures zipped)

use Rattle.std.proofs.Common.{◌≤◌, ◌/◌, ◌%◌, ◌==◌, ◌∙◌, sym, ap, subst, w32, rules}
use Rattle.std.proofs.lemmas.Int.{to_z-of_z}
use mir.Val.{SFits}
use Rattle.sd_manager.specs.Literals.{code_of_literal}
use Rattle.std.proofs.lemmas.Result.{IfOk-weaker}
use Rattle.sd_model.specs.Tree.{leaves}
use Rattle.sd_vtree.specs.Numbered.{plain_tree}
use Rattle.sd_cond.specs.Answers.{Conditions}
use Rattle.sd_cond.specs.Calls.{conditioned, AnswersOf}
use Rattle.sd_cond.proofs.Whole.{conditions, literal_low}
use Rattle.sd_cond.proofs.operations.given.Goals as goal

pub returns-clause-ok : goal.returns-clause-ok
returns-clause-ok c =
    let old = c.args.m.now in
    let new = c.given_cached.new.m in
    let code = c.literal-node.result in
    let range : SFits w32 c.args.literal = search rules in
    let e = c.literal-node.ensures.code
    ∙ ap code_of_literal (to_z-of_z w32 c.args.literal range) in
    let low = subst (λ n. 2 ≤ n) (sym e)
    (literal_low (leaves (plain_tree old.vtree)) c.args.literal c.requires.literal) in
    IfOk-weaker c.given_cached.result
    (λ r. AnswersOf old new (conditioned (code / 2) (code % 2 == 0)) c.args.a r)
    (λ r. Conditions old new c.args.a c.args.literal r)
    (λ r h. conditions old new c.given_cached.ensures.table c.args.a code r c.args.literal e low h)
    c.given_cached.ensures.ok

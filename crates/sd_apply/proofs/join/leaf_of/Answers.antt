use mir.Val.{SFits}
use Rattle.std.proofs.Common.{◌≡◌, ◌∙◌, sym, ap, subst, Some, ℕ, ℤ, ◌≤◌, unsigned_abs, rules, w32}
use Rattle.std.proofs.lemmas.Int.{to_z-of_z}
use Rattle.std.proofs.lemmas.Option.{same_Some}
use Rattle.sd_model.specs.Tree.{leaves}
use Rattle.sd_vtree.specs.Numbered.{variable_at, plain_tree}
use Rattle.sd_manager.specs.Shown.{ShowsCanonical}
use Rattle.sd_manager.specs.Literals.{code_of_literal}
use Rattle.sd_laws.proofs.Codes.{leaf_range}
use Rattle.sd_apply.proofs.JoiningWhole.{literal_place}
use Rattle.sd_apply.proofs.join.leaf_of.Goals as goal

pub leaf-requires-clause-positive : goal.leaf-requires-clause-positive
leaf-requires-clause-positive c =
    let t = c.args.m.now.vtree in
    let e = c.literal_at-literal.result in
    let p = c.requires.literals.placed c.args.index e c.literal_at-literal.ensures in
    let fits : SFits w32 e.1 = search rules in
    let same : c.unsigned_abs.result ≡ unsigned_abs e.1 =
    c.unsigned_abs.ensures.value ∙ ap unsigned_abs (to_z-of_z w32 e.1 fits) in
    let r = leaf_range (plain_tree t) c.vtree.ensures.table.numbered.vtree 0 (unsigned_abs e.1) e.0 p.position in
    subst (λ (n : ℕ). 1 ≤ n) (sym same) r.0

pub leaf-requires-clause-within : goal.leaf-requires-clause-within
leaf-requires-clause-within c =
    let t = c.args.m.now.vtree in
    let e = c.literal_at-literal.result in
    let p = c.requires.literals.placed c.args.index e c.literal_at-literal.ensures in
    let fits : SFits w32 e.1 = search rules in
    let same : c.unsigned_abs.result ≡ unsigned_abs e.1 =
    c.unsigned_abs.ensures.value ∙ ap unsigned_abs (to_z-of_z w32 e.1 fits) in
    let r = leaf_range (plain_tree t) c.vtree.ensures.table.numbered.vtree 0 (unsigned_abs e.1) e.0 p.position in
    subst (λ t. c.unsigned_abs.result ≤ leaves (plain_tree t)) (sym c.vtree.ensures.vtree)
    (subst (λ (n : ℕ). n ≤ leaves (plain_tree t)) (sym same) r.1)

pub returns-clause-place : goal.returns-clause-place
returns-clause-place c = λ f at d shown.
    let m = c.args.m.now in
    let e = c.literal_at-literal.result in
    let p = c.requires.literals.placed c.args.index e c.literal_at-literal.ensures in
    let fits : SFits w32 e.1 = search rules in
    let same : c.unsigned_abs.result ≡ unsigned_abs e.1 =
    c.unsigned_abs.ensures.value ∙ ap unsigned_abs (to_z-of_z w32 e.1 fits) in
    let is : f ≡ e = same_Some f e (sym at ∙ c.literal_at-literal.ensures) in
    literal_place m c.vtree.ensures.table c.leaf.result c.unsigned_abs.result e p (sym same)
    (subst (λ t. variable_at t c.leaf.result ≡ Some c.unsigned_abs.result) c.vtree.ensures.vtree c.leaf.ensures.leaf) d
    (subst (λ (k : ℕ × ℤ). ShowsCanonical m (code_of_literal k.1) d) is shown)

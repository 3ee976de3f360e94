use Rattle.std.proofs.Common.{◌≡◌, ◌∙◌, sym, ap, subst, arith, rules, w32, Some, slice_get, unsigned_abs}
use Rattle.std.proofs.lemmas.Int.{to_z-of_z}
use mir.Val.{SFits}
use Rattle.std.specs.FinMap.{get}
use Rattle.sd_model.specs.Tree.{leaves}
use Rattle.sd_vtree.specs.Numbered.{numbers, plain_tree, variable_at}
use Rattle.sd_manager.specs.Literals.{code_of_literal, IsLiteralTo}
use Rattle.sd_check.proofs.Judged.{literal_within, literal_to, literal_found, literal_misplaced}
use Rattle.sd_check.proofs.checker.judge_literal.Goals as goal

-- the variable is one of the vtree's
pub leaf-leaf-requires-clause-positive : goal.leaf-leaf-requires-clause-positive
leaf-leaf-requires-clause-positive c =
    let range : SFits w32 c.args.literal = search rules in
    let w = literal_within c.args.file.now c.args.index c.args.vtree c.args.literal c.requires.file c.requires.index
    c.requires.node in
    omega (arith, c.unsigned_abs.ensures.value, ap unsigned_abs (to_z-of_z w32 c.args.literal range), w.0)

pub leaf-leaf-requires-clause-within : goal.leaf-leaf-requires-clause-within
leaf-leaf-requires-clause-within c =
    let range : SFits w32 c.args.literal = search rules in
    let w = literal_within c.args.file.now c.args.index c.args.vtree c.args.literal c.requires.file c.requires.index
    c.requires.node in
    omega (
      arith,
      c.unsigned_abs.ensures.value,
      ap unsigned_abs (to_z-of_z w32 c.args.literal range),
      w.1,
      c.requires.variables,
      ap (λ v. leaves (plain_tree v)) c.vtree.ensures.vtree,
    )

pub literal-requires : goal.literal-requires
literal-requires c =
    let range : SFits w32 c.args.literal = search rules in
    let w = literal_within c.args.file.now c.args.index c.args.vtree c.args.literal c.requires.file c.requires.index
    c.requires.node in
    subst (IsLiteralTo (leaves (plain_tree c.args.m.now.vtree))) (sym (to_z-of_z w32 c.args.literal range))
    (literal_to (leaves (plain_tree c.args.m.now.vtree)) c.args.literal w.0 (omega (arith, w.1, c.requires.variables)))

-- at its leaf
pub returns-then-is_at : goal.returns-then-is_at
returns-then-is_at c =
    let range : SFits w32 c.args.literal = search rules in
    let same = to_z-of_z w32 c.args.literal range in
    literal_found c.args.m.now _ c.args.file.now c.args.index c.args.vtree c.position-own.result c.leaf-leaf.result
    c.literal.result c.args.literal c.vtree.ensures.table c.requires.file c.requires.index c.requires.node
    (subst (λ v. variable_at v c.leaf-leaf.result ≡ Some c.unsigned_abs.result) c.vtree.ensures.vtree
    c.leaf-leaf.ensures.leaf
    ∙ ap Some (c.unsigned_abs.ensures.value ∙ ap unsigned_abs same))
    (subst (λ v. slice_get (numbers v) c.position-own.result ≡ Some c.leaf-leaf.result) c.vtree-2.ensures.vtree
    c.position-own.ensures.position)
    (c.is_at.ensures.has c.if-is_at.true) (c.literal.ensures.code ∙ ap code_of_literal same)

-- elsewhere
pub returns-else-is_at : goal.returns-else-is_at
returns-else-is_at c =
    let range : SFits w32 c.args.literal = search rules in
    let same = to_z-of_z w32 c.args.literal range in
    literal_misplaced c.args.m.now (get c.args.ids.now) c.args.file.now c.args.index c.args.vtree c.position-own.result
    c.leaf-leaf.result c.args.literal c.vtree.ensures.table c.requires.node
    (subst (λ v. variable_at v c.leaf-leaf.result ≡ Some c.unsigned_abs.result) c.vtree.ensures.vtree
    c.leaf-leaf.ensures.leaf
    ∙ ap Some (c.unsigned_abs.ensures.value ∙ ap unsigned_abs same))
    (subst (λ v. slice_get (numbers v) c.position-own.result ≡ Some c.leaf-leaf.result) c.vtree-2.ensures.vtree
    c.position-own.ensures.position)
    (c.is_at.ensures.has_not c.if-is_at.false)

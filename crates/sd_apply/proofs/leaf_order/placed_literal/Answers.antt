use mir.Val.{SFits}
use Rattle.std.proofs.Common.{◌≡◌, ◌∙◌, sym, ap, subst, Some, slice_get, get_or, ℤ, pos, rules, w32}
use Rattle.std.proofs.lemmas.Int.{to_z-of_z}
use Rattle.std.proofs.lemmas.Option.{slice_get-get_or}
use Rattle.sd_model.specs.Tree.{leaves}
use Rattle.sd_vtree.specs.Numbered.{numbers, variable_at, plain_tree}
use Rattle.sd_vtree.proofs.Times.{one_place}
use Rattle.sd_vtree.proofs.Subtrees.{once_numbered}
use Rattle.sd_laws.specs.Parts.{leaf_position}
use Rattle.sd_laws.proofs.Leaves.{leaf_number}
use Rattle.sd_manager.specs.Literals.{IsLiteralTo}
use Rattle.sd_apply.proofs.LeafOrder.{literal_in}
use Rattle.sd_apply.proofs.leaf_order.placed_literal.Goals as goal

pub returns-clause-placed : goal.returns-clause-placed
returns-clause-placed c =
    let t = c.args.m.now.vtree in
    let v = c.vtree-vtree.ensures.table.numbered in
    let u = c.leaf.result in
    let x = c.unsigned_abs.result in
    let l = c.args.literals.now in
    let z = get_or l c.args.index (pos 0) in
    let fits : SFits w32 z = search rules in
    let there = slice_get-get_or l c.args.index (pos 0) c.requires.within in
    let leaf = subst (λ t. variable_at t u ≡ Some x) c.vtree-vtree.ensures.vtree c.leaf.ensures.leaf in
    let n = leaf_number t v u x leaf in
    let here = subst (λ t. slice_get (numbers t) c.position.result ≡ Some u) c.vtree-vtree.ensures.vtree
    c.position.ensures.position in
    let same = one_place (numbers t) u n.0 c.position.result (once_numbered t v u) n.1 here in
    record {
      literal = subst (λ (z : ℤ). IsLiteralTo (leaves (plain_tree t)) z) (sym (to_z-of_z w32 z fits))
          (literal_in (leaves (plain_tree t)) l c.requires.literals c.args.index z there);
      position = ap (leaf_position (plain_tree t) 0) (sym c.unsigned_abs.ensures.value) ∙ n.2 ∙ ap Some same;
    }

pub returns-clause-same : goal.returns-clause-same
returns-clause-same c =
    let l = c.args.literals.now in
    let z = get_or l c.args.index (pos 0) in
    let fits : SFits w32 z = search rules in
    slice_get-get_or l c.args.index (pos 0) c.requires.within ∙ ap Some (sym (to_z-of_z w32 z fits))

use Rattle.std.proofs.Common.{◌∙◌, sym, ap, refl}
use Rattle.sd_model.specs.Tree.{Leaf, Node}
use Rattle.sd_vtree.specs.Numbered.{children_at}
use Rattle.sd_vtree.proofs.Subtrees.{once_numbered}
use Rattle.sd_search.proofs.AlongPaths.{leaf_at}
use Rattle.sd_search.proofs.OneStep.{form_left, form_right, form_two}
use Rattle.sd_search.proofs.steps.steps_at.Goals as goal

pub returns-in_default-clause-steps : goal.returns-in_default-clause-steps
returns-in_default-clause-steps c path at =
    let num = c.vtree.ensures.table.numbered in
    let x = leaf_at c.args.m.now.vtree path c.args.place (once_numbered c.args.m.now.vtree num) at
    (c.in_default.ensures.children ∙ ap (λ t. children_at t c.args.place) c.vtree.ensures.vtree) in
    (Leaf x.0, x.1, refl)

pub returns-then-is_inner-clause-steps : goal.returns-then-is_inner-clause-steps
returns-then-is_inner-clause-steps c path at =
    let t = c.args.m.now.vtree in
    let k = form_left t path c.args.place c.in-Some.children.0 c.in-Some.children.1 c.vtree.ensures.table.numbered at
    (c.in-Some.ensures.children ∙ ap (λ v. children_at v c.args.place) c.vtree.ensures.vtree)
    (sym c.is_inner.ensures.inner ∙ c.if-is_inner.true) in
    (Node (Node k.0 k.1) k.2, k.3, refl)

pub returns-then-is_inner-2-clause-steps : goal.returns-then-is_inner-2-clause-steps
returns-then-is_inner-2-clause-steps c path at =
    let t = c.args.m.now.vtree in
    let k = form_right t path c.args.place c.in-Some.children.0 c.in-Some.children.1 c.vtree.ensures.table.numbered at
    (c.in-Some.ensures.children ∙ ap (λ v. children_at v c.args.place) c.vtree.ensures.vtree)
    (sym c.is_inner.ensures.inner ∙ c.if-is_inner.false) (sym c.is_inner-2.ensures.inner ∙ c.if-is_inner-2.true) in
    (Node (Leaf k.0) (Node k.1 k.2), k.3, refl)

pub returns-else-is_inner-2-clause-steps : goal.returns-else-is_inner-2-clause-steps
returns-else-is_inner-2-clause-steps c path at =
    let t = c.args.m.now.vtree in
    let k = form_two t path c.args.place c.in-Some.children.0 c.in-Some.children.1 c.vtree.ensures.table.numbered at
    (c.in-Some.ensures.children ∙ ap (λ v. children_at v c.args.place) c.vtree.ensures.vtree)
    (sym c.is_inner.ensures.inner ∙ c.if-is_inner.false) (sym c.is_inner-2.ensures.inner ∙ c.if-is_inner-2.false) in
    (Node (Leaf k.0) (Leaf k.1), k.2, refl)

use Rattle.std.proofs.Common.{◌≡◌, ℕ, ◌∙◌, sym, subst, arith, w32}
use Rattle.std.proofs.Common.{rules}
use Rattle.std.proofs.lemmas.Int.{to_z-of_z}
use Rattle.std.proofs.lemmas.Result.{IfOk-weaker}
use mir.Val.{SFits, to_z, of_z}
use Rattle.sd_model.specs.Tree.{leaves}
use Rattle.sd_vtree.specs.Numbered.{plain_tree}
use Rattle.sd_model.specs.Diagram.{Diagram, Elements, Decomposition, meaning}
use Rattle.sd_manager.specs.Shown.{ShowsCanonical}
use Rattle.sd_manager.specs.Literals.{IsLiteralTo}
use Rattle.sd_manager.proofs.Reading.{shown_has_node}
use Rattle.sd_manager.proofs.Evaluating.{literal_fits, children}
use Rattle.sd_manager.proofs.Evaluating.{chosen, all_passed}
use Rattle.sd_manager.proofs.values.+value.Goals as goal

pub value_at-view-requires : goal.value_at-view-requires
value_at-view-requires t c =
    shown_has_node c.args.m.now c.requires.table.numbered c.args.node c.requires.shown.0 c.requires.shown.1.shows

pub value_at-literal_value-requires : goal.value_at-literal_value-requires
value_at-literal_value-requires t c =
    let range : SFits w32 c.in-Literal.literal = search rules in
    subst (λ n. IsLiteralTo n (to_z w32 (of_z w32 c.in-Literal.literal))) (sym c.requires.assigned)
    (subst (IsLiteralTo (leaves (plain_tree c.args.m.now.vtree))) (sym (to_z-of_z w32 c.in-Literal.literal range))
    (literal_fits c.args.m.now c.requires.table c.in-Literal.literal c.requires.shown.0
    (c.in-Literal.ensures.shown c.requires.shown.0 c.requires.shown.1.shows)))

pub value_of_sub-value_at-requires : goal.value_of_sub-value_at-requires
value_of_sub-value_at-requires t c =
    let w = c.requires.shown in
    let k = children c.args.m.now c.args.node w.0 c.loop-index.index w.1 c.element-prime.result w.2
    c.element-prime.ensures.pair in (
      omega (arith, c.decreases, w.3, k.prime_depth),
      (
        c.requires.table,
        ((k.prime, k.prime_is, omega (arith, w.3, k.prime_depth)), (c.requires.assigned, c.loop-index.invariant.1)),
      ),
    )

pub value_of_sub-value_at-requires-then-branch : goal.value_of_sub-value_at-requires-then-branch
value_of_sub-value_at-requires-then-branch t c =
    let w = c.requires.shown in
    let k = children c.args.m.now c.args.node w.0 c.loop-index.index w.1 c.element-prime.result w.2
    c.element-prime.ensures.pair in (
      omega (arith, c.decreases, w.3, k.sub_depth),
      (
        c.requires.table,
        ((k.sub, k.sub_is, omega (arith, w.3, k.sub_depth)), (c.requires.assigned, c.in_ok-value_at.ensures.right)),
      ),
    )

pub value_of_sub-returns-then-branch-clause-value : goal.value_of_sub-returns-then-branch-clause-value
value_of_sub-returns-then-branch-clause-value t c =
    IfOk-weaker c.value_at-then-branch.result
    (λ v. (d : Diagram) → ShowsCanonical c.args.m.now c.element-prime.result.1 d → v ≡ meaning d c.args.assignment.now)
    (λ v. (p : ℕ) (es : Elements) → ShowsCanonical c.args.m.now c.args.node (Decomposition p es) →
    v ≡ meaning (Decomposition p es) c.args.assignment.now)
    (λ v sub p es h.
    let k = children c.args.m.now c.args.node p c.loop-index.index es c.element-prime.result h
    c.element-prime.ensures.pair in
    sub k.sub k.sub_is
    ∙ sym (chosen c.args.m.now c.requires.table c.args.node p c.loop-index.index es c.element-prime.result h
    c.element-prime.ensures.pair c.args.assignment.now k
    (sym (c.in_ok-value_at.ensures.value k.prime k.prime_is) ∙ c.if-branch.true)))
    c.value_at-then-branch.ensures.value

pub value_of_sub-returns-clause-value : goal.value_of_sub-returns-clause-value
value_of_sub-returns-clause-value t c = λ p es h.
    sym (all_passed c.args.m.now c.requires.table c.args.node p c.loop-index.index es h c.args.assignment.now
    c.loop-index.invariant.0 (omega (arith, c.requires.count)))

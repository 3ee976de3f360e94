use Rattle.std.proofs.Common.{sym, ap, subst, ◌∙◌, arith, w32}
use Rattle.std.proofs.Common.{rules}
use Rattle.std.proofs.lemmas.Int.{to_z-of_z}
use mir.Val.{SFits, to_z, of_z}
use Rattle.sd_model.specs.Tree.{leaves}
use Rattle.sd_vtree.specs.Numbered.{plain_tree}
use Rattle.sd_model.specs.Diagram.{meaning}
use Rattle.sd_laws.specs.Depth.{depth}
use Rattle.sd_manager.specs.Shown.{ShowsCanonical}
use Rattle.sd_manager.specs.Literals.{IsLiteralTo}
use Rattle.sd_manager.proofs.Reading.{shown_has_node}
use Rattle.sd_manager.proofs.Evaluating.{literal_fits, children, passed_none, passed_more}
use Rattle.sd_manager.proofs.Evaluating.{chosen, all_passed, count_is}
use Rattle.sd_manager.proofs.manager.Manager.+value_below.Goals as goal

pub view-requires : goal.view-requires
view-requires t c =
    shown_has_node c.args.self.now c.requires.table.numbered c.args.node c.requires.shown.0 c.requires.shown.1.shows

pub literal_value-requires : goal.literal_value-requires
literal_value-requires t c =
    let range : SFits w32 c.in-Literal.literal = search rules in
    subst (λ n. IsLiteralTo n (to_z w32 (of_z w32 c.in-Literal.literal))) (sym c.requires.values)
    (subst (IsLiteralTo (leaves (plain_tree c.args.self.now.vtree))) (sym (to_z-of_z w32 c.in-Literal.literal range))
    (literal_fits c.args.self.now c.requires.table c.in-Literal.literal c.requires.shown.0
    (c.in-Literal.ensures.shown c.requires.shown.0 c.requires.shown.1.shows)))

pub loop-index-init : goal.loop-index-init
loop-index-init t c = passed_none c.args.self.now c.args.node c.args.assignment.now

pub value_below-requires : goal.value_below-requires
value_below-requires t c =
    let w = c.in-Decomposition.ensures.shown c.requires.shown.0 c.requires.shown.1.shows in
    let is = subst (ShowsCanonical c.args.self.now c.args.node) w.2 c.requires.shown.1 in
    let k = children c.args.self.now c.args.node w.0 c.loop-index.index w.1 c.element-prime.result is
    c.element-prime.ensures.pair in (
      omega (arith, c.decreases, ap depth w.2, c.requires.shown.2, k.prime_depth),
      (
        c.requires.table,
        (
          (
            k.prime,
            k.prime_is,
            omega (
              arith,
              ap depth w.2,
              c.requires.shown.2,
              k.prime_depth,
            ),
          ),
          c.requires.values,
        ),
      ),
    )

pub value_below-requires-then-value_below : goal.value_below-requires-then-value_below
value_below-requires-then-value_below t c =
    let w = c.in-Decomposition.ensures.shown c.requires.shown.0 c.requires.shown.1.shows in
    let is = subst (ShowsCanonical c.args.self.now c.args.node) w.2 c.requires.shown.1 in
    let k = children c.args.self.now c.args.node w.0 c.loop-index.index w.1 c.element-prime.result is
    c.element-prime.ensures.pair in (
      omega (arith, c.decreases, ap depth w.2, c.requires.shown.2, k.sub_depth),
      (
        c.requires.table,
        (
          (k.sub, k.sub_is, omega (arith, ap depth w.2, c.requires.shown.2, k.sub_depth)),
          c.requires.values,
        ),
      ),
    )

pub returns-then-value_below : goal.returns-then-value_below
returns-then-value_below t c = λ d h.
    let w = c.in-Decomposition.ensures.shown d h.shows in
    let is = subst (ShowsCanonical c.args.self.now c.args.node) w.2 h in
    let k = children c.args.self.now c.args.node w.0 c.loop-index.index w.1 c.element-prime.result is
    c.element-prime.ensures.pair in
    c.value_below-then-value_below.ensures k.sub k.sub_is
    ∙ sym (chosen c.args.self.now c.requires.table c.args.node w.0 c.loop-index.index w.1 c.element-prime.result is
    c.element-prime.ensures.pair c.args.assignment.now k
    (sym (c.value_below.ensures k.prime k.prime_is) ∙ c.if-value_below.true))
    ∙ ap (λ x. meaning x c.args.assignment.now) (sym w.2)

pub loop-index-preserved : goal.loop-index-preserved
loop-index-preserved t c =
    passed_more c.args.self.now c.args.node c.loop-index.index c.args.assignment.now c.element-prime.result
    c.loop-index.invariant c.element-prime.ensures.pair
    (λ x h. sym (c.value_below.ensures x h) ∙ c.if-value_below.false)

pub returns : goal.returns
returns t c = λ d h.
    let w = c.in-Decomposition.ensures.shown d h.shows in
    let is = subst (ShowsCanonical c.args.self.now c.args.node) w.2 h in
    sym (ap (λ x. meaning x c.args.assignment.now) w.2
    ∙ all_passed c.args.self.now c.requires.table c.args.node w.0 c.loop-index.index w.1 is c.args.assignment.now
    c.loop-index.invariant
    (omega (
      arith,
      count_is c.args.self.now c.args.node c.in-Decomposition.place c.in-Decomposition.count w.0 w.1 is
          c.in-Decomposition.ensures.view,
    )))

use mir.Val.{SFits}
use Rattle.std.proofs.Common.{◌≡◌, ◌∙◌, sym, ap, subst, ℤ, ◌+◌, ◌-◌, rules, arith, w32}
use Rattle.std.proofs.lemmas.Int.{to_z-of_z}
use Rattle.sd_model.specs.Tree.{leaves}
use Rattle.sd_vtree.specs.Numbered.{plain_tree}
use Rattle.sd_manager.specs.Literals.{IsLiteralTo, code_of_literal}
use Rattle.sd_apply.specs.Calls.{Applies}
use Rattle.sd_apply.specs.GroupCalls.{IsGroupNode}
use Rattle.sd_apply.proofs.Steps.{at_on}
use Rattle.sd_apply.proofs.JoiningPlaces.{literals_on}
use Rattle.sd_apply.proofs.JoiningSteps.{group_next, literal_below}
use Rattle.sd_apply.proofs.join.literals_node.Goals as goal

-- the literal before the index is below the vtree node
pub literal-literal-requires : goal.literal-literal-requires
literal-literal-requires c =
    let e = c.literal_at.result in
    let fits : SFits w32 e.1 = search rules in
    let below = literals_on c.args.m.now c.loop-index.m c.loop-index.invariant.0.step.kept c.args.at c.args.from
    c.args.literals.now c.requires.literals in
    let b = below.each (c.loop-index.index - 1) e (omega (arith, c.loop-index-test.true)) c.literal_at.ensures in
    subst (λ (z : ℤ). IsLiteralTo (leaves (plain_tree c.loop-index.m.vtree)) z) (sym (to_z-of_z w32 e.1 fits)) b.literal

pub apply-requires-clause-a : goal.apply-requires-clause-a
apply-requires-clause-a c =
    let e = c.literal_at.result in
    let fits : SFits w32 e.1 = search rules in
    let below = literals_on c.args.m.now c.loop-index.m c.loop-index.invariant.0.step.kept c.args.at c.args.from
    c.args.literals.now c.requires.literals in
    let b = below.each (c.loop-index.index - 1) e (omega (arith, c.loop-index-test.true)) c.literal_at.ensures in
    literal_below c.loop-index.m c.args.at c.literal-literal.result e b
    (c.literal-literal.ensures.code ∙ ap code_of_literal (to_z-of_z w32 e.1 fits))

-- one literal more
pub loop-index-preserved : goal.loop-index-preserved
loop-index-preserved c =
    let e = c.literal_at.result in
    let fits : SFits w32 e.1 = search rules in
    let m = c.loop-index.m in
    let n = c.apply.new.m in
    let o = c.args.operation in
    let i = c.loop-index.index - 1 in
    let k = c.loop-index.invariant.0 in
    let below = literals_on c.args.m.now m k.step.kept c.args.at c.args.from c.args.literals.now c.requires.literals in
    let b = below.each i e (omega (arith, c.loop-index-test.true)) c.literal_at.ensures in
    let next : c.loop-index.index ≡ i + 1 = omega (arith, c.loop-index-test.true) in (
      record {
        step = at_on k.step c.apply.ensures.step;
        group = group_next m n c.apply.ensures.step.kept o c.requires.operation c.args.at i c.loop-index.node
            c.literal-literal.result c.in_ok-node.node c.args.literals.now e
            (subst (λ j. IsGroupNode m o c.args.at j c.args.literals.now c.loop-index.node) next k.group)
            c.literal_at.ensures b (c.literal-literal.ensures.code ∙ ap code_of_literal (to_z-of_z w32 e.1 fits))
            (subst (λ p. Applies m n p c.args.at c.literal-literal.result c.loop-index.node c.in_ok-node.node)
            c.between_literals.ensures c.in_ok-node.ensures.ok);
      },
      omega (arith, c.loop-index-test.true),
      omega (arith, c.loop-index.invariant.2),
    )

-- all of them are joined
pub returns-clause-ok : goal.returns-clause-ok
returns-clause-ok c =
    let same : c.loop-index.index ≡ c.args.from =
    omega (arith, c.loop-index-test.false, c.loop-index.invariant.1) in
    subst (λ j. IsGroupNode c.loop-index.m c.args.operation c.args.at j c.args.literals.now c.loop-index.node) same
    c.loop-index.invariant.0.group

pub returns-in_err-node-clause-step : goal.returns-in_err-node-clause-step
returns-in_err-node-clause-step c =
    at_on c.loop-index.invariant.0.step c.apply.ensures.step

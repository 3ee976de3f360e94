use Rattle.std.proofs.Common.{◌≡◌, ◌+◌, true, false, slice_get, option_map, Some, sym, subst}
use Rattle.std.proofs.lemmas.Result.{IfOk-weaker}
use Rattle.sd_model.specs.Expression.{Group, expression_value}
use Rattle.sd_apply.specs.Answers.{HasAnswer}
use Rattle.sd_manager.proofs.Extending.{extends_self}
use Rattle.sd_compile.specs.Joined.{JoinsLiterals}
use Rattle.sd_compile.specs.Compiling.{CompiledPrefix, prefix_of, HoldsPrefix}
use Rattle.sd_compile.proofs.Joining.{answer_node, prefix_node, group_at, prefix_passed, prefix_stays}
use Rattle.sd_compile.proofs.compiling.next_node.Goals as goal

pub stays_exclusive-requires-clause-node : goal.stays_exclusive-requires-clause-node
stays_exclusive-requires-clause-node c =
    let holds = subst (HoldsPrefix c.args.m.now c.args.f.now) (sym c.work.view_is) c.requires.holds in
    answer_node _ _ _
    (prefix_node (prefix_of c.args.f.now c.work.inside.groups) c.args.m.now c.args.m.now c.work.inside.root
    c.node_of-prefix.result (extends_self _) holds.1 c.node_of-prefix.ensures.held)

pub join_literals-requires-clause-node : goal.join_literals-requires-clause-node
join_literals-requires-clause-node c =
    let holds = subst (HoldsPrefix c.args.m.now c.args.f.now) (sym c.work.view_is) c.requires.holds in
    answer_node _ _ _
    (prefix_node (prefix_of c.args.f.now c.work.inside.groups) c.args.m.now c.args.m.now c.work.inside.root
    c.node_of-prefix.result (extends_self _) holds.1 c.node_of-prefix.ensures.held)

pub returns-clause-ok : goal.returns-clause-ok
returns-clause-ok c =
    let holds = subst (HoldsPrefix c.args.m.now c.args.f.now) (sym c.work.view_is) c.requires.holds in
    let old = c.args.m.now in
    let new = c.join_literals.new.m in
    IfOk-weaker c.join_literals.result
    (λ r. JoinsLiterals old new c.kind.result c.node_of-prefix.result c.group-literals.result.now r)
    (λ r. HasAnswer new (expression_value (prefix_of c.args.f.now (c.args.work.now.groups + 1))) r)
    (λ r joins.
    subst (λ (w : CompiledPrefix). HasAnswer new (expression_value (prefix_of c.args.f.now (w.groups + 1))) r)
    c.work.view_is
    (prefix_passed c.args.f.now old new c.work.inside.groups c.group-literals.result.now c.work.inside.root
    c.node_of-prefix.result r
    (group_at (slice_get c.args.f.now.groups c.work.inside.groups) false c.group-literals.result.now
    (subst
    (λ b. option_map (λ (g : Group). g.exclusive) (slice_get c.args.f.now.groups c.work.inside.groups) ≡ Some b)
    c.if-is_exclusive.false c.is_exclusive.ensures.value) c.group-literals.ensures.value) holds.1
    c.node_of-prefix.ensures.held
    (subst (λ k. JoinsLiterals old new k c.node_of-prefix.result c.group-literals.result.now r) c.kind.ensures
    joins))) c.join_literals.ensures.ok

pub returns-then-stays-clause-ok : goal.returns-then-stays-clause-ok
returns-then-stays-clause-ok c =
    let holds = subst (HoldsPrefix c.args.m.now c.args.f.now) (sym c.work.view_is) c.requires.holds in
    let t = c.args.m.now in
    let a = c.node_of-prefix.result in
    subst (λ (w : CompiledPrefix). HasAnswer t (expression_value (prefix_of c.args.f.now (w.groups + 1))) a)
    c.work.view_is
    (prefix_stays c.args.f.now t c.work.inside.groups c.group-literals.result.now c.work.inside.root
    c.node_of-prefix.result
    (group_at (slice_get c.args.f.now.groups c.work.inside.groups) true c.group-literals.result.now
    (subst
    (λ b. option_map (λ (g : Group). g.exclusive) (slice_get c.args.f.now.groups c.work.inside.groups) ≡ Some b)
    c.if-is_exclusive.true c.is_exclusive.ensures.value) c.group-literals.ensures.value)
    (c.is_exclusive.ensures.of_cnf c.if-is_exclusive.true) holds.1 c.node_of-prefix.ensures.held
    (c.in_ok-stays.ensures c.if-stays.true))

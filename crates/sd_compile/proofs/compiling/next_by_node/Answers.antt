use Rattle.std.proofs.Common.{◌+◌, ◌∙◌, slice_get, ap, sym, subst}
use Rattle.std.proofs.lemmas.Result.{IfOk-weaker}
use Rattle.sd_model.specs.Expression.{expression_value}
use Rattle.sd_apply.specs.Answers.{HasAnswer, Combines}
use Rattle.sd_compile.specs.Joined.{outer, inner}
use Rattle.sd_compile.specs.Compiling.{CompiledPrefix, prefix_of, HoldsPrefix}
use Rattle.sd_compile.proofs.Joining.{answer_node, prefix_node, group_at, prefix_more}
use Rattle.sd_compile.proofs.compiling.next_by_node.Goals as goal

pub connect-requires-clause-first : goal.connect-requires-clause-first
connect-requires-clause-first c =
    let holds = subst (HoldsPrefix c.args.m.now c.args.f.now) (sym c.work.view_is) c.requires.holds in
    answer_node _ _ _
    (prefix_node (prefix_of c.args.f.now c.work.inside.groups) c.args.m.now c.group_node.new.m c.work.inside.root
    c.node_of-prefix.result c.in_ok-group.ensures.kept holds.1 c.node_of-prefix.ensures.held)

pub returns-clause-ok : goal.returns-clause-ok
returns-clause-ok c =
    let holds = subst (HoldsPrefix c.args.m.now c.args.f.now) (sym c.work.view_is) c.requires.holds in
    IfOk-weaker c.connect.result
    (λ r. Combines c.group_node.new.m c.connect.new.m c.between_groups.result c.node_of-prefix.result
    c.in_ok-group.group r)
    (λ r. HasAnswer c.connect.new.m (expression_value (prefix_of c.args.f.now (c.args.work.now.groups + 1))) r)
    (λ r both.
    subst
    (λ (w : CompiledPrefix). HasAnswer c.connect.new.m (expression_value (prefix_of c.args.f.now (w.groups + 1))) r)
    c.work.view_is
    (prefix_more c.args.f.now c.args.m.now c.group_node.new.m c.connect.new.m c.between_groups.result
    c.within_group-within.result c.work.inside.groups
    (record { exclusive = c.is_exclusive.result; literals = c.group.result.now }) c.work.inside.root
    c.node_of-prefix.result c.in_ok-group.group r (c.between_groups.ensures ∙ ap outer c.kind-2.ensures)
    (c.within_group-within.ensures ∙ ap (λ k. inner k c.is_exclusive.result) c.kind.ensures)
    (group_at (slice_get c.args.f.now.groups c.work.inside.groups) c.is_exclusive.result c.group.result.now
    c.is_exclusive.ensures.value c.group.ensures.value) c.in_ok-group.ensures.kept holds.1
    c.node_of-prefix.ensures.held c.in_ok-group.ensures.ok both)) c.connect.ensures.ok

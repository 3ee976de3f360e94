use Rattle.std.proofs.Common.{◌+◌, ◌∙◌, sym, subst, arith}
use Rattle.std.proofs.lemmas.Grind.{get_or_default_zero}
use Rattle.sd_manager.specs.Shown.{IsNodeOf}
use Rattle.sd_manager.proofs.Extending.{extends_on}
use Rattle.sd_apply.proofs.Opposite.{node_of_on}
use Rattle.sd_check.specs.Unions.{AreNodes}
use Rattle.sd_check.proofs.Unions.{join_step, join_met, nodes_on, nodes_push, node_at, combined_node}
use Rattle.sd_check.proofs.primes.join_next.Goals as goal

-- both are nodes
pub and-requires-clause-first : goal.and-requires-clause-first
and-requires-clause-first c =
    subst (IsNodeOf _)
    (sym (c.index-one.ensures ∙ get_or_default_zero _ c.args.next _ (omega (arith, c.requires.two))))
    (node_at _ _ c.args.next c.requires.nodes (omega (arith, c.requires.two)))

pub and-requires-clause-second : goal.and-requires-clause-second
and-requires-clause-second c =
    subst (IsNodeOf _) (sym (c.index-other.ensures ∙ get_or_default_zero _ (c.args.next + 1) _ c.requires.two))
    (node_at _ _ (c.args.next + 1) c.requires.nodes c.requires.two)

-- and stay nodes
pub or-requires-clause-first : goal.or-requires-clause-first
or-requires-clause-first c =
    node_of_on _ _ c.in_ok-both.ensures.kept _
    (subst (IsNodeOf _)
    (sym (c.index-one.ensures ∙ get_or_default_zero _ c.args.next _ (omega (arith, c.requires.two))))
    (node_at _ _ c.args.next c.requires.nodes (omega (arith, c.requires.two))))

pub or-requires-clause-second : goal.or-requires-clause-second
or-requires-clause-second c =
    node_of_on _ _ c.in_ok-both.ensures.kept _
    (subst (IsNodeOf _) (sym (c.index-other.ensures ∙ get_or_default_zero _ (c.args.next + 1) _ c.requires.two))
    (node_at _ _ (c.args.next + 1) c.requires.nodes c.requires.two))

-- two that are true together
pub returns-then-not-is_false-clause-met : goal.returns-then-not-is_false-clause-met
returns-then-not-is_false-clause-met c _ =
    join_met c.args.m.now _ c.args.unions.now.items c.args.next _ _ _ c.in_ok-both.ensures.table c.requires.two
    c.index-one.ensures c.index-other.ensures c.in_ok-both.ensures.ok
    (λ e. absurd (cc (c.is_false.ensures.1 e, c.if-not-is_false.true)))

-- their union
pub returns-clause-joined : goal.returns-clause-joined
returns-clause-joined c _ =
    join_step c.args.m.now _ _ c.args.unions.now.items _ c.args.next _ _ _ _ c.in_ok-both.ensures.table
    c.in_ok-both.ensures.kept c.in_ok-either.ensures.kept c.requires.two c.index-one.ensures c.index-other.ensures
    c.in_ok-both.ensures.ok (c.is_false.ensures.0 c.if-not-is_false.false) c.in_ok-either.ensures.ok
    c.in_ok-push.ensures.items

pub returns-clause-nodes : goal.returns-clause-nodes
returns-clause-nodes c _ =
    let kept = extends_on _ _ _ c.in_ok-both.ensures.kept c.in_ok-either.ensures.kept in
    subst (AreNodes _) (sym c.in_ok-push.ensures.items)
    (nodes_push _ _ _ (nodes_on _ _ kept _ c.requires.nodes)
    (combined_node _ _ _ _ _ _
    (node_of_on _ _ c.in_ok-both.ensures.kept _
    (subst (IsNodeOf _)
    (sym (c.index-one.ensures ∙ get_or_default_zero _ c.args.next _ (omega (arith, c.requires.two))))
    (node_at _ _ c.args.next c.requires.nodes (omega (arith, c.requires.two)))))
    (node_of_on _ _ c.in_ok-both.ensures.kept _
    (subst (IsNodeOf _) (sym (c.index-other.ensures ∙ get_or_default_zero _ (c.args.next + 1) _ c.requires.two))
    (node_at _ _ (c.args.next + 1) c.requires.nodes c.requires.two)))
    c.in_ok-either.ensures.ok))

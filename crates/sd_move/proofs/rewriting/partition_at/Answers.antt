use Rattle.std.proofs.Common.{◌+◌, ◌-◌, ◌<◌, ◌∙◌, length, sym, ap, subst, arith}
use Rattle.std.specs.FinMap.{get}
use Rattle.std.proofs.lemmas.Result.{IfOk-weaker}
use Rattle.sd_laws.specs.Values.{pairs_value}
use Rattle.sd_laws.proofs.Evaluated.{value_of}
use Rattle.sd_manager.specs.Views.{pairs_at}
use Rattle.sd_vtree.specs.Numbered.{numbers}
use Rattle.sd_apply.specs.Partitions.{IsPartitionOf}
use Rattle.sd_apply.specs.Places.{HasChildren}
use Rattle.sd_apply.proofs.AtNode.{inner_within}
use Rattle.sd_apply.proofs.Trees.{there_inner}
use Rattle.sd_move.proofs.Spreading.{left_child_under, node_key, subs_below}
use Rattle.sd_move.specs.Calls.{IsStep}
use Rattle.sd_move.proofs.Calls.{step_on}
use Rattle.sd_move.proofs.Branching.{codes_on, node_value_on, partition_same}
use Rattle.sd_move.proofs.rewriting.partition_at.Goals as goal

-- what is asked of the subs

pub children-requires : goal.children-requires
children-requires c =
    let r = c.requires.place in
    subst (λ t. c.args.place < length (numbers t)) (sym c.vtree.ensures.vtree)
    (inner_within c.args.m.now.vtree c.requires.table.numbered c.args.place r.left r.right r.children)

pub are_below-requires-clause-at : goal.are_below-requires-clause-at
are_below-requires-clause-at c =
    let r = c.requires.place in
    there_inner c.args.m.now.vtree c.requires.table.numbered c.args.place r.left r.right r.children

pub are_below-requires-clause-number : goal.are_below-requires-clause-number
are_below-requires-clause-number c =
    node_key c.args.m.now c.requires.table c.args.node (c.node.inside.0 - 2050) c.requires.node c.requires.code
    (ap (λ n. n - 2050) c.node.view_is)

pub are_below-requires-clause-each : goal.are_below-requires-clause-each
are_below-requires-clause-each c =
    subs_below c.args.m.now c.args.place c.args.node (2050 + (c.node.inside.0 - 2050))
    (omega (arith, c.requires.code, c.node.view_is)) c.requires.codes

pub are_below-requires-clause-under : goal.are_below-requires-clause-under
are_below-requires-clause-under c =
    let x = c.in-Some.children in
    left_child_under c.args.m.now c.requires.table c.args.place x.0 x.1
    (subst (λ t. HasChildren t c.args.place x.0 x.1) c.vtree.ensures.vtree
    (sym c.in-Some.is ∙ c.children.ensures.children))

pub corner_of-requires-clause-place : goal.corner_of-requires-clause-place
corner_of-requires-clause-place c =
    let x = c.in-Some.children in
    subst (λ t. HasChildren t c.args.place x.0 x.1) c.vtree.ensures.vtree
    (sym c.in-Some.is ∙ c.children.ensures.children)

-- the other way, in a larger table

pub by_products-requires-in-None-clause-codes : goal.by_products-requires-in-None-clause-codes
by_products-requires-in-None-clause-codes c =
    codes_on c.args.m.now c.by_branches.new.m c.requires.table c.by_branches.ensures.step.table
    c.by_branches.ensures.step.kept c.args.place c.args.node c.requires.node c.requires.code c.requires.codes

pub returns-in-None-clause-ok : goal.returns-in-None-clause-ok
returns-in-None-clause-ok c =
    let m = c.args.m.now in
    let n = c.by_branches.new.m in
    let o = c.by_products-in-None.new.m in
    let p = c.args.place in
    let f = pairs_value (value_of (get n.linked)) (pairs_at n c.args.node) in
    let g = pairs_value (value_of (get m.linked)) (pairs_at m c.args.node) in
    IfOk-weaker c.by_products-in-None.result (λ r. IsPartitionOf o p r.items f) (λ r. IsPartitionOf o p r.items g)
    (λ r h. partition_same o p r.items f g h
    (node_value_on m n c.requires.table c.by_branches.ensures.step.table c.by_branches.ensures.step.kept p c.args.node
    c.requires.node c.requires.code c.requires.codes))
    c.by_products-in-None.ensures.ok

pub returns-in-None-clause-step : goal.returns-in-None-clause-step
returns-in-None-clause-step c =
    step_on
    (subst (λ p. IsStep c.args.m.now c.by_branches.new.m p c.by_branches.new.recent)
    c.in-Some-corner_of.ensures.upper c.by_branches.ensures.step)
    c.by_products-in-None.ensures.step

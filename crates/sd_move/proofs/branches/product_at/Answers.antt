use Rattle.std.proofs.lemmas.Result.{IfOk-weaker}
use Rattle.sd_model.specs.Diagram.{Diagram, meaning}
use Rattle.sd_model.specs.Expression.{combine}
use Rattle.sd_model.specs.declared.trees.Operation.TheVariants.{And}
use Rattle.sd_apply.specs.Partitions.{IsPartitionOf, MultipliesAt}
use Rattle.sd_apply.specs.Places.{IsNodeUnder}
use Rattle.sd_apply.proofs.AtNode.{partition_disjoint}
use Rattle.sd_apply.proofs.Listed.{below_on}
use Rattle.sd_move.proofs.Calls.{as_step, step_on}
use Rattle.sd_move.proofs.NewList.{expanded_before, expanded_then}
use Rattle.sd_move.proofs.branches.product_at.Goals as goal

pub expand_at-requires-2-clause-a : goal.expand_at-requires-2-clause-a
expand_at-requires-2-clause-a c =
    below_on c.args.m.now c.expand_at.new.m c.expand_at.ensures.kept c.args.place c.args.sub c.requires.sub

-- both lists are partitions

pub multiply_at-requires-clause-first : goal.multiply_at-requires-clause-first
multiply_at-requires-clause-first c =
    let d = c.requires.prime in
    partition_disjoint c.expand_at-2.new.m c.args.place c.as_slice-one.result.now (meaning d.diagram)
    (expanded_before c.args.m.now c.expand_at.new.m c.expand_at-2.new.m c.expand_at-2.ensures.kept c.args.place
    c.args.prime c.in_ok-first.first.items c.as_slice-one.result.now d.diagram d.is c.in_ok-first.ensures.ok
    c.as_slice-one.ensures)

pub multiply_at-requires-clause-second : goal.multiply_at-requires-clause-second
multiply_at-requires-clause-second c =
    let d = c.requires.sub in
    let p = expanded_then c.args.m.now c.expand_at.new.m c.expand_at-2.new.m c.expand_at.ensures.kept c.args.place
    c.args.sub c.in_ok-second.second.items c.as_slice-other.result.now d.diagram d.is c.in_ok-second.ensures.ok
    c.as_slice-other.ensures in
    (p.diagrams, p.is)

-- and so is their product

pub returns-clause-ok : goal.returns-clause-ok
returns-clause-ok c =
    let m = c.args.m.now in
    let m1 = c.expand_at.new.m in
    let m2 = c.expand_at-2.new.m in
    let m3 = c.multiply_at.new.m in
    let p = c.args.place in
    let one = c.as_slice-one.result.now in
    let other = c.as_slice-other.result.now in
    IfOk-weaker c.multiply_at.result (λ r. MultipliesAt m2 m3 And p one other r.items)
    (λ r. (d e : Diagram) → IsNodeUnder m p c.args.prime d → IsNodeUnder m p c.args.sub e →
    IsPartitionOf m3 p r.items (λ a. combine And (meaning d a) (meaning e a)))
    (λ r h d e prime sub. h.whole (meaning d) (meaning e)
    (expanded_before m m1 m2 c.expand_at-2.ensures.kept p c.args.prime c.in_ok-first.first.items one d prime
    c.in_ok-first.ensures.ok c.as_slice-one.ensures)
    (expanded_then m m1 m2 c.expand_at.ensures.kept p c.args.sub c.in_ok-second.second.items other e sub
    c.in_ok-second.ensures.ok c.as_slice-other.ensures))
    c.multiply_at.ensures.ok

pub returns-clause-step : goal.returns-clause-step
returns-clause-step c =
    let e = c.expand_at.ensures in
    let f = c.expand_at-2.ensures in
    let g = c.multiply_at.ensures in
    step_on (step_on (as_step e.kept e.grown e.knows e.table) (as_step f.kept f.grown f.knows f.table))
    (as_step g.kept g.grown g.knows g.table)

pub returns-in_err-second-clause-step : goal.returns-in_err-second-clause-step
returns-in_err-second-clause-step c =
    let e = c.expand_at.ensures in
    let f = c.expand_at-2.ensures in
    step_on (as_step e.kept e.grown e.knows e.table) (as_step f.kept f.grown f.knows f.table)

pub returns-in_err-first-clause-step : goal.returns-in_err-first-clause-step
returns-in_err-first-clause-step c =
    let e = c.expand_at.ensures in as_step e.kept e.grown e.knows e.table

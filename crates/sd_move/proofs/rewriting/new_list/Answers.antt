use Rattle.std.specs.FinMap.{get}
use Rattle.std.proofs.lemmas.Result.{IfOk-weaker}
use Rattle.sd_laws.specs.Values.{pairs_value}
use Rattle.sd_laws.proofs.Evaluated.{value_of}
use Rattle.sd_manager.specs.Views.{pairs_at}
use Rattle.sd_apply.specs.Partitions.{IsPartitionOf, MergesAt}
use Rattle.sd_apply.proofs.Tried.{listed_slice}
use Rattle.sd_move.proofs.Calls.{as_step, step_on}
use Rattle.sd_move.proofs.rewriting.new_list.Goals as goal

pub merge_at-requires-clause-partition : goal.merge_at-requires-clause-partition
merge_at-requires-clause-partition c =
    let f = pairs_value (value_of (get c.args.m.now.linked)) (pairs_at c.args.m.now c.args.node) in
    let p = listed_slice c.partition_at.new.m c.args.place c.in_ok-list.list.items c.as_slice.result.now f
    c.in_ok-list.ensures.ok c.as_slice.ensures in
    (p.diagrams, p.is)

pub returns-clause-ok : goal.returns-clause-ok
returns-clause-ok c =
    let now = c.partition_at.new.m in
    let next = c.merge_at.new.m in
    let p = c.args.place in
    let f = pairs_value (value_of (get c.args.m.now.linked)) (pairs_at c.args.m.now c.args.node) in
    IfOk-weaker c.merge_at.result (λ r. MergesAt now next p c.as_slice.result.now r.items)
    (λ r. IsPartitionOf next p r.items f)
    (λ r h. h.each f (listed_slice now p c.in_ok-list.list.items c.as_slice.result.now f c.in_ok-list.ensures.ok
    c.as_slice.ensures)) c.merge_at.ensures.ok

pub returns-clause-step : goal.returns-clause-step
returns-clause-step c =
    let e = c.merge_at.ensures in
    step_on c.partition_at.ensures.step (as_step e.kept e.grown e.knows e.table)

pub returns-in_err-list-clause-step : goal.returns-in_err-list-clause-step
returns-in_err-list-clause-step c = c.partition_at.ensures.step

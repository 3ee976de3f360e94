use Rattle.sd_apply.proofs.Listed.{children_on}
use Rattle.sd_move.proofs.Branching.{collecting_first, collecting_next, collecting_last, collecting_end}
use Rattle.sd_move.proofs.Branching.{sub_below, read_at}
use Rattle.sd_move.proofs.Calls.{as_step, step_on}
use Rattle.sd_move.proofs.branches.branches_of.Goals as goal

pub loop-index-init : goal.loop-index-init
loop-index-init c = (
  collecting_first c.args.m.now c.requires.table c.args.corner.now c.args.own.now c.new-branches.result.items
      c.new-branches.ensures.items,
  c.requires.knows,
)

pub add_branches-requires-clause-upper : goal.add_branches-requires-clause-upper
add_branches-requires-clause-upper c = record {
  left = c.args.corner.now.lower;
  right = c.args.corner.now.right;
  children = children_on c.args.m.now c.loop-index.m c.loop-index.invariant.0.kept c.args.corner.now.upper
      c.args.corner.now.lower c.args.corner.now.right c.requires.corner.upper;
}

pub add_branches-requires-clause-sub : goal.add_branches-requires-clause-sub
add_branches-requires-clause-sub c =
    let e = c.index-own-index.result in
    sub_below c.args.m.now c.loop-index.m c.loop-index.invariant.0.kept c.args.corner.now c.args.own.now
    c.loop-index.index e (read_at c.args.own.now c.loop-index.index _ e c.loop-index-test.true c.index-own-index.is)
    c.requires.own

pub loop-index-preserved : goal.loop-index-preserved
loop-index-preserved c =
    let e = c.index-own-index.result in (
      collecting_next c.args.m.now c.loop-index.m c.add_branches.new.m c.requires.table c.args.corner.now
          c.requires.corner c.args.own.now c.loop-index.branches.items c.add_branches.new.branches.items
          c.loop-index.index e
          (read_at c.args.own.now c.loop-index.index _ e c.loop-index-test.true c.index-own-index.is)
          c.requires.own c.loop-index.invariant.0 c.add_branches.ensures.step.kept c.add_branches.ensures.step.table
          c.add_branches.ensures.step.grown c.in_ok-add_branches.ensures.ok,
      c.add_branches.ensures.step.knows,
    )

pub returns-clause-ok : goal.returns-clause-ok
returns-clause-ok c =
    let now = c.loop-index.m in
    let l = c.loop-index.branches.items in
    collecting_last c.args.m.now now c.args.corner.now c.args.own.now l c.sort_unstable.new.self.items
    c.requires.own
    (collecting_end c.args.m.now now c.args.corner.now c.args.own.now l c.loop-index.index
    c.loop-index.invariant.0 c.loop-index-test.false) c.sort_unstable.ensures.permutation

pub returns-clause-step : goal.returns-clause-step
returns-clause-step c =
    let s = c.loop-index.invariant in as_step s.0.kept s.0.grown s.1 s.0.table

pub returns-in_err-add_branches-clause-step : goal.returns-in_err-add_branches-clause-step
returns-in_err-add_branches-clause-step c =
    let s = c.loop-index.invariant in
    step_on (as_step s.0.kept s.0.grown s.1 s.0.table) c.add_branches.ensures.step

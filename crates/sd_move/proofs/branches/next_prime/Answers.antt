use Rattle.sd_apply.proofs.Listed.{children_on}
use Rattle.sd_apply.proofs.Tried.{listed_slice}
use Rattle.sd_move.specs.Branches.{some_branch}
use Rattle.sd_move.proofs.Calls.{lower_next, lower_step}
use Rattle.sd_move.proofs.branches.next_prime.Goals as goal

pub node_of-requires-clause-partition : goal.node_of-requires-clause-partition
node_of-requires-clause-partition c =
    let v = c.requires.can.0 in
    let g = c.in_ok-row.ensures.ok v c.requires.can.1 in (
      some_branch v g.taken,
      listed_slice c.group_at.new.m c.args.corner.now.lower c.in_ok-row.row.items c.as_slice.result.now
          (some_branch v g.taken) g.partition c.as_slice.ensures,
    )

pub node_of-requires-clause-place : goal.node_of-requires-clause-place
node_of-requires-clause-place c =
    let k = c.args.corner.now in
    record {
      left = k.left;
      right = k.middle;
      children = children_on c.args.m.now c.group_at.new.m c.group_at.ensures.step.kept k.lower k.left k.middle
          c.requires.can.1.corner.lower;
    }

pub returns-clause-ok : goal.returns-clause-ok
returns-clause-ok c = λ v h.
    let g = c.in_ok-row.ensures.ok v h in
    record {
      taken = g.taken;
      parts = g.parts;
      same = g.same;
      shows = c.in_ok-node.ensures.ok (some_branch v g.taken)
          (listed_slice c.group_at.new.m c.args.corner.now.lower c.in_ok-row.row.items c.as_slice.result.now
          (some_branch v g.taken) g.partition c.as_slice.ensures);
      onward = g.onward;
    }

pub returns-clause-step : goal.returns-clause-step
returns-clause-step c =
    let e = c.node_of.ensures in
    lower_next c.args.corner.now c.requires.can.1.corner c.group_at.ensures.step e.kept e.grown e.knows e.table

pub returns-in_err-node-clause-step : goal.returns-in_err-node-clause-step
returns-in_err-node-clause-step c =
    let e = c.node_of.ensures in
    lower_next c.args.corner.now c.requires.can.1.corner c.group_at.ensures.step e.kept e.grown e.knows e.table

pub returns-in_err-row-clause-step : goal.returns-in_err-row-clause-step
returns-in_err-row-clause-step c = lower_step c.args.corner.now c.requires.can.1.corner c.group_at.ensures.step

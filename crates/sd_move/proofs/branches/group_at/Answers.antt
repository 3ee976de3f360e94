use Rattle.sd_move.proofs.Branching.{row_group, branch_at, prime_under, inner_under, one_branch}
use Rattle.sd_move.proofs.Calls.{no_step}
use Rattle.sd_move.proofs.branches.group_at.Goals as goal

pub returns-then-from-next-clause-ok : goal.returns-then-from-next-clause-ok
returns-then-from-next-clause-ok c = λ v h.
    row_group c.args.m.now c.requires.table v c.args.corner.now c.args.own.now c.args.branches.now h c.args.from
    c.in_ok-row.next c.in_ok-row.row.items c.in_ok-row.ensures.ok c.if-from-next.true

pub product_at-requires-clause-prime : goal.product_at-requires-clause-prime
product_at-requires-clause-prime c =
    let m = c.args.m.now in
    let k = c.args.corner.now in
    let l = c.args.branches.now in
    let can = c.requires.can in
    let i = c.args.from in
    record {
      diagram = (branch_at m can.0 k c.args.own.now l can.1 i c.requires.from).1.0.diagram;
      is = prime_under m c.requires.table can.0 k c.args.own.now l can.1 i c.requires.from;
    }

pub product_at-requires-clause-sub : goal.product_at-requires-clause-sub
product_at-requires-clause-sub c =
    let m = c.args.m.now in
    let k = c.args.corner.now in
    let l = c.args.branches.now in
    let can = c.requires.can in
    let i = c.args.from in
    record {
      diagram = (branch_at m can.0 k c.args.own.now l can.1 i c.requires.from).1.1.diagram;
      is = inner_under m c.requires.table can.0 k c.args.own.now l can.1 i c.requires.from;
    }

pub returns-clause-ok : goal.returns-clause-ok
returns-clause-ok c = λ v h.
    let m = c.args.m.now in
    let t = c.requires.table in
    let k = c.args.corner.now in
    let own = c.args.own.now in
    let l = c.args.branches.now in
    let i = c.args.from in
    let lt = c.requires.from in
    let b = branch_at m v k own l h i lt in
    one_branch m c.product_at.new.m t v k own l h i lt c.in_ok-row-2.row.items
    (c.in_ok-row-2.ensures.ok b.1.0.diagram b.1.1.diagram (prime_under m t v k own l h i lt)
    (inner_under m t v k own l h i lt))

pub returns-clause-step : goal.returns-clause-step
returns-clause-step c = c.product_at.ensures.step

pub returns-in_err-row-2-clause-step : goal.returns-in_err-row-2-clause-step
returns-in_err-row-2-clause-step c = c.product_at.ensures.step

pub returns-in_err-row-clause-step : goal.returns-in_err-row-clause-step
returns-in_err-row-clause-step c = no_step c.requires.table c.requires.knows

pub returns-then-from-next-clause-step : goal.returns-then-from-next-clause-step
returns-then-from-next-clause-step c = no_step c.requires.table c.requires.knows

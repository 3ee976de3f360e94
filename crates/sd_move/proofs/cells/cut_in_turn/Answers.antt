use Rattle.std.proofs.Common.{◌+◌, drop, map, sym, subst}
use Rattle.sd_apply.specs.Partitions.{AreDisjointAt, IsPartitionOf}
use Rattle.sd_move.proofs.Calls.{as_step, no_step, step_on}
use Rattle.sd_move.proofs.Cutting.{IsCutting, cutting_more, cutting_last, lists_end, lists_from, part_there}
use Rattle.sd_move.proofs.cells.cut_in_turn.Goals as goal

pub multiply_at-requires-clause-first : goal.multiply_at-requires-clause-first
multiply_at-requires-clause-first c =
    let m = c.args.m.now in
    let now = c.loop-index.m in
    let p = c.args.place in
    let parts = c.args.parts.now in
    let lists = map (λ q. q.items) parts in
    let i = c.loop-index.index in
    let list = c.loop-index.list.items in
    let part = c.index-parts-index.result.items in
    let rest = map (λ q. q.items) (drop (i + 1) parts) in
    subst (AreDisjointAt now p) (sym c.as_slice.ensures)
    (part_there m now p c.args.cell lists list part rest c.requires.cell.0 c.requires.parts.0 c.requires.cell.1
    c.requires.parts.1
    (subst (IsCutting m now p c.args.cell lists list)
    (lists_from (λ q. q.items) parts i _ c.index-parts-index.result c.loop-index-test.true
    c.index-parts-index.is) c.loop-index.invariant.0)).1

pub multiply_at-requires-clause-second : goal.multiply_at-requires-clause-second
multiply_at-requires-clause-second c =
    let m = c.args.m.now in
    let now = c.loop-index.m in
    let p = c.args.place in
    let parts = c.args.parts.now in
    let lists = map (λ q. q.items) parts in
    let i = c.loop-index.index in
    let list = c.loop-index.list.items in
    let part = c.index-parts-index.result.items in
    let rest = map (λ q. q.items) (drop (i + 1) parts) in
    let there = part_there m now p c.args.cell lists list part rest c.requires.cell.0 c.requires.parts.0
    c.requires.cell.1 c.requires.parts.1
    (subst (IsCutting m now p c.args.cell lists list)
    (lists_from (λ q. q.items) parts i _ c.index-parts-index.result c.loop-index-test.true
    c.index-parts-index.is)
    c.loop-index.invariant.0) in
    let q = subst (λ l. IsPartitionOf now p l there.0) (sym c.as_slice-part.ensures) there.2 in
    (q.diagrams, q.is)

pub loop-index-preserved : goal.loop-index-preserved
loop-index-preserved c =
    let m = c.args.m.now in
    let now = c.loop-index.m in
    let p = c.args.place in
    let parts = c.args.parts.now in
    let lists = map (λ q. q.items) parts in
    let i = c.loop-index.index in
    let list = c.loop-index.list.items in
    let part = c.index-parts-index.result.items in
    let rest = map (λ q. q.items) (drop (i + 1) parts) in (
      cutting_more m now c.multiply_at.new.m p c.args.cell lists list part c.as_slice.result.now
          c.as_slice-part.result.now c.in_ok-list.list.items rest
          (subst (IsCutting m now p c.args.cell lists list)
          (lists_from (λ q. q.items) parts i _ c.index-parts-index.result c.loop-index-test.true
          c.index-parts-index.is)
          c.loop-index.invariant.0)
          c.multiply_at.ensures.kept c.multiply_at.ensures.table c.multiply_at.ensures.grown c.as_slice.ensures
          c.as_slice-part.ensures c.in_ok-list.ensures.ok,
      c.multiply_at.ensures.knows,
    )

pub returns-clause-ok : goal.returns-clause-ok
returns-clause-ok c = λ f g k v.
    let m = c.args.m.now in
    let now = c.loop-index.m in
    let p = c.args.place in
    let parts = c.args.parts.now in
    let lists = map (λ q. q.items) parts in
    let list = c.loop-index.list.items in
    cutting_last m now p c.args.cell lists list
    (subst (IsCutting m now p c.args.cell lists list)
    (lists_end (λ q. q.items) parts c.loop-index.index c.loop-index-test.false) c.loop-index.invariant.0) f g k v

pub returns-clause-step : goal.returns-clause-step
returns-clause-step c =
    let s = c.loop-index.invariant in as_step s.0.kept s.0.grown s.1 s.0.table

pub returns-in_err-list-clause-step : goal.returns-in_err-list-clause-step
returns-in_err-list-clause-step c =
    let s = c.loop-index.invariant in
    let e = c.multiply_at.ensures in
    step_on (as_step s.0.kept s.0.grown s.1 s.0.table) (as_step e.kept e.grown e.knows e.table)

pub returns-in_default-clause-step : goal.returns-in_default-clause-step
returns-in_default-clause-step c = no_step c.requires.table c.requires.knows

use Rattle.std.proofs.Common.{◌/◌, length, map, slice_range, sym, subst, take}
use Rattle.sd_apply.proofs.Listed.{below_on, children_on}
use Rattle.sd_move.specs.Cells.{ArePartitions, IsCut}
use Rattle.sd_move.proofs.Branching.{read_at}
use Rattle.sd_move.proofs.Calls.{as_step, step_on}
use Rattle.sd_move.proofs.Cutting.{parted, cut_disjoint, lists_parted, halves_fewer, next_there}
use Rattle.sd_move.proofs.Cutting.{halving_first, halving_more, halving_last}
use Rattle.sd_move.proofs.cells.+cut.Goals as goal

-- the first half of the partitions

pub cut-requires : goal.cut-requires
cut-requires t c =
    let m = c.args.m.now in
    let p = c.args.place in
    let parts = c.args.parts.now in
    let half = length parts / 2 in
    let v = c.requires.parts in
    let q = parted m p (map (λ q. q.items) (take half parts))
    (map (λ q. q.items) (slice_range parts half (length parts)))
    v.0 (subst (λ l. ArePartitions m p l v.0) (lists_parted (λ q. q.items) parts half) v.1) in (
      (halves_fewer parts t c.if-parts-lt4.false c.decreases).0,
      (c.requires.place, (c.requires.cell, ((q.0, q.2), (c.requires.knows, c.requires.table)))),
    )

pub loop-index-init : goal.loop-index-init
loop-index-init t c =
    let m = c.args.m.now in
    let r = c.requires.place in
    let parts = c.args.parts.now in
    let half = length parts / 2 in (
      halving_first m c.cut.new.m c.cut.ensures.step.table c.args.place r.left r.right r.children c.args.cell
          (map (λ q. q.items) parts) (map (λ q. q.items) (take half parts))
          (map (λ q. q.items) (slice_range parts half (length parts))) (lists_parted (λ q. q.items) parts half)
          c.cut.ensures.step.kept c.cut.ensures.step.grown c.new-all.result.items c.in_ok-first.first.items
          c.as_slice-list.result.now c.new-all.ensures.items c.as_slice-list.ensures c.in_ok-first.ensures.ok,
      c.cut.ensures.step.knows,
    )

-- the other half, for a cell of the first

pub cut-requires-in-loop-index : goal.cut-requires-in-loop-index
cut-requires-in-loop-index t c =
    let m = c.args.m.now in
    let now = c.loop-index.m in
    let r = c.requires.place in
    let p = c.args.place in
    let parts = c.args.parts.now in
    let list = c.as_slice-list.result.now in
    let i = c.loop-index.index in
    let e = c.index-list-index.result in
    let h = c.loop-index.invariant.0 in
    let n = next_there m now p r.left r.right r.children c.args.cell (map (λ q. q.items) parts)
    (map (λ q. q.items) (slice_range parts (length parts / 2) (length parts))) c.loop-index.all.items list i e
    c.requires.cell.0 c.requires.parts.0 c.requires.cell.1 c.requires.parts.1
    (read_at list i _ e c.loop-index-test.true c.index-list-index.is) h in (
      (halves_fewer parts t c.if-parts-lt4.false c.decreases).1,
      (
        record { left = r.left; right = r.right; children = children_on m now h.kept p r.left r.right r.children },
        (
          (n.cell_value, n.cell),
          ((n.other, n.partitions), (c.loop-index.invariant.1, h.table)),
        ),
      ),
    )

pub add_sums-requires-clause-list : goal.add_sums-requires-clause-list
add_sums-requires-clause-list t c =
    let m = c.args.m.now in
    let now = c.loop-index.m in
    let mid = c.cut-in-loop-index.new.m in
    let r = c.requires.place in
    let p = c.args.place in
    let parts = c.args.parts.now in
    let list = c.as_slice-list.result.now in
    let i = c.loop-index.index in
    let e = c.index-list-index.result in
    let n = next_there m now p r.left r.right r.children c.args.cell (map (λ q. q.items) parts)
    (map (λ q. q.items) (slice_range parts (length parts / 2) (length parts))) c.loop-index.all.items list i e
    c.requires.cell.0 c.requires.parts.0 c.requires.cell.1 c.requires.parts.1
    (read_at list i _ e c.loop-index-test.true c.index-list-index.is) c.loop-index.invariant.0 in
    cut_disjoint mid p c.as_slice.result.now n.cell_value n.other
    (subst (λ l. IsCut mid p l n.cell_value n.other) (sym c.as_slice.ensures)
    (c.in_ok-second.ensures.ok n.cell_value n.other n.cell n.partitions))

pub add_sums-requires-clause-sum : goal.add_sums-requires-clause-sum
add_sums-requires-clause-sum t c =
    let m = c.args.m.now in
    let now = c.loop-index.m in
    let mid = c.cut-in-loop-index.new.m in
    let r = c.requires.place in
    let p = c.args.place in
    let parts = c.args.parts.now in
    let list = c.as_slice-list.result.now in
    let i = c.loop-index.index in
    let e = c.index-list-index.result in
    let n = next_there m now p r.left r.right r.children c.args.cell (map (λ q. q.items) parts)
    (map (λ q. q.items) (slice_range parts (length parts / 2) (length parts))) c.loop-index.all.items list i e
    c.requires.cell.0 c.requires.parts.0 c.requires.cell.1 c.requires.parts.1
    (read_at list i _ e c.loop-index-test.true c.index-list-index.is) c.loop-index.invariant.0 in
    below_on now mid c.cut-in-loop-index.ensures.step.kept p e.1 n.sum

pub loop-index-preserved : goal.loop-index-preserved
loop-index-preserved t c =
    let m = c.args.m.now in
    let now = c.loop-index.m in
    let mid = c.cut-in-loop-index.new.m in
    let r = c.requires.place in
    let p = c.args.place in
    let parts = c.args.parts.now in
    let list = c.as_slice-list.result.now in
    let i = c.loop-index.index in
    let e = c.index-list-index.result in (
      halving_more m now mid c.add_sums.new.m p r.left r.right r.children c.args.cell (map (λ q. q.items) parts)
          (map (λ q. q.items) (slice_range parts (length parts / 2) (length parts))) c.loop-index.all.items
          c.add_sums.new.all.items list c.in_ok-second.second.items c.as_slice.result.now i e
          (read_at list i _ e c.loop-index-test.true c.index-list-index.is) c.loop-index.invariant.0
          c.cut-in-loop-index.ensures.step.kept c.cut-in-loop-index.ensures.step.grown c.in_ok-second.ensures.ok
          c.as_slice.ensures c.add_sums.ensures.step.kept c.add_sums.ensures.step.table c.add_sums.ensures.step.grown
          c.in_ok-add_sums.ensures.ok,
      c.add_sums.ensures.step.knows,
    )

-- all cells

pub returns-clause-ok : goal.returns-clause-ok
returns-clause-ok t c = λ f g k v.
    let r = c.requires.place in
    let parts = c.args.parts.now in
    halving_last c.args.m.now c.loop-index.m c.args.place r.left r.right r.children c.args.cell
    (map (λ q. q.items) parts) (map (λ q. q.items) (slice_range parts (length parts / 2) (length parts)))
    c.loop-index.all.items c.as_slice-list.result.now c.loop-index.index c.loop-index-test.false
    c.loop-index.invariant.0 f g k v

pub returns-clause-step : goal.returns-clause-step
returns-clause-step t c =
    let s = c.loop-index.invariant in as_step s.0.kept s.0.grown s.1 s.0.table

pub returns-in_err-second-clause-step : goal.returns-in_err-second-clause-step
returns-in_err-second-clause-step t c =
    let s = c.loop-index.invariant in
    step_on (as_step s.0.kept s.0.grown s.1 s.0.table) c.cut-in-loop-index.ensures.step

pub returns-in_err-add_sums-clause-step : goal.returns-in_err-add_sums-clause-step
returns-in_err-add_sums-clause-step t c =
    let s = c.loop-index.invariant in
    step_on (step_on (as_step s.0.kept s.0.grown s.1 s.0.table) c.cut-in-loop-index.ensures.step)
    c.add_sums.ensures.step

pub returns-in_err-first-clause-step : goal.returns-in_err-first-clause-step
returns-in_err-first-clause-step t c = c.cut.ensures.step

pub returns-then-parts-lt4-clause-step : goal.returns-then-parts-lt4-clause-step
returns-then-parts-lt4-clause-step t c = c.cut_in_turn.ensures.step

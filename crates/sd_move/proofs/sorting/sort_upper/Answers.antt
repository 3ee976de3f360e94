use Rattle.std.proofs.Common.{drop, subst, sym, arith}
use Rattle.std.proofs.lemmas.List.{at_drop_more, at_drop_all}
use Rattle.sd_move.specs.Moving.{MoveInProgress}
use Rattle.sd_move.specs.Sorting.{HasSorted}
use Rattle.sd_move.proofs.SortedAll.{IsSorting, may_sort_one, sorting_on, sorting_stopped, sorting_going}
use Rattle.sd_move.proofs.sorting.sort_upper.Goals as goal

pub sort_one-requires-clause-may : goal.sort_one-requires-clause-may
sort_one-requires-clause-may c =
    let old = c.args.m.now in
    let now = c.loop-index.m in
    let numbers = c.args.numbers.now in
    let next = at_drop_more (λ l. l) numbers c.loop-index.index 0 (omega (arith, c.loop-index-test.true)) in
    may_sort_one old now c.args.side c.args.upper c.args.lower _ numbers _ c.args.entries.now.items
    c.loop-index.entries.items c.args.waiting.now.items c.loop-index.waiting.items
    (subst (λ l. IsSorting old now c.args.side c.args.upper c.args.lower numbers l c.args.entries.now.items
    c.loop-index.entries.items c.args.waiting.now.items c.loop-index.waiting.items) next c.loop-index.invariant)
    c.requires.may

pub loop-index-preserved : goal.loop-index-preserved
loop-index-preserved c =
    let old = c.args.m.now in
    let now = c.loop-index.m in
    let numbers = c.args.numbers.now in
    let next = at_drop_more (λ l. l) numbers c.loop-index.index 0 (omega (arith, c.loop-index-test.true)) in
    sorting_on old now c.args.side c.args.upper c.args.lower _ numbers _ c.args.entries.now.items
    c.loop-index.entries.items c.args.waiting.now.items c.loop-index.waiting.items
    (subst (λ l. IsSorting old now c.args.side c.args.upper c.args.lower numbers l c.args.entries.now.items
    c.loop-index.entries.items c.args.waiting.now.items c.loop-index.waiting.items) next c.loop-index.invariant)
    c.requires.may c.sort_one.new.m c.sort_one.new.entries.items c.sort_one.new.waiting.items
    c.in_ok-sort_one.ensures.sorted c.in_ok-sort_one.ensures.table

-- where memory is refused, all is as before the node at which it was

pub returns-in_err-sort_one-clause-going : goal.returns-in_err-sort_one-clause-going
returns-in_err-sort_one-clause-going c m0 t h v can =
    let old = c.args.m.now in
    let now = c.loop-index.m in
    subst (λ z. MoveInProgress m0 z c.args.upper h v) (sym c.in_err-sort_one.ensures.err)
    (sorting_going old now c.args.side c.args.upper c.args.lower c.args.numbers.now _ c.args.entries.now.items
    c.loop-index.entries.items c.args.waiting.now.items c.loop-index.waiting.items c.loop-index.invariant
    c.requires.may m0 t h v can)

pub returns-in_err-sort_one-clause-sorted : goal.returns-in_err-sort_one-clause-sorted
returns-in_err-sort_one-clause-sorted c =
    let old = c.args.m.now in
    let now = c.loop-index.m in
    let side = c.args.side in
    let x = c.args.upper in
    let w = c.args.lower in
    let before = c.args.entries.now.items in
    let listed = c.args.waiting.now.items in
    let numbers = c.args.numbers.now in
    let left = drop c.loop-index.index numbers in
    let stopped = sorting_stopped old now side x w numbers left before c.loop-index.entries.items listed
    c.loop-index.waiting.items c.loop-index.invariant c.requires.may in (
      left,
      subst (λ z. HasSorted old c.sort_one.new.m side x w numbers left before c.sort_one.new.entries.items listed z)
          (sym c.in_err-sort_one.ensures.waiting)
          (subst (λ z. HasSorted old c.sort_one.new.m side x w numbers left before z listed c.loop-index.waiting.items)
          (sym c.in_err-sort_one.ensures.entries)
          (subst (λ z. HasSorted old z side x w numbers left before c.loop-index.entries.items listed
          c.loop-index.waiting.items) (sym c.in_err-sort_one.ensures.err) stopped)),
    )

-- at the end none is left

pub returns-clause-going : goal.returns-clause-going
returns-clause-going c =
    sorting_going c.args.m.now c.loop-index.m c.args.side c.args.upper c.args.lower c.args.numbers.now _
    c.args.entries.now.items c.loop-index.entries.items c.args.waiting.now.items c.loop-index.waiting.items
    c.loop-index.invariant c.requires.may

pub returns-clause-sorted : goal.returns-clause-sorted
returns-clause-sorted c = (
  _,
  sorting_stopped c.args.m.now c.loop-index.m c.args.side c.args.upper c.args.lower c.args.numbers.now _
      c.args.entries.now.items c.loop-index.entries.items c.args.waiting.now.items c.loop-index.waiting.items
      c.loop-index.invariant c.requires.may,
)

pub returns-clause-all : goal.returns-clause-all
returns-clause-all c =
    let old = c.args.m.now in
    let now = c.loop-index.m in
    let numbers = c.args.numbers.now in
    let last = at_drop_all (λ l. l) numbers c.loop-index.index (omega (arith, c.loop-index-test.false)) in
    subst (λ l. HasSorted old now c.args.side c.args.upper c.args.lower numbers l c.args.entries.now.items
    c.loop-index.entries.items c.args.waiting.now.items c.loop-index.waiting.items) last
    (sorting_stopped old now c.args.side c.args.upper c.args.lower numbers _ c.args.entries.now.items
    c.loop-index.entries.items c.args.waiting.now.items c.loop-index.waiting.items c.loop-index.invariant
    c.requires.may)

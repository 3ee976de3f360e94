use Rattle.std.proofs.Common.{◌∙◌, sym, ap, subst, arith}
use Rattle.std.specs.Option.{IsSome}
use Rattle.std.specs.FinMap.{get}
use Rattle.sd_manager.specs.Table.{key_at}
use Rattle.sd_manager.specs.Marking.{with_mark}
use Rattle.sd_sweep.proofs.Chained.{below_nodes, linked_over, linked_has_key, shown_is_linked}
use Rattle.sd_sweep.proofs.ChainUnder.{chaining_first, here_linked, here_shown, last_linked, visited_fits}
use Rattle.sd_sweep.proofs.ChainUnder.{chaining_on, chaining_ended}
use Rattle.sd_sweep.proofs.chain.chain_below.Goals as goal

pub set_mark-requires : goal.set_mark-requires
set_mark-requires c =
    subst (λ n. IsSome (key_at c.args.m.now n)) (sym c.number.ensures)
    (linked_has_key c.args.m.now c.args.first
    (shown_is_linked c.args.m.now c.requires.table c.args.first c.requires.shown.0 c.requires.shown.1 c.requires.code))

pub loop-here-init : goal.loop-here-init
loop-here-init c =
    chaining_first c.args.m.now c.set_mark.new.self c.requires.table c.set_mark.ensures.table c.args.first
    c.requires.shown.0 c.requires.shown.1
    (shown_is_linked c.args.m.now c.requires.table c.args.first c.requires.shown.0 c.requires.shown.1 c.requires.code)
    (c.set_mark.ensures.mark ∙ ap (λ n. with_mark c.args.m.now n 1) c.number.ensures)

pub element_count-count-requires-clause-shown : goal.element_count-count-requires-clause-shown
element_count-count-requires-clause-shown c =
    here_shown c.args.m.now c.loop-here.m c.requires.table c.args.first c.loop-here.here c.loop-here.last
    c.loop-here.nodes c.loop-here.total c.loop-here.invariant (c.is_decomposition.ensures.0 c.loop-here-test.true)

pub chain_elements-last-requires-clause-shown : goal.chain_elements-last-requires-clause-shown
chain_elements-last-requires-clause-shown c =
    here_shown c.args.m.now c.loop-here.m c.requires.table c.args.first c.loop-here.here c.loop-here.last
    c.loop-here.nodes c.loop-here.total c.loop-here.invariant (c.is_decomposition.ensures.0 c.loop-here-test.true)

pub chain_elements-last-requires-clause-last : goal.chain_elements-last-requires-clause-last
chain_elements-last-requires-clause-last c =
    last_linked c.args.m.now c.loop-here.m c.requires.table c.args.first c.loop-here.here c.loop-here.last
    c.loop-here.nodes c.loop-here.total c.loop-here.invariant (c.is_decomposition.ensures.0 c.loop-here-test.true)

pub mark-next-requires : goal.mark-next-requires
mark-next-requires c =
    let linked = here_linked c.args.m.now c.loop-here.m c.requires.table c.args.first c.loop-here.here c.loop-here.last
    c.loop-here.nodes c.loop-here.total c.loop-here.invariant (c.is_decomposition.ensures.0 c.loop-here-test.true) in
    let f = c.chain_elements-last in
    subst (λ n. IsSome (key_at f.new.m n)) (sym c.number-in-loop-here.ensures)
    (linked_has_key f.new.m c.loop-here.here
    (linked_over c.loop-here.m f.new.m f.ensures.rest c.loop-here.here linked))

pub overflow_add-total : goal.overflow_add-total
overflow_add-total c =
    let fits = visited_fits c.args.m.now c.loop-here.m c.requires.table c.args.first c.loop-here.here c.loop-here.last
    c.loop-here.nodes c.loop-here.total c.loop-here.invariant (c.is_decomposition.ensures.0 c.loop-here-test.true)
    c.element_count-count.result c.element_count-count.ensures in
    omega (arith, fits.0)

pub loop-here-smaller : goal.loop-here-smaller
loop-here-smaller c =
    let fits = visited_fits c.args.m.now c.loop-here.m c.requires.table c.args.first c.loop-here.here c.loop-here.last
    c.loop-here.nodes c.loop-here.total c.loop-here.invariant (c.is_decomposition.ensures.0 c.loop-here-test.true)
    c.element_count-count.result c.element_count-count.ensures in
    omega (arith, fits.0, fits.1)

pub loop-here-preserved : goal.loop-here-preserved
loop-here-preserved c =
    let f = c.chain_elements-last in
    chaining_on c.args.m.now c.loop-here.m c.requires.table c.args.first c.loop-here.here c.loop-here.last
    c.loop-here.nodes c.loop-here.total c.loop-here.invariant (c.is_decomposition.ensures.0 c.loop-here-test.true)
    f.new.m c.element_count-count.result f.result c.mark-next.result c.requires.unmarked f.ensures.table
    c.element_count-count.ensures f.ensures.chain
    (ap (get f.new.m.marks) (sym c.number-in-loop-here.ensures) ∙ c.mark-next.ensures.mark)

pub returns-clause-chain : goal.returns-clause-chain
returns-clause-chain c =
    chaining_ended c.args.m.now c.loop-here.m c.args.first c.loop-here.here c.loop-here.last c.loop-here.nodes
    c.loop-here.total c.loop-here.invariant
    (below_nodes c.loop-here.here c.is_decomposition.result c.is_decomposition.ensures.1 c.loop-here-test.false)

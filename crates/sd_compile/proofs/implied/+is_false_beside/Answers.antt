use Rattle.std.proofs.Common.{◌<◌, length, subst, sym, arith}
use Rattle.sd_vtree.specs.Numbered.{Numbered, numbers}
use Rattle.sd_manager.proofs.Reading.{shown_has_node}
use Rattle.sd_apply.proofs.Standing.{shown_there}
use Rattle.sd_compile.proofs.Implying.{pairs_imply, pair_nodes}
use Rattle.sd_compile.proofs.implied.+is_false_beside.Goals as goal

pub view-requires : goal.view-requires
view-requires t c =
    shown_has_node c.args.m.now c.requires.table.numbered c.args.node c.requires.node.diagram c.requires.node.is.shows

pub position-requires : goal.position-requires
position-requires t c =
    let k = c.in-Decomposition.ensures.shown c.requires.node.diagram c.requires.node.is.shows in
    subst (λ (v : Numbered). c.in-Decomposition.place < length (numbers v)) (sym c.vtree.ensures.vtree)
    (shown_there c.args.m.now c.requires.table c.in-Decomposition.place k.0 c.requires.node.diagram k.4)

pub is_false_beside-requires : goal.is_false_beside-requires
is_false_beside-requires t c =
    let k = pair_nodes c.args.m.now c.args.node c.in-Decomposition.place c.in-Decomposition.count c.loop-index.index
    c.element-prime.result c.requires.node c.in-Decomposition.ensures.shown c.element-prime.ensures.pair in
    (omega (arith, c.decreases, c.loop-index.invariant.1), (c.requires.table, (k.1, c.requires.within)))

pub is_false_beside-requires-then-not-is_false_beside : goal.is_false_beside-requires-then-not-is_false_beside
is_false_beside-requires-then-not-is_false_beside t c =
    let k = pair_nodes c.args.m.now c.args.node c.in-Decomposition.place c.in-Decomposition.count c.loop-index.index
    c.element-prime.result c.requires.node c.in-Decomposition.ensures.shown c.element-prime.ensures.pair in (
      omega (arith, c.decreases, c.loop-index.invariant.1, c.is_false_beside.ensures.steps),
      (c.requires.table, (k.0, omega (arith, c.first_behind-split.ensures, c.requires.within))),
    )

pub returns-clause-implies : goal.returns-clause-implies
returns-clause-implies t c = λ _.
    pairs_imply c.args.m.now c.requires.table c.args.node c.in-Decomposition.place c.in-Decomposition.count
    c.loop-index.index c.args.literals.now c.args.holds c.in-Decomposition.ensures.shown c.in-Decomposition.ensures.view
    c.loop-index.invariant.0 (omega (arith, c.loop-index-test.false))

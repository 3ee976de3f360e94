use Rattle.std.proofs.Common.{◌≡◌, ◌<◌, ◌∙◌, sym, subst, arith, length, Some, slice_get}
use Rattle.sd_vtree.specs.Numbered.{numbers}
use Rattle.sd_vtree.proofs.Subtrees.{node_within}
use Rattle.sd_vtree.proofs.Times.{times_slice_get}
use Rattle.sd_manager.proofs.Reading.{shown_has_node}
use Rattle.sd_manager.proofs.Evaluating.{children}
use Rattle.std.proofs.lemmas.Result.{on_ok_weaker}
use Rattle.sd_manager.specs.Views.{pairs_at}
use Rattle.sd_records.proofs.Writing.{visited, visited_listed, elements_more}
use Rattle.sd_records.proofs.writer.+add.Goals as goal

pub add_node-view-requires : goal.add_node-view-requires
add_node-view-requires t c =
    shown_has_node c.args.m.now c.requires.table.numbered c.args.node c.requires.shown.0 c.requires.shown.1.shows

pub add_node-position-requires : goal.add_node-position-requires
add_node-position-requires t c =
    let v = visited c.args.m.now c.requires.table c.args.node c.in-Decomposition.place c.in-Decomposition.count
    c.requires.shown.0 c.requires.shown.1
    (c.in-Decomposition.ensures.shown c.requires.shown.0 c.requires.shown.1.shows) in
    subst (λ z. c.in-Decomposition.place < length (numbers z)) (sym c.vtree.ensures.vtree)
    (node_within c.args.m.now.vtree c.requires.table.numbered c.in-Decomposition.place
    (times_slice_get (numbers c.args.m.now.vtree) v.own c.in-Decomposition.place v.stands))

pub add_node-returns-in_ok-add_below-in-Decomposition-clause-listed :
    goal.add_node-returns-in_ok-add_below-in-Decomposition-clause-listed
add_node-returns-in_ok-add_below-in-Decomposition-clause-listed t c =
    let v = visited c.args.m.now c.requires.table c.args.node c.in-Decomposition.place c.in-Decomposition.count
    c.requires.shown.0 c.requires.shown.1
    (c.in-Decomposition.ensures.shown c.requires.shown.0 c.requires.shown.1.shows) in
    on_ok_weaker c.add.result
    (λ now. (visited_listed c.args.m.now c.add_below.new.listing c.add.new.self c.args.node c.in-Decomposition.place
    c.position.result c.in_ok-add_below-in-Decomposition.ensures.listed v
    (subst (λ z. slice_get (numbers z) c.position.result ≡ Some c.in-Decomposition.place) c.vtree.ensures.vtree
    c.position.ensures.position) c.in_ok-add_below-in-Decomposition.ensures.elements now).0)
    c.add.ensures

pub add_node-returns-in_ok-add_below-in-Decomposition-clause-kept :
    goal.add_node-returns-in_ok-add_below-in-Decomposition-clause-kept
add_node-returns-in_ok-add_below-in-Decomposition-clause-kept t c =
    let v = visited c.args.m.now c.requires.table c.args.node c.in-Decomposition.place c.in-Decomposition.count
    c.requires.shown.0 c.requires.shown.1
    (c.in-Decomposition.ensures.shown c.requires.shown.0 c.requires.shown.1.shows) in
    on_ok_weaker c.add.result
    (λ now n has.
    let w = visited_listed c.args.m.now c.add_below.new.listing c.add.new.self c.args.node c.in-Decomposition.place
    c.position.result c.in_ok-add_below-in-Decomposition.ensures.listed v
    (subst (λ z. slice_get (numbers z) c.position.result ≡ Some c.in-Decomposition.place) c.vtree.ensures.vtree
    c.position.ensures.position) c.in_ok-add_below-in-Decomposition.ensures.elements now in
    let before = c.in_ok-add_below-in-Decomposition.ensures.kept n has in
    w.1 n (omega (arith, before, has)) ∙ before)
    c.add.ensures

pub add_node-returns-in_ok-add_below-in-Decomposition-clause-node :
    goal.add_node-returns-in_ok-add_below-in-Decomposition-clause-node
add_node-returns-in_ok-add_below-in-Decomposition-clause-node t c =
    let v = visited c.args.m.now c.requires.table c.args.node c.in-Decomposition.place c.in-Decomposition.count
    c.requires.shown.0 c.requires.shown.1
    (c.in-Decomposition.ensures.shown c.requires.shown.0 c.requires.shown.1.shows) in
    on_ok_weaker c.add.result
    (λ now. (visited_listed c.args.m.now c.add_below.new.listing c.add.new.self c.args.node c.in-Decomposition.place
    c.position.result c.in_ok-add_below-in-Decomposition.ensures.listed v
    (subst (λ z. slice_get (numbers z) c.position.result ≡ Some c.in-Decomposition.place) c.vtree.ensures.vtree
    c.position.ensures.position) c.in_ok-add_below-in-Decomposition.ensures.elements now).2)
    c.add.ensures

pub add_below-add_node-requires : goal.add_below-add_node-requires
add_below-add_node-requires t c =
    let w = c.requires.shown in
    let k = children c.args.m.now c.args.node w.0 c.loop-index.index w.1 c.element-prime.result w.2
    c.element-prime.ensures.pair in (
      omega (arith, c.decreases, w.3, k.prime_depth),
      (
        c.requires.table,
        ((k.prime, k.prime_is, omega (arith, w.3, k.prime_depth)), c.loop-index.invariant.listed),
      ),
    )

pub add_below-add_node-requires-in-loop-index : goal.add_below-add_node-requires-in-loop-index
add_below-add_node-requires-in-loop-index t c =
    let w = c.requires.shown in
    let k = children c.args.m.now c.args.node w.0 c.loop-index.index w.1 c.element-prime.result w.2
    c.element-prime.ensures.pair in (
      omega (arith, c.decreases, w.3, k.sub_depth),
      (
        c.requires.table,
        ((k.sub, k.sub_is, omega (arith, w.3, k.sub_depth)), c.in_ok-add_node.ensures.listed),
      ),
    )

pub add_below-loop-index-preserved : goal.add_below-loop-index-preserved
add_below-loop-index-preserved t c =
    let w = elements_more c.args.listing.now c.loop-index.listing c.add_node.new.listing
    c.add_node-in-loop-index.new.listing (pairs_at c.args.m.now c.args.node) c.loop-index.index c.element-prime.result
    c.loop-index.invariant.kept c.loop-index.invariant.elements c.element-prime.ensures.pair
    c.in_ok-add_node.ensures.kept c.in_ok-add_node.ensures.node c.in_ok-add_node-2.ensures.kept
    c.in_ok-add_node-2.ensures.node in
    record { listed = c.in_ok-add_node-2.ensures.listed; kept = w.0; elements = w.1 }

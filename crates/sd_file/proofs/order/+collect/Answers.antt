use Rattle.std.proofs.Common.{◌≡◌, ◌<◌, length, sym, subst, arith, Some, slice_get, rules, w32}
use mir.Val.{SFits}
use Rattle.std.proofs.lemmas.Int.{to_z-of_z}
use Rattle.sd_manager.specs.declared.view.View.TheVariants.{Literal as LiteralView}
use Rattle.sd_manager.specs.Views.{IsViewOf}
use Rattle.sd_vtree.specs.Numbered.{numbers}
use Rattle.sd_manager.specs.Shown.{Shows}
use Rattle.sd_manager.proofs.Reading.{shown_has_node}
use Rattle.sd_manager.proofs.Evaluating.{children}
use Rattle.sd_file.specs.Ranks.{FitsPlain}
use Rattle.sd_file.proofs.Collected.{plain_collected, at_place, added_collected, collected_more}
use Rattle.sd_file.proofs.Literals.{stands_within}
use Rattle.sd_file.proofs.Grouping.{on_ok}
use Rattle.sd_file.proofs.order.+collect.Goals as goal

pub collect-view-requires : goal.collect-view-requires
collect-view-requires t c =
    shown_has_node c.args.m.now c.requires.table.numbered c.args.node c.requires.shown.0 c.requires.shown.1.shows

pub collect-position-requires : goal.collect-position-requires
collect-position-requires t c =
    let w = c.in-Decomposition.ensures.shown c.requires.shown.0 c.requires.shown.1.shows in
    subst (λ z. c.in-Decomposition.place < length (numbers z)) (sym c.vtree.ensures.vtree)
    (stands_within c.args.m.now.vtree c.requires.table.numbered w.0 c.in-Decomposition.place w.4)

pub collect-returns-in-Constant-clause-collected : goal.collect-returns-in-Constant-clause-collected
collect-returns-in-Constant-clause-collected t c =
    let same : c.node.inside.0 ≡ c.args.node = c.node.view_is in
    on_ok c.give_plain.result
    (λ given.
    (plain_collected c.args.m.now c.args.o.now c.give_plain.new.self c.args.found.now c.node.inside.0
    c.constant_rank.result c.requires.collected given
    (λ d shows.
    subst (λ x. FitsPlain x c.constant_rank.result)
    (sym (c.in-Constant.ensures.shown d (subst (λ n. Shows c.args.m.now n d) same shows)))
    c.constant_rank.ensures)).collected)
    c.give_plain.ensures

pub collect-returns-in-Literal-clause-collected : goal.collect-returns-in-Literal-clause-collected
collect-returns-in-Literal-clause-collected t c =
    let same : c.node-in-Literal.inside.0 ≡ c.args.node = c.node-in-Literal.view_is in
    on_ok c.give_plain-in-Literal.result
    (λ given.
    (plain_collected c.args.m.now c.args.o.now c.give_plain-in-Literal.new.self c.args.found.now
    c.node-in-Literal.inside.0 c.literal_rank.result c.requires.collected given
    (λ d shows.
    let fits : SFits w32 c.in-Literal.literal = search rules in
    c.literal_rank.ensures d
    (subst (λ z. IsViewOf c.args.m.now (LiteralView z) d) (sym (to_z-of_z w32 c.in-Literal.literal fits))
    (c.in-Literal.ensures.shown d (subst (λ n. Shows c.args.m.now n d) same shows))))).collected)
    c.give_plain-in-Literal.ensures

pub collect-returns-in_ok-collect_below-in-Decomposition-clause-collected :
    goal.collect-returns-in_ok-collect_below-in-Decomposition-clause-collected
collect-returns-in_ok-collect_below-in-Decomposition-clause-collected t c =
    on_ok c.add.result (λ k. k.collected)
    (added_collected c.add.result c.args.m.now c.collect_below.new.o c.collect_below.new.found c.add.new.self
    c.position.result c.node-in-Decomposition-2.inside.0 c.args.node c.node-in-Decomposition-2.view_is
    (at_place c.args.m.now c.requires.table.numbered c.args.node c.in-Decomposition.place c.in-Decomposition.count
    c.position.result c.requires.shown.0 c.requires.shown.1
    (c.in-Decomposition.ensures.shown c.requires.shown.0 c.requires.shown.1.shows)
    (subst (λ z. slice_get (numbers z) c.position.result ≡ Some c.in-Decomposition.place) c.vtree.ensures.vtree
    c.position.ensures.position))
    c.in_ok-collect_below-in-Decomposition.ensures.collected c.in_ok-collect_below-in-Decomposition.ensures.stand
    c.add.ensures.found c.add.ensures.more)

pub collect-returns-in_ok-collect_below-in-Decomposition-clause-keeps_all :
    goal.collect-returns-in_ok-collect_below-in-Decomposition-clause-keeps_all
collect-returns-in_ok-collect_below-in-Decomposition-clause-keeps_all t c =
    on_ok c.add.result (λ k b s. k.keeps_all b (c.in_ok-collect_below-in-Decomposition.ensures.keeps_all b s))
    (added_collected c.add.result c.args.m.now c.collect_below.new.o c.collect_below.new.found c.add.new.self
    c.position.result c.node-in-Decomposition-2.inside.0 c.args.node c.node-in-Decomposition-2.view_is
    (at_place c.args.m.now c.requires.table.numbered c.args.node c.in-Decomposition.place c.in-Decomposition.count
    c.position.result c.requires.shown.0 c.requires.shown.1
    (c.in-Decomposition.ensures.shown c.requires.shown.0 c.requires.shown.1.shows)
    (subst (λ z. slice_get (numbers z) c.position.result ≡ Some c.in-Decomposition.place) c.vtree.ensures.vtree
    c.position.ensures.position))
    c.in_ok-collect_below-in-Decomposition.ensures.collected c.in_ok-collect_below-in-Decomposition.ensures.stand
    c.add.ensures.found c.add.ensures.more)

pub collect-returns-in_ok-collect_below-in-Decomposition-clause-stands :
    goal.collect-returns-in_ok-collect_below-in-Decomposition-clause-stands
collect-returns-in_ok-collect_below-in-Decomposition-clause-stands t c =
    on_ok c.add.result (λ k. k.stands)
    (added_collected c.add.result c.args.m.now c.collect_below.new.o c.collect_below.new.found c.add.new.self
    c.position.result c.node-in-Decomposition-2.inside.0 c.args.node c.node-in-Decomposition-2.view_is
    (at_place c.args.m.now c.requires.table.numbered c.args.node c.in-Decomposition.place c.in-Decomposition.count
    c.position.result c.requires.shown.0 c.requires.shown.1
    (c.in-Decomposition.ensures.shown c.requires.shown.0 c.requires.shown.1.shows)
    (subst (λ z. slice_get (numbers z) c.position.result ≡ Some c.in-Decomposition.place) c.vtree.ensures.vtree
    c.position.ensures.position))
    c.in_ok-collect_below-in-Decomposition.ensures.collected c.in_ok-collect_below-in-Decomposition.ensures.stand
    c.add.ensures.found c.add.ensures.more)

pub collect_below-collect-requires : goal.collect_below-collect-requires
collect_below-collect-requires t c =
    let w = c.requires.shown in
    let k = children c.args.m.now c.args.node w.0 c.loop-index.index w.1 c.element-prime.result w.2
    c.element-prime.ensures.pair in (
      omega (arith, c.decreases, w.3, k.prime_depth),
      (
        c.requires.table,
        (c.loop-index.invariant.collected, (k.prime, k.prime_is, omega (arith, w.3, k.prime_depth))),
      ),
    )

pub collect_below-collect-requires-in-loop-index : goal.collect_below-collect-requires-in-loop-index
collect_below-collect-requires-in-loop-index t c =
    let w = c.requires.shown in
    let k = children c.args.m.now c.args.node w.0 c.loop-index.index w.1 c.element-prime.result w.2
    c.element-prime.ensures.pair in (
      omega (arith, c.decreases, w.3, k.sub_depth),
      (
        c.requires.table,
        (c.in_ok-collect.ensures.collected, (k.sub, k.sub_is, omega (arith, w.3, k.sub_depth))),
      ),
    )

pub collect_below-loop-index-preserved : goal.collect_below-loop-index-preserved
collect_below-loop-index-preserved t c =
    collected_more c.args.m.now c.args.o.now c.loop-index.o c.collect.new.o c.collect-in-loop-index.new.o
    c.args.found.now c.loop-index.found c.collect.new.found c.collect-in-loop-index.new.found c.args.node
    c.loop-index.index c.element-prime.result c.loop-index.invariant c.element-prime.ensures.pair
    c.in_ok-collect.ensures.keeps_all c.in_ok-collect.ensures.stands c.in_ok-collect-2.ensures.collected
    c.in_ok-collect-2.ensures.keeps_all c.in_ok-collect-2.ensures.stands

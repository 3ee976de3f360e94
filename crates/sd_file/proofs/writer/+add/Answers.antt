use Rattle.std.proofs.Common.{◌≡◌, ◌<◌, ltb, true, false, refl, sym, ◌∙◌, subst, arith, rules, w32, length, Some}
use Rattle.std.proofs.Common.{slice_get}
use mir.Val.{SFits}
use Rattle.std.proofs.lemmas.Int.{to_z-of_z}
use Rattle.std.specs.FinMap.{get}
use Rattle.std.specs.Option.{IsSome}
use Rattle.std.proofs.lemmas.Result.{on_ok_weaker}
use Rattle.sd_model.specs.Diagram.{Decomposition}
use Rattle.sd_model.specs.Size.{walk, walk_elements}
use Rattle.sd_model.specs.Listing.{add}
use Rattle.sd_vtree.specs.Numbered.{numbers}
use Rattle.sd_laws.proofs.Codes.{one_diagram}
use Rattle.sd_manager.specs.declared.view.View.TheVariants.{Literal as LiteralView}
use Rattle.sd_manager.specs.Shown.{Shows}
use Rattle.sd_manager.specs.Views.{IsViewOf}
use Rattle.sd_manager.proofs.Reading.{shown_has_node}
use Rattle.sd_file.specs.Numbers.{mark_at}
use Rattle.sd_file.specs.Ordered.{list_of}
use Rattle.sd_file.specs.Lines.{HasNodeLines}
use Rattle.sd_file.proofs.Added.{walk_done, is_new, constant_written, literal_written, inner_can_give}
use Rattle.sd_file.proofs.Added.{decomposition_written}
use Rattle.sd_file.proofs.Complete.{children_added}
use Rattle.sd_file.proofs.Literals.{same_position, stands_within}
use Rattle.sd_file.proofs.Numbering.{have_numbers}
use Rattle.sd_file.proofs.Walking.{walked_more, walked_all, both_at, next_left, none_left}
use Rattle.sd_file.proofs.Walking.{inside, inside_shown, inside_walkable}
use Rattle.sd_file.proofs.writer.+add.Goals as goal

pub add_elements-add_node-requires : goal.add_elements-add_node-requires
add_elements-add_node-requires t c =
    let k = both_at c.args.m.now (list_of c.args.ordered.now) c.args.levels c.args.elements.now
    c.loop-element.element-index c.element-item.result c.requires.shown c.loop-element-test.true
    c.element-item.is in
    (omega (arith, c.decreases), (c.requires.table, (k.0, c.loop-element.invariant.listed)))

pub add_elements-add_node-requires-in-loop-element : goal.add_elements-add_node-requires-in-loop-element
add_elements-add_node-requires-in-loop-element t c =
    let k = both_at c.args.m.now (list_of c.args.ordered.now) c.args.levels c.args.elements.now
    c.loop-element.element-index c.element-item.result c.requires.shown c.loop-element-test.true
    c.element-item.is in
    let s = c.loop-element.invariant.listed in (
      omega (arith, c.decreases),
      (
        c.requires.table,
        (k.1, (add s.0 (walk k.0.0), c.in_ok-add_node.ensures k.0.0 s.0 k.0.1.shows s.1)),
      ),
    )

pub add_elements-loop-element-preserved : goal.add_elements-loop-element-preserved
add_elements-loop-element-preserved t c =
    let k = both_at c.args.m.now (list_of c.args.ordered.now) c.args.levels c.args.elements.now
    c.loop-element.element-index c.element-item.result c.requires.shown c.loop-element-test.true
    c.element-item.is in
    walked_more c.args.m.now (list_of c.args.ordered.now) c.args.levels c.args.elements.now
    c.loop-element.element-index c.element-item.result c.args.listing.now c.loop-element.listing
    c.add_node.new.listing c.add_node-in-loop-element.new.listing c.loop-element.invariant
    (next_left c.args.elements.now c.loop-element.element-index c.element-item.result c.loop-element-test.true
    c.element-item.is)
    k c.in_ok-add_node.ensures c.in_ok-add_node-2.ensures

pub add_elements-returns : goal.add_elements-returns
add_elements-returns t c =
    walked_all c.args.m.now c.args.elements.now c.loop-element.element-index c.args.listing.now c.loop-element.listing
    c.loop-element.invariant (none_left c.args.elements.now c.loop-element.element-index c.loop-element-test.false)

pub add_node-returns-then-has : goal.add_node-returns-then-has
add_node-returns-then-has t c = λ d ds shown w.
    walk_done c.args.m.now c.args.listing.now c.args.node d ds shown w
    (subst (λ x. ltb 0 (mark_at c.args.listing.now.numbers x) ≡ true) c.node.view_is
    (sym c.has.ensures ∙ c.if-has.true))

pub add_node-view-requires : goal.add_node-view-requires
add_node-view-requires t c =
    shown_has_node c.args.m.now c.requires.table.numbered c.args.node c.requires.shown.0 c.requires.shown.1.shows

pub add_node-elements-elements-requires : goal.add_node-elements-elements-requires
add_node-elements-elements-requires t c =
    let i = inside c.args.m.now (list_of c.args.ordered.now) c.args.levels c.args.node c.in-Decomposition.place
    c.in-Decomposition.count c.requires.shown
    (c.in-Decomposition.ensures.shown c.requires.shown.0 c.requires.shown.1.shows) in
    subst IsSome (sym i.kept.is) refl

pub add_node-add_elements-requires : goal.add_node-add_elements-requires
add_node-add_elements-requires t c =
    let i = inside c.args.m.now (list_of c.args.ordered.now) c.args.levels c.args.node c.in-Decomposition.place
    c.in-Decomposition.count c.requires.shown
    (c.in-Decomposition.ensures.shown c.requires.shown.0 c.requires.shown.1.shows) in (
      omega (arith, c.decreases, i.deep),
      (
        c.requires.table,
        (
          inside_walkable c.args.m.now (list_of c.args.ordered.now) c.args.levels c.args.node
              c.in-Decomposition.place c.requires.shown.0 c.elements-elements.result.now i c.elements-elements.ensures,
          c.requires.written,
        ),
      ),
    )

pub add_node-position-requires : goal.add_node-position-requires
add_node-position-requires t c =
    let w = c.in-Decomposition.ensures.shown c.requires.shown.0 c.requires.shown.1.shows in
    subst (λ z. c.in-Decomposition.place < length (numbers z)) (sym c.vtree.ensures.vtree)
    (stands_within c.args.m.now.vtree c.requires.table.numbered w.0 c.in-Decomposition.place w.4)

pub add_node-add_decomposition-requires-clause-given :
    goal.add_node-add_decomposition-requires-clause-given
add_node-add_decomposition-requires-clause-given t c =
    let i = inside c.args.m.now (list_of c.args.ordered.now) c.args.levels c.args.node c.in-Decomposition.place
    c.in-Decomposition.count c.requires.shown
    (c.in-Decomposition.ensures.shown c.requires.shown.0 c.requires.shown.1.shows) in
    let pairs = inside_shown c.args.m.now (list_of c.args.ordered.now) c.args.levels c.args.node
    c.in-Decomposition.place c.requires.shown.0 c.elements-elements.result.now i c.elements-elements.ensures in
    let s = c.requires.written in
    inner_can_give c.args.m.now c.requires.table c.add_elements.new.listing c.args.node i.position i.elements s.0
    i.shown.shows (c.in_ok-add_elements-in-Decomposition.ensures i.elements s.0 pairs s.1)
    (is_new c.args.m.now c.args.listing.now c.args.node (Decomposition i.position i.elements) s.0 i.shown.shows s.1
    (subst (λ x. ltb 0 (mark_at c.args.listing.now.numbers x) ≡ false) c.node.view_is
    (sym c.has.ensures ∙ c.if-has.false)))

pub add_node-add_decomposition-requires-clause-complete :
    goal.add_node-add_decomposition-requires-clause-complete
add_node-add_decomposition-requires-clause-complete t c =
    let i = inside c.args.m.now (list_of c.args.ordered.now) c.args.levels c.args.node c.in-Decomposition.place
    c.in-Decomposition.count c.requires.shown
    (c.in-Decomposition.ensures.shown c.requires.shown.0 c.requires.shown.1.shows) in
    let pairs = inside_shown c.args.m.now (list_of c.args.ordered.now) c.args.levels c.args.node
    c.in-Decomposition.place c.requires.shown.0 c.elements-elements.result.now i c.elements-elements.ensures in
    let s = c.requires.written in
    have_numbers c.args.m.now c.add_elements.new.listing.numbers (add s.0 (walk_elements i.elements))
    (c.in_ok-add_elements-in-Decomposition.ensures i.elements s.0 pairs s.1).numbered
    c.elements-elements.result.now i.elements pairs (children_added s.0 i.elements)

pub add_node-returns-in-Constant : goal.add_node-returns-in-Constant
add_node-returns-in-Constant t c = λ d ds shown w.
    let is = c.in-Constant.ensures.shown d shown in
    on_ok_weaker c.add_constant.result
    (λ line. subst (λ x. HasNodeLines c.args.m.now c.add_constant.new.self (add ds (walk x))) (sym is)
    (constant_written c.args.m.now c.requires.table c.args.listing.now c.add_constant.new.self c.args.node
    c.in-Constant.value ds (subst (Shows c.args.m.now c.args.node) is shown) w
    (subst (λ x. ltb 0 (mark_at c.args.listing.now.numbers x) ≡ false) c.node.view_is
    (sym c.has.ensures ∙ c.if-has.false)) line))
    c.add_constant.ensures

pub add_node-returns-in-Literal : goal.add_node-returns-in-Literal
add_node-returns-in-Literal t c = λ d ds shown w.
    let range : SFits w32 c.in-Literal.literal = search rules in
    let is = c.leaf_of.ensures d
    (subst (λ l. IsViewOf c.args.m.now (LiteralView l) d) (sym (to_z-of_z w32 c.in-Literal.literal range))
    (c.in-Literal.ensures.shown d shown)) in
    on_ok_weaker c.add_literal.result
    (λ line. subst (λ x. HasNodeLines c.args.m.now c.add_literal.new.self (add ds (walk x))) is
    (literal_written c.args.m.now c.requires.table c.args.listing.now c.add_literal.new.self c.args.node
    c.leaf_of.result.position c.leaf_of.result.variable c.leaf_of.result.positive ds
    (subst (Shows c.args.m.now c.args.node) (sym is) shown) w
    (subst (λ x. ltb 0 (mark_at c.args.listing.now.numbers x) ≡ false) c.node.view_is
    (sym c.has.ensures ∙ c.if-has.false)) line))
    c.add_literal.ensures

pub add_node-returns-in_ok-add_elements-in-Decomposition :
    goal.add_node-returns-in_ok-add_elements-in-Decomposition
add_node-returns-in_ok-add_elements-in-Decomposition t c = λ d ds shown w.
    let i = inside c.args.m.now (list_of c.args.ordered.now) c.args.levels c.args.node c.in-Decomposition.place
    c.in-Decomposition.count c.requires.shown
    (c.in-Decomposition.ensures.shown c.requires.shown.0 c.requires.shown.1.shows) in
    let pairs = inside_shown c.args.m.now (list_of c.args.ordered.now) c.args.levels c.args.node
    c.in-Decomposition.place c.requires.shown.0 c.elements-elements.result.now i c.elements-elements.ensures in
    let same = one_diagram c.args.m.now.vtree (get c.args.m.now.linked) c.requires.table.numbered d c.args.node
    (Decomposition i.position i.elements) shown i.shown.shows in
    let place = same_position c.args.m.now.vtree c.requires.table.numbered c.in-Decomposition.place c.position.result
    i.position
    (subst (λ z. slice_get (numbers z) c.position.result ≡ Some c.in-Decomposition.place) c.vtree.ensures.vtree
    c.position.ensures.position) i.at in
    on_ok_weaker c.add_decomposition.result
    (λ line. subst (λ x. HasNodeLines c.args.m.now c.add_decomposition.new.self (add ds (walk x))) (sym same)
    (decomposition_written c.args.m.now c.requires.table c.add_elements.new.listing c.add_decomposition.new.self
    c.args.node c.position.result i.position i.elements c.elements-elements.result.now ds i.shown.shows
    (c.in_ok-add_elements-in-Decomposition.ensures i.elements ds pairs w)
    (is_new c.args.m.now c.args.listing.now c.args.node (Decomposition i.position i.elements) ds i.shown.shows w
    (subst (λ x. ltb 0 (mark_at c.args.listing.now.numbers x) ≡ false) c.node.view_is
    (sym c.has.ensures ∙ c.if-has.false))) pairs place line))
    c.add_decomposition.ensures

use Rattle.std.proofs.Common.{subst, ◌≡◌, ◌∙◌, ◌+◌, ap, sym, refl, arith, length}
use Rattle.std.proofs.lemmas.List.{with_items_is}
use Rattle.std.proofs.lemmas.Bool.{false≢true}
use Rattle.sd_model.specs.declared.trees.Move.TheVariants.{Swap}
use Rattle.sd_vtree.specs.Numbered.{numbers}
use Rattle.sd_vtree.specs.Stored.{HasSizes}
use Rattle.sd_vtree.proofs.Sized.{sized_swap}
use Rattle.sd_vtree.proofs.Reading.{kept_as}
use Rattle.sd_vtree.proofs.Times.{smaller}
use Rattle.sd_vtree.proofs.Moved.{view_root, turned_kept, turned_moved, turned_count, turned_numbered, turned_some}
use Rattle.sd_vtree.proofs.Movable.{leaf_not_movable}
use Rattle.sd_vtree.proofs.Swapped.{sides, swapped, numbers_apart, numbers_within}
use Rattle.sd_vtree.proofs.Sides.{order_swapped, swapped_numbered, swapped_length, sides_order, length_numbers}
use Rattle.sd_vtree.proofs.Sides.{inside_after, outside_after}
use Rattle.sd_vtree.proofs.vtree.Vtree.swap.Goals as goal

pub returns-in_default-clause-not_movable : goal.returns-in_default-clause-not_movable
returns-in_default-clause-not_movable c = (
  λ _. leaf_not_movable Swap c.args.self.now c.args.node c.children.ensures.numbered c.requires
      c.in_default.ensures.children,
  λ _. refl,
)

pub exchange_sides-requires : goal.exchange_sides-requires
exchange_sides-requires c =
    let kept = kept_as c.self.invariant.0 c.self.view_is in
    let s = sides c.children.ensures.numbered c.in-Some.ensures.children c.position-position.result
    c.first_below-from.result c.last_below.result
    c.position-position.ensures.position c.first_below-from.ensures c.last_below.ensures in
    let o = sides_order s in
    record {
      first = o.0;
      second = o.1;
      within = (let k = ap length (c.deref_mut.ensures.value ∙ kept.ordered) in let b = o.2 in omega arith);
    }

pub write_positions-requires-clause-order : goal.write_positions-requires-clause-order
write_positions-requires-clause-order c =
    let kept = kept_as c.self.invariant.0 c.self.view_is in
    let s = sides c.children.ensures.numbered c.in-Some.ensures.children c.position-position.result
    c.first_below-from.result c.last_below.result
    c.position-position.ensures.position c.first_below-from.ensures c.last_below.ensures in
    let o = sides_order s in let a = o.0 in let b = o.1 in
    omega arith

pub write_positions-requires-clause-within : goal.write_positions-requires-clause-within
write_positions-requires-clause-within c =
    let kept = kept_as c.self.invariant.0 c.self.view_is in
    let s = sides c.children.ensures.numbered c.in-Some.ensures.children c.position-position.result
    c.first_below-from.result c.last_below.result
    c.position-position.ensures.position c.first_below-from.ensures c.last_below.ensures in
    let e = order_swapped s c.deref_mut.result.now c.exchange_sides.new.order (c.deref_mut.ensures.value
    ∙ kept.ordered) c.exchange_sides.ensures in
    let w = with_items_is c.self.inside.order c.exchange_sides.new.order (ap length e
    ∙ (swapped_length s ∙ (sym (ap length kept.ordered) ∙ sym c.self.inside.order.ok.0))) in
    let d : c.deref.result.now ≡ numbers s.moved.result = c.deref.ensures.value ∙ (w ∙ e) in
    let size : length c.deref.result.now ≡ length (numbers c.args.self.now) = ap length d ∙ swapped_length s in
    let o = (sides_order s).2 in
    omega arith

pub write_positions-requires-clause-fits : goal.write_positions-requires-clause-fits
write_positions-requires-clause-fits c =
    let kept = kept_as c.self.invariant.0 c.self.view_is in
    let s = sides c.children.ensures.numbered c.in-Some.ensures.children c.position-position.result
    c.first_below-from.result c.last_below.result
    c.position-position.ensures.position c.first_below-from.ensures c.last_below.ensures in
    let e = order_swapped s c.deref_mut.result.now c.exchange_sides.new.order (c.deref_mut.ensures.value
    ∙ kept.ordered) c.exchange_sides.ensures in
    let w = with_items_is c.self.inside.order c.exchange_sides.new.order (ap length e
    ∙ (swapped_length s ∙ (sym (ap length kept.ordered) ∙ sym c.self.inside.order.ok.0))) in
    let d : c.deref.result.now ≡ numbers s.moved.result = c.deref.ensures.value ∙ (w ∙ e) in
    let size : length c.deref.result.now ≡ length (numbers c.args.self.now) = ap length d ∙ swapped_length s in
    let f = c.children.ensures.numbered.within_limit in
    omega (arith, length_numbers c.args.self.now)

pub write_positions-requires-clause-nodes : goal.write_positions-requires-clause-nodes
write_positions-requires-clause-nodes c = λ p h.
    let kept = kept_as c.self.invariant.0 c.self.view_is in
    let s = sides c.children.ensures.numbered c.in-Some.ensures.children c.position-position.result
    c.first_below-from.result c.last_below.result
    c.position-position.ensures.position c.first_below-from.ensures c.last_below.ensures in
    let e = order_swapped s c.deref_mut.result.now c.exchange_sides.new.order (c.deref_mut.ensures.value
    ∙ kept.ordered) c.exchange_sides.ensures in
    let w = with_items_is c.self.inside.order c.exchange_sides.new.order (ap length e
    ∙ (swapped_length s ∙ (sym (ap length kept.ordered) ∙ sym c.self.inside.order.ok.0))) in
    let d : c.deref.result.now ≡ numbers s.moved.result = c.deref.ensures.value ∙ (w ∙ e) in
    let size : length c.deref.result.now ≡ length (numbers c.args.self.now) = ap length d ∙ swapped_length s in
    let k : length c.deref_mut-2.result.now ≡ length (numbers c.args.self.now) = ap length c.deref_mut-2.ensures.value
    ∙ kept.placed in
    smaller (numbers_within s.moved.result (swapped_numbered s kept.valid) c.deref.result.now d p h) (size ∙ sym k)

pub write_positions-requires-clause-apart : goal.write_positions-requires-clause-apart
write_positions-requires-clause-apart c = λ p q x y.
    let kept = kept_as c.self.invariant.0 c.self.view_is in
    let s = sides c.children.ensures.numbered c.in-Some.ensures.children c.position-position.result
    c.first_below-from.result c.last_below.result
    c.position-position.ensures.position c.first_below-from.ensures c.last_below.ensures in
    let e = order_swapped s c.deref_mut.result.now c.exchange_sides.new.order (c.deref_mut.ensures.value
    ∙ kept.ordered) c.exchange_sides.ensures in
    let w = with_items_is c.self.inside.order c.exchange_sides.new.order (ap length e
    ∙ (swapped_length s ∙ (sym (ap length kept.ordered) ∙ sym c.self.inside.order.ok.0))) in
    let d : c.deref.result.now ≡ numbers s.moved.result = c.deref.ensures.value ∙ (w ∙ e) in
    let size : length c.deref.result.now ≡ length (numbers c.args.self.now) = ap length d ∙ swapped_length s in
    numbers_apart s.moved.result (swapped_numbered s kept.valid) c.deref.result.now d p q x y

pub invariant_of-self : goal.invariant_of-self
invariant_of-self c =
    let kept = kept_as c.self.invariant.0 c.self.view_is in
    let s = sides c.children.ensures.numbered c.in-Some.ensures.children c.position-position.result
    c.first_below-from.result c.last_below.result
    c.position-position.ensures.position c.first_below-from.ensures c.last_below.ensures in
    let e = order_swapped s c.deref_mut.result.now c.exchange_sides.new.order (c.deref_mut.ensures.value
    ∙ kept.ordered) c.exchange_sides.ensures in
    let w = with_items_is c.self.inside.order c.exchange_sides.new.order (ap length e
    ∙ (swapped_length s ∙ (sym (ap length kept.ordered) ∙ sym c.self.inside.order.ok.0))) in
    let d = c.deref.ensures.value in
    let z = with_items_is c.self.inside.positions c.write_positions.new.positions (c.write_positions.auto.positions
    ∙ c.deref_mut-2.ensures.len) in
    let u = swapped kept s c.index.result c.index.ensures c.requires _ _ (w ∙ e) (ap length z
    ∙ (c.write_positions.auto.positions ∙ ap length c.deref_mut-2.ensures.value))
    (inside_after c.deref.result.now _ c.write_positions.new.positions _ c.first_below-from.result
    (c.last_below.result + 1) d z c.write_positions.ensures.inside)
    (outside_after c.deref.result.now _ c.write_positions.new.positions _ c.deref_mut-2.result.now
    c.self.inside.positions.items c.first_below-from.result (c.last_below.result + 1) d z
    c.deref_mut-2.ensures.value c.write_positions.ensures.outside) in
    let r = view_root _ _ c.self.inside.root c.self.view_is in
    let st = subst (λ t. HasSizes t c.self.inside.sizes.items) c.self.view_is c.self.invariant.1 in (
      turned_kept u c.self.inside.root r,
      sized_swap c.self.inside.sizes.items kept.valid st c.args.node c.in-Some.ensures.children _
          (turned_moved u c.self.inside.root r),
    )

pub returns : goal.returns
returns c =
    let kept = kept_as c.self.invariant.0 c.self.view_is in
    let s = sides c.children.ensures.numbered c.in-Some.ensures.children c.position-position.result
    c.first_below-from.result c.last_below.result
    c.position-position.ensures.position c.first_below-from.ensures c.last_below.ensures in
    let e = order_swapped s c.deref_mut.result.now c.exchange_sides.new.order (c.deref_mut.ensures.value
    ∙ kept.ordered) c.exchange_sides.ensures in
    let w = with_items_is c.self.inside.order c.exchange_sides.new.order (ap length e
    ∙ (swapped_length s ∙ (sym (ap length kept.ordered) ∙ sym c.self.inside.order.ok.0))) in
    let d = c.deref.ensures.value in
    let z = with_items_is c.self.inside.positions c.write_positions.new.positions (c.write_positions.auto.positions
    ∙ c.deref_mut-2.ensures.len) in
    let u = swapped kept s c.index.result c.index.ensures c.requires _ _ (w ∙ e) (ap length z
    ∙ (c.write_positions.auto.positions ∙ ap length c.deref_mut-2.ensures.value))
    (inside_after c.deref.result.now _ c.write_positions.new.positions _ c.first_below-from.result
    (c.last_below.result + 1) d z c.write_positions.ensures.inside)
    (outside_after c.deref.result.now _ c.write_positions.new.positions _ c.deref_mut-2.result.now
    c.self.inside.positions.items c.first_below-from.result (c.last_below.result + 1) d z
    c.deref_mut-2.ensures.value c.write_positions.ensures.outside) in
    let r = view_root _ _ c.self.inside.root c.self.view_is in
    record {
      moved = turned_moved u c.self.inside.root r;
      not_movable = (λ e. absurd (false≢true e), λ e. absurd (turned_some u e));
      unchanged = tt;
      count = turned_count u c.self.inside.root r;
      numbered = turned_numbered u c.self.inside.root r;
    }

use Rattle.std.proofs.Common.{◌∙◌, ◌+◌, ap, sym, subst, refl, arith, length, set}
use Rattle.std.proofs.lemmas.List.{with_items_is}
use Rattle.std.proofs.lemmas.Bool.{false≢true}
use Rattle.sd_model.specs.declared.trees.Move.TheVariants.{RotateLeft}
use Rattle.sd_vtree.specs.Stored.{HasSizes}
use Rattle.sd_vtree.proofs.Reading.{kept_as}
use Rattle.sd_vtree.proofs.Times.{smaller}
use Rattle.sd_vtree.proofs.Subtrees.{inner_pair}
use Rattle.sd_vtree.proofs.Moved.{view_root, turned_kept, turned_moved, turned_count, turned_numbered, turned_some}
use Rattle.sd_vtree.proofs.Sized.{size_within, sized_left}
use Rattle.sd_vtree.proofs.Rotated.{rotated_left}
use Rattle.sd_vtree.proofs.Movable.{leaf_not_movable, left_not_movable, position_within, placed_after, order_after}
use Rattle.sd_vtree.proofs.Movable.{positions_after, length_two, nodes_after}
use Rattle.sd_vtree.proofs.vtree.Vtree.rotate_left.Goals as goal

pub returns-in_default-clause-not_movable : goal.returns-in_default-clause-not_movable
returns-in_default-clause-not_movable c = (
  λ _. leaf_not_movable RotateLeft c.args.self.now c.args.node c.children.ensures.numbered c.requires
      c.in_default.ensures.children,
  λ _. refl,
)

pub returns-in_default-children-clause-not_movable : goal.returns-in_default-children-clause-not_movable
returns-in_default-children-clause-not_movable c = (
  λ _. left_not_movable c.args.node c.children.ensures.numbered c.in-Some.ensures.children
      c.in_default-children.ensures.children,
  λ _. refl,
)

pub children-requires-2 : goal.children-requires-2
children-requires-2 c = (inner_pair c.children.ensures.numbered c.in-Some.ensures.children).right_within

pub index_mut-requires-2 : goal.index_mut-requires-2
index_mut-requires-2 c =
    let kept = kept_as c.self.invariant.0 c.self.view_is in
    let w = (inner_pair c.children.ensures.numbered c.in-Some.ensures.children).right_within in
    let k = kept.counted in
    let v = c.self.inside.nodes.ok.0 in
    omega arith

pub index_mut-requires-3 : goal.index_mut-requires-3
index_mut-requires-3 c =
    let kept = kept_as c.self.invariant.0 c.self.view_is in
    let st = subst (λ t. HasSizes t c.self.inside.sizes.items) c.self.view_is c.self.invariant.1 in
    let w = size_within c.args.self.now c.self.inside.sizes.items kept.valid st _
    (inner_pair c.children.ensures.numbered c.in-Some.ensures.children).right_within in
    let v = c.self.inside.sizes.ok.0 in
    omega (arith, c.index-3.ensures)

pub exchange-requires-clause-b_in_range : goal.exchange-requires-clause-b_in_range
exchange-requires-clause-b_in_range c =
    let kept = kept_as c.self.invariant.0 c.self.view_is in
    let w = (inner_pair c.children.ensures.numbered c.in-Some.ensures.children).right_within in
    let k = kept.placed in
    omega (arith, ap length c.deref_mut-2.ensures.value)

pub exchange-requires-clause-a_placed : goal.exchange-requires-clause-a_placed
exchange-requires-clause-a_placed c =
    let kept = kept_as c.self.invariant.0 c.self.view_is in
    placed_after c.self.inside.order.items c.self.inside.positions.items _ _ _ c.deref_mut.ensures.value
    c.deref_mut-2.ensures.value
    (smaller (position_within kept c.args.node c.requires) (sym (ap length kept.ordered)))

pub exchange-requires-clause-b_placed : goal.exchange-requires-clause-b_placed
exchange-requires-clause-b_placed c =
    let kept = kept_as c.self.invariant.0 c.self.view_is in
    placed_after c.self.inside.order.items c.self.inside.positions.items _ _ _ c.deref_mut.ensures.value
    c.deref_mut-2.ensures.value
    (smaller (position_within kept _ (inner_pair c.children.ensures.numbered c.in-Some.ensures.children).right_within)
    (sym (ap length kept.ordered)))

pub invariant_of-self : goal.invariant_of-self
invariant_of-self c =
    let kept = kept_as c.self.invariant.0 c.self.view_is in
    let oo = with_items_is c.self.inside.order c.exchange.new.order (ap length c.exchange.ensures.order
    ∙ (length_two _ _ _ _ _ ∙ c.deref_mut.ensures.len)) in
    let pp = with_items_is c.self.inside.positions c.exchange.new.positions (ap length c.exchange.ensures.positions
    ∙ (length_two _ _ _ _ _ ∙ c.deref_mut-2.ensures.len)) in
    let u = rotated_left kept c.args.node c.in-Some.ensures.children c.in-Some-children.ensures.children _ _ _
    (nodes_after c.self.inside.nodes.items c.index.result c.index-2.result _ _ _ _ c.index.ensures c.index-2.ensures)
    (order_after c.self.inside.order.items c.self.inside.positions.items _ _ _ _ _ _ c.deref_mut.ensures.value
    c.deref_mut-2.ensures.value c.exchange.ensures.order oo)
    (positions_after c.self.inside.positions.items _ _ _ _ _ c.deref_mut-2.ensures.value c.exchange.ensures.positions
    pp) in
    let r = view_root _ _ c.self.inside.root c.self.view_is in
    let st = subst (λ t. HasSizes t c.self.inside.sizes.items) c.self.view_is c.self.invariant.1 in (
      turned_kept u c.self.inside.root r,
      sized_left c.self.inside.sizes.items kept.valid st c.args.node c.in-Some.ensures.children
          c.in-Some-children.ensures.children _ c.size.result c.size-2.result c.size.ensures.size
          c.size-2.ensures.size
          (ap (λ k. set c.self.inside.sizes.items k (c.size.result + 1 + c.size-2.result)) c.index-3.ensures)
          _ (turned_moved u c.self.inside.root r),
    )

pub returns : goal.returns
returns c =
    let kept = kept_as c.self.invariant.0 c.self.view_is in
    let oo = with_items_is c.self.inside.order c.exchange.new.order (ap length c.exchange.ensures.order
    ∙ (length_two _ _ _ _ _ ∙ c.deref_mut.ensures.len)) in
    let pp = with_items_is c.self.inside.positions c.exchange.new.positions (ap length c.exchange.ensures.positions
    ∙ (length_two _ _ _ _ _ ∙ c.deref_mut-2.ensures.len)) in
    let u = rotated_left kept c.args.node c.in-Some.ensures.children c.in-Some-children.ensures.children _ _ _
    (nodes_after c.self.inside.nodes.items c.index.result c.index-2.result _ _ _ _ c.index.ensures c.index-2.ensures)
    (order_after c.self.inside.order.items c.self.inside.positions.items _ _ _ _ _ _ c.deref_mut.ensures.value
    c.deref_mut-2.ensures.value c.exchange.ensures.order oo)
    (positions_after c.self.inside.positions.items _ _ _ _ _ c.deref_mut-2.ensures.value c.exchange.ensures.positions
    pp) in
    let r = view_root _ _ c.self.inside.root c.self.view_is in
    record {
      moved = turned_moved u c.self.inside.root r;
      not_movable = (λ e. absurd (false≢true e), λ e. absurd (turned_some u e));
      unchanged = tt;
      count = turned_count u c.self.inside.root r;
      numbered = turned_numbered u c.self.inside.root r;
    }

use Rattle.std.proofs.Common.{◌≡◌, ◌∙◌, ap, sym, subst, arith, length, slice_get, slice_index, Some, ◌-◌}
use Rattle.std.specs.List.{range_with_len}
use Rattle.sd_model.specs.Seen.{tree_of}
use Rattle.sd_model.specs.Tree.{position}
use Rattle.sd_vtree.specs.declared.shape.Shape.TheVariants.{Leaf}
use Rattle.sd_vtree.specs.Numbered.{plain_tree, IsNumbered}
use Rattle.sd_vtree.specs.Stored.{HoldsTree, HasSizes}
use Rattle.sd_vtree.proofs.Building.{made, view_made, built_kept, built_numbered, leaf_in_range, length_shapes}
use Rattle.sd_vtree.proofs.Building.{plain_tree_numbered_from, sized_tree}
use Rattle.sd_vtree.proofs.vtree.Vtree.of_tree.Goals as goal

pub overflow_cast-count : goal.overflow_cast-count
overflow_cast-count c =
    let e = made (tree_of c.args.tree.now) c.new-nodes.result.items c.add_nodes.new.nodes.items
    c.new-nodes.ensures.items c.in_ok-root.ensures.nodes in
    let v = c.add_nodes.new.nodes.ok.0 in
    omega (arith, ap length e, length_shapes 0 (tree_of c.args.tree.now))

pub overflow_add-count : goal.overflow_add-count
overflow_add-count c =
    let e = made (tree_of c.args.tree.now) c.new-nodes.result.items c.add_nodes.new.nodes.items
    c.new-nodes.ensures.items c.in_ok-root.ensures.nodes in
    let v = c.add_nodes.new.nodes.ok.0 in
    omega (arith, ap length e, length_shapes 0 (tree_of c.args.tree.now))

pub leaves_of-requires-clause-positive : goal.leaves_of-requires-clause-positive
leaves_of-requires-clause-positive c = λ k x h.
    let e = made (tree_of c.args.tree.now) c.new-nodes.result.items c.add_nodes.new.nodes.items
    c.new-nodes.ensures.items c.in_ok-root.ensures.nodes in
    (leaf_in_range (tree_of c.args.tree.now) c.deref.result.now c.requires.vtree (c.deref.ensures.value ∙ e) k x h).0

pub leaves_of-requires-clause-within : goal.leaves_of-requires-clause-within
leaves_of-requires-clause-within c = λ k x h.
    let e = made (tree_of c.args.tree.now) c.new-nodes.result.items c.add_nodes.new.nodes.items
    c.new-nodes.ensures.items c.in_ok-root.ensures.nodes in
    let v = c.add_nodes.new.nodes.ok.0 in
    let r = (leaf_in_range (tree_of c.args.tree.now) c.deref.result.now c.requires.vtree (c.deref.ensures.value
    ∙ e) k x h).1 in
    omega (arith, ap length e, length_shapes 0 (tree_of c.args.tree.now))

pub leaves_of-requires-clause-within_limit : goal.leaves_of-requires-clause-within_limit
leaves_of-requires-clause-within_limit c =
    let e = made (tree_of c.args.tree.now) c.new-nodes.result.items c.add_nodes.new.nodes.items
    c.new-nodes.ensures.items c.in_ok-root.ensures.nodes in
    omega (arith, ap length (c.deref.ensures.value ∙ e), length_shapes 0 (tree_of c.args.tree.now))

pub invariant_of-result : goal.invariant_of-result
invariant_of-result c =
    let e = made (tree_of c.args.tree.now) c.new-nodes.result.items c.add_nodes.new.nodes.items
    c.new-nodes.ensures.items c.in_ok-root.ensures.nodes in
    let n = c.in_ok-root.ensures.root
    ∙ ap (λ k. position (tree_of c.args.tree.now) k) (ap length c.new-nodes.ensures.items) in
    let v = c.add_nodes.new.nodes.ok.0 in
    let k : c.len-count.result ≡ length c.add_nodes.new.nodes.items = c.len-count.ensures ∙ v in
    let tree = view_made (tree_of c.args.tree.now) c.add_nodes.new.nodes.items c.in_ok-root.root e n in (
      subst (λ t. HoldsTree c.add_nodes.new.nodes.items c.in_ok-positions.positions.items c.in_ok-order.order.items
          c.in_ok-leaf_list.leaf_list.items t)
          (sym tree)
          (built_kept (tree_of c.args.tree.now) c.add_nodes.new.nodes.items c.in_ok-positions.positions.items
          c.in_ok-order.order.items c.in_ok-leaf_list.leaf_list.items
          c.requires.vtree c.requires.within_limit e (c.in_ok-positions.ensures ∙ ap (range_with_len 0) k)
          (c.in_ok-order.ensures
          ∙ ap (range_with_len 0) k)
          (omega (arith, ap length e, length_shapes 0 (tree_of c.args.tree.now), c.in_ok-leaf_list.ensures.count))
          (λ j x h. subst (λ xs. slice_get xs (slice_index c.in_ok-leaf_list.leaf_list.items (x - 1)) ≡ Some (Leaf x))
          c.deref.ensures.value
          (c.in_ok-leaf_list.ensures.leaves j x
          (subst (λ xs. slice_get xs j ≡ Some (Leaf x)) (sym c.deref.ensures.value) h)))),
      subst (λ t. HasSizes t c.add_sizes.new.sizes.items) (sym tree)
          (sized_tree (tree_of c.args.tree.now) c.new-sizes.result.items c.add_sizes.new.sizes.items
          c.new-sizes.ensures.items c.in_ok-add_sizes.ensures.sizes),
    )

pub returns-clause-tree : goal.returns-clause-tree
returns-clause-tree c =
    let e = made (tree_of c.args.tree.now) c.new-nodes.result.items c.add_nodes.new.nodes.items
    c.new-nodes.ensures.items c.in_ok-root.ensures.nodes in
    let n = c.in_ok-root.ensures.root
    ∙ ap (λ k. position (tree_of c.args.tree.now) k) (ap length c.new-nodes.ensures.items) in
    ap plain_tree (view_made (tree_of c.args.tree.now) c.add_nodes.new.nodes.items c.in_ok-root.root e n)
    ∙ plain_tree_numbered_from 0 (tree_of c.args.tree.now)

pub returns-clause-numbered : goal.returns-clause-numbered
returns-clause-numbered c =
    let e = made (tree_of c.args.tree.now) c.new-nodes.result.items c.add_nodes.new.nodes.items
    c.new-nodes.ensures.items c.in_ok-root.ensures.nodes in
    let n = c.in_ok-root.ensures.root
    ∙ ap (λ k. position (tree_of c.args.tree.now) k) (ap length c.new-nodes.ensures.items) in
    subst IsNumbered (sym (view_made (tree_of c.args.tree.now) c.add_nodes.new.nodes.items c.in_ok-root.root e n))
    (built_numbered (tree_of c.args.tree.now) c.requires.vtree c.requires.within_limit)

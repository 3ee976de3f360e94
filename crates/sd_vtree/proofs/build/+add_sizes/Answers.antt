use Rattle.std.proofs.Common.{◌≡◌, ◌∙◌, ap, sym, arith, ◌^◌}
use Rattle.sd_model.specs.Tree.{Node}
use Rattle.sd_model.specs.Seen.{tree_of}
use Rattle.sd_vtree.proofs.Building.{sizes_added, room_sizes}
use Rattle.sd_vtree.proofs.build.+add_sizes.Goals as goal

pub overflow_add-count : goal.overflow_add-count
overflow_add-count t c =
    let e : tree_of c.args.tree.now ≡ Node (tree_of c.deref.result.now) (tree_of c.deref-in-Node.result.now) =
    ap tree_of c.in-Node.is
    ∙ (ap (λ l. Node (tree_of l) (tree_of c.in-Node.right.value)) (sym c.deref.ensures)
    ∙ ap (λ l. Node (tree_of c.deref.result.now) (tree_of l)) (sym c.deref-in-Node.ensures)) in
    omega (
      arith,
      c.in_ok-before-in-Node.ensures.count,
      room_sizes (tree_of c.deref.result.now) (tree_of c.deref-in-Node.result.now) (tree_of c.args.tree.now) (2 ^ 32) e
          c.requires,
    )

pub overflow_add-count-in-Node : goal.overflow_add-count-in-Node
overflow_add-count-in-Node t c =
    let e : tree_of c.args.tree.now ≡ Node (tree_of c.deref.result.now) (tree_of c.deref-in-Node.result.now) =
    ap tree_of c.in-Node.is
    ∙ (ap (λ l. Node (tree_of l) (tree_of c.in-Node.right.value)) (sym c.deref.ensures)
    ∙ ap (λ l. Node (tree_of c.deref.result.now) (tree_of l)) (sym c.deref-in-Node.ensures)) in
    omega (
      arith,
      c.in_ok-before-in-Node.ensures.count,
      c.in_ok-after-in-Node.ensures.count,
      room_sizes (tree_of c.deref.result.now) (tree_of c.deref-in-Node.result.now) (tree_of c.args.tree.now) (2 ^ 32) e
          c.requires,
    )

pub returns-in_ok-after-in-Node-clause-sizes : goal.returns-in_ok-after-in-Node-clause-sizes
returns-in_ok-after-in-Node-clause-sizes t c =
    sizes_added c.args.sizes.now.items c.add_sizes.new.sizes.items c.push-in-Node.new.self.items
    c.add_sizes-in-Node.new.sizes.items
    (tree_of c.deref.result.now) (tree_of c.deref-in-Node.result.now) (tree_of c.args.tree.now)
    c.in_ok-before-in-Node.before c.len-place.result c.in_ok-before-in-Node.before c.in_ok-after-in-Node.after
    (ap tree_of c.in-Node.is
    ∙ (ap (λ l. Node (tree_of l) (tree_of c.in-Node.right.value)) (sym c.deref.ensures)
    ∙ ap (λ l. Node (tree_of c.deref.result.now) (tree_of l)) (sym c.deref-in-Node.ensures)))
    (c.len-place.ensures ∙ c.add_sizes.new.sizes.ok.0)
    c.in_ok-before-in-Node.ensures.count c.in_ok-after-in-Node.ensures.count
    c.in_ok-before-in-Node.ensures.sizes c.in_ok-push-in-Node.ensures.items c.in_ok-after-in-Node.ensures.sizes

use Rattle.std.proofs.Common.{◌∙◌, ◌∷◌, [], ap, sym, length, length-append, rules, arith, ◌^◌, None}
use Rattle.sd_model.specs.declared.trees.Tree.{the_lemmas}
use Rattle.sd_model.specs.Tree.{Node}
use Rattle.sd_model.specs.Seen.{tree_of}
use Rattle.sd_check.proofs.ForkTables.{room_left, room_all, node_filled}
use Rattle.sd_check.proofs.forks.+push_forks.Goals as goal

pub overflow_cast-middle : goal.overflow_cast-middle
overflow_cast-middle t c =
    let r = room_left c.args.forks.now.items c.push_forks.new.forks.items (tree_of c.deref.result.now)
    (tree_of c.in-Node.right.value) (tree_of c.args.tree.now) (2 ^ 32)
    (ap tree_of c.in-Node.is ∙ ap (λ l. Node (tree_of l) (tree_of c.in-Node.right.value)) (sym c.deref.ensures))
    c.in_ok-push_forks-in-Node.ensures c.requires in
    let v = c.push_forks.new.forks.ok.0 in
    omega (arith, c.len-middle.ensures)

pub push_forks-requires-in-Node : goal.push_forks-requires-in-Node
push_forks-requires-in-Node t c =
    let r = room_left c.args.forks.now.items c.push_forks.new.forks.items (tree_of c.deref.result.now)
    (tree_of c.deref-in-Node.result.now) (tree_of c.args.tree.now) (2 ^ 32)
    (ap tree_of c.in-Node.is
    ∙ (ap (λ l. Node (tree_of l) (tree_of c.in-Node.right.value)) (sym c.deref.ensures)
    ∙ ap (λ l. Node (tree_of c.deref.result.now) (tree_of l)) (sym c.deref-in-Node.ensures)))
    c.in_ok-push_forks-in-Node.ensures c.requires in
    let p = ap length c.in_ok-push-in-Node.ensures.items in (
      search (rules, the_lemmas),
      omega (arith, length-append c.push_forks.new.forks.items (None ∷ [])),
    )

pub overflow_cast-end : goal.overflow_cast-end
overflow_cast-end t c =
    let r = room_all c.args.forks.now.items c.push_forks.new.forks.items c.push-in-Node.new.self.items
    c.push_forks-in-Node.new.forks.items
    (tree_of c.deref.result.now) (tree_of c.deref-in-Node.result.now) (tree_of c.args.tree.now) None (2 ^ 32)
    (ap tree_of c.in-Node.is
    ∙ (ap (λ l. Node (tree_of l) (tree_of c.in-Node.right.value)) (sym c.deref.ensures)
    ∙ ap (λ l. Node (tree_of c.deref.result.now) (tree_of l)) (sym c.deref-in-Node.ensures)))
    c.in_ok-push_forks-in-Node.ensures c.in_ok-push-in-Node.ensures.items c.in_ok-push_forks-in-Node-2.ensures
    c.requires in
    let v = c.push_forks-in-Node.new.forks.ok.0 in
    omega (arith, c.len-end.ensures)

pub returns-in_ok-push_forks-in-Node-2 : goal.returns-in_ok-push_forks-in-Node-2
returns-in_ok-push_forks-in-Node-2 t c =
    node_filled c.args.forks.now.items c.push_forks.new.forks.items c.push-in-Node.new.self.items
    c.push_forks-in-Node.new.forks.items
    (tree_of c.deref.result.now) (tree_of c.deref-in-Node.result.now) (tree_of c.args.tree.now) None
    c.len-first.result c.len-middle.result c.len-end.result
    (ap tree_of c.in-Node.is
    ∙ (ap (λ l. Node (tree_of l) (tree_of c.in-Node.right.value)) (sym c.deref.ensures)
    ∙ ap (λ l. Node (tree_of c.deref.result.now) (tree_of l)) (sym c.deref-in-Node.ensures)))
    (c.len-first.ensures ∙ c.args.forks.now.ok.0) (c.len-middle.ensures ∙ c.push_forks.new.forks.ok.0)
    (c.len-end.ensures ∙ c.push_forks-in-Node.new.forks.ok.0)
    c.in_ok-push_forks-in-Node.ensures c.in_ok-push-in-Node.ensures.items c.in_ok-push_forks-in-Node-2.ensures

use Rattle.std.proofs.Common.{◌∙◌, ◌∷◌, [], ap, sym, length, length-append, rules, arith, ◌^◌}
use Rattle.sd_model.specs.declared.trees.Tree.{the_lemmas}
use Rattle.sd_model.specs.Tree.{Node}
use Rattle.sd_model.specs.Seen.{tree_of}
use Rattle.sd_vtree.specs.declared.shape.Shape.TheVariants.{Inner}
use Rattle.sd_vtree.proofs.Building.{node_added_as, root_added, room_added}
use Rattle.sd_vtree.proofs.build.+add_nodes.Goals as goal

pub overflow_cast-number-in-Node : goal.overflow_cast-number-in-Node
overflow_cast-number-in-Node t c =
    let r = room_added c.args.nodes.now.items c.add_nodes.new.nodes.items (tree_of c.deref.result.now)
    (tree_of c.in-Node.right.value) (tree_of c.args.tree.now) (2 ^ 32)
    (ap tree_of c.in-Node.is ∙ ap (λ l. Node (tree_of l) (tree_of c.in-Node.right.value)) (sym c.deref.ensures))
    c.in_ok-left-in-Node.ensures.nodes c.requires in
    let v = c.add_nodes.new.nodes.ok.0 in
    omega arith

pub add_nodes-requires-in-Node : goal.add_nodes-requires-in-Node
add_nodes-requires-in-Node t c =
    let r = room_added c.args.nodes.now.items c.add_nodes.new.nodes.items (tree_of c.deref.result.now)
    (tree_of c.deref-in-Node.result.now) (tree_of c.args.tree.now) (2 ^ 32)
    (ap tree_of c.in-Node.is
    ∙ (ap (λ l. Node (tree_of l) (tree_of c.in-Node.right.value)) (sym c.deref.ensures)
    ∙ ap (λ l. Node (tree_of c.deref.result.now) (tree_of l)) (sym c.deref-in-Node.ensures)))
    c.in_ok-left-in-Node.ensures.nodes c.requires in
    let p = ap length c.in_ok-push-in-Node.ensures.items in (
      search (rules, the_lemmas),
      omega (
        arith,
        length-append c.add_nodes.new.nodes.items
            (Inner c.in_ok-left-in-Node.left c.in_ok-left-in-Node.left ∷ []),
      ),
    )

pub returns-in_ok-right-in-Node-clause-root : goal.returns-in_ok-right-in-Node-clause-root
returns-in_ok-right-in-Node-clause-root t c =
    c.len-in-Node.ensures
    ∙ (c.add_nodes.new.nodes.ok.0
    ∙ root_added c.args.nodes.now.items c.add_nodes.new.nodes.items (tree_of c.deref.result.now)
    (tree_of c.in-Node.right.value) (tree_of c.args.tree.now)
    (ap tree_of c.in-Node.is ∙ ap (λ l. Node (tree_of l) (tree_of c.in-Node.right.value)) (sym c.deref.ensures))
    c.in_ok-left-in-Node.ensures.nodes)

pub returns-in_ok-right-in-Node-clause-nodes : goal.returns-in_ok-right-in-Node-clause-nodes
returns-in_ok-right-in-Node-clause-nodes t c =
    node_added_as c.args.nodes.now.items c.add_nodes.new.nodes.items c.push-in-Node.new.self.items
    c.add_nodes-in-Node.new.nodes.items
    (tree_of c.deref.result.now) (tree_of c.deref-in-Node.result.now) (tree_of c.args.tree.now)
    (Inner c.in_ok-left-in-Node.left c.in_ok-left-in-Node.left)
    c.index.result c.in_ok-left-in-Node.left c.in_ok-right-in-Node.right
    (ap tree_of c.in-Node.is
    ∙ (ap (λ l. Node (tree_of l) (tree_of c.in-Node.right.value)) (sym c.deref.ensures)
    ∙ ap (λ l. Node (tree_of c.deref.result.now) (tree_of l)) (sym c.deref-in-Node.ensures)))
    (c.index.ensures ∙ (c.len-in-Node.ensures ∙ c.add_nodes.new.nodes.ok.0))
    c.in_ok-left-in-Node.ensures.root c.in_ok-right-in-Node.ensures.root
    c.in_ok-left-in-Node.ensures.nodes c.in_ok-push-in-Node.ensures.items c.in_ok-right-in-Node.ensures.nodes

use Rattle.std.proofs.Common.{sym, ◌∙◌}
use Rattle.sd_model.proofs.NodeSteps.{node_added, node_there}
use Rattle.sd_model.proofs.nodes.add_node.Goals as goal

-- the place is the list's length: the diagram was added
pub returns-in_ok-push : goal.returns-in_ok-push
returns-in_ok-push c =
    node_added c.args.nodes.now.items c.push.new.self.items c.args.d c.in_ok-push.ensures.items
    (sym (rw c.deref.ensures.value at c.find_index.ensures) ∙ c.if-find_index-len.true ∙ c.len.ensures
    ∙ c.args.nodes.now.ok.0)

-- it is another one: the diagram was there
pub returns-else-find_index-len : goal.returns-else-find_index-len
returns-else-find_index-len c =
    node_there c.args.nodes.now.items c.args.d
    (λ e. c.if-find_index-len.false
    ((rw c.deref.ensures.value at c.find_index.ensures) ∙ e ∙ sym c.args.nodes.now.ok.0 ∙ sym c.len.ensures))

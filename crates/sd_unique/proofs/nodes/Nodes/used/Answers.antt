use Rattle.std.proofs.Common.{sym, ap, subst, ◌∙◌}
use Rattle.sd_unique.specs.Nodes.{IsNodes, total_length}
use Rattle.sd_unique.proofs.Numbered.{is_nodes, total_is}
use Rattle.sd_unique.proofs.nodes.Nodes.used.Goals as goal

pub returns-clause-used : goal.returns-clause-used
returns-clause-used c = c.used.ensures.used ∙ sym (total_is c.self.invariant.0.stored) ∙ ap total_length c.self.view_is

pub returns-clause-nodes : goal.returns-clause-nodes
returns-clause-nodes c = subst IsNodes c.self.view_is (is_nodes c.self.invariant.0.stored)

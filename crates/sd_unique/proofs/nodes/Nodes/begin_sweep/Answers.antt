use Rattle.sd_unique.proofs.Unchained.{kept_unchained}
use Rattle.sd_unique.proofs.nodes.Nodes.begin_sweep.Goals as goal

pub invariant_of-self : goal.invariant_of-self
invariant_of-self c = (
  kept_unchained c.self.invariant.0,
  c.self.invariant.1,
  c.self.invariant.2,
)

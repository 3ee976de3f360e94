use Rattle.sd_commands.proofs.Growing.{tells_zero}
use Rattle.sd_commands.proofs.growth.is_due_at.Goals as goal

pub returns : goal.returns
returns c = tells_zero c.is_multiple_of.result _ c.is_multiple_of.ensures

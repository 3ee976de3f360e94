use Rattle.sd_counts.proofs.StaysRight.{live_most}
use Rattle.sd_counts.proofs.laws.uses_are_few.Goals as goal

pub returns : goal.returns
returns c = λ a held v of n.
    live_most a held v of n

use Rattle.sd_counts.proofs.StaysRight.{right_grown}
use Rattle.sd_counts.proofs.laws.right_when_grown.Goals as goal

pub returns : goal.returns
returns c = λ a held v w of grown.
    right_grown a held v w of grown

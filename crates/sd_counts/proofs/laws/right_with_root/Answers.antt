use Rattle.sd_counts.proofs.StaysRight.{right_held}
use Rattle.sd_counts.proofs.laws.right_with_root.Goals as goal

pub returns : goal.returns
returns c = λ a held more v w code of adds is there few.
    right_held a held more v w code of adds is there few

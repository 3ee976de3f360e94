use Rattle.sd_counts.proofs.StaysRight.{right_released}
use Rattle.sd_counts.proofs.laws.right_without_root.Goals as goal

pub returns : goal.returns
returns c = λ a held less v w code of adds is.
    right_released a held less v w code of adds is

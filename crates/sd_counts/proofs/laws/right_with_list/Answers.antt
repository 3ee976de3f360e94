use Rattle.sd_counts.proofs.StaysRight.{right_relisted}
use Rattle.sd_counts.proofs.laws.right_with_list.Goals as goal

pub returns : goal.returns
returns c = λ a b held v m of on others w is kept room.
    right_relisted a b held v m of on others w is kept room

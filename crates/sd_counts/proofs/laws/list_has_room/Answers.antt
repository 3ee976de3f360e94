use Rattle.sd_counts.proofs.StaysRight.{relisted_fits}
use Rattle.sd_counts.proofs.laws.list_has_room.Goals as goal

pub returns : goal.returns
returns c = λ a b held v m of on others.
    relisted_fits a b held v m of on others

use Rattle.sd_counts.proofs.StaysRight.{right_among}
use Rattle.sd_counts.proofs.laws.right_among_nodes.Goals as goal

pub returns : goal.returns
returns c = λ a b held v of same nodes held_nodes room.
    right_among a b held v of same nodes held_nodes room

use Rattle.sd_counts.proofs.Reached.{counted_just_reached}
use Rattle.sd_counts.proofs.laws.counted_is_reached.Goals as goal

pub returns : goal.returns
returns c = λ lists held rank v right settled ranked n.
    counted_just_reached lists held rank v right settled ranked n

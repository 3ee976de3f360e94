use Rattle.sd_counts.proofs.Reached.{total_reached}
use Rattle.sd_counts.proofs.laws.total_is_of_reached.Goals as goal

pub returns : goal.returns
returns c = λ lists held rank v reached right settled ranked once just.
    total_reached lists held rank v reached right settled ranked once just

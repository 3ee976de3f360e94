-- The choice is one.
use Rattle.sd_starts.proofs.OneChoice.{one_choice}
use Rattle.sd_starts.proofs.laws.one_choice.Goals as goal

pub returns : goal.returns
returns c = λ f settings x y p q. one_choice f settings x y p q

use Rattle.sd_formula.proofs.RangeLaws.{accepted_fits}
use Rattle.sd_formula.proofs.laws.accepted_in_range.Goals as goal

pub returns : goal.returns
returns c = λ kind bytes f reads. accepted_fits kind bytes f reads

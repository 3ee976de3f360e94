use Rattle.sd_move.proofs.ServesLater.{serves_later}
use Rattle.sd_move.proofs.laws.serves_undone.Goals as goal

pub returns : goal.returns
returns c entries j t u last b serves = serves_later entries t u last b.later serves

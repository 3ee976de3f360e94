use Rattle.sd_move.proofs.UndoKept.{kept}
use Rattle.sd_move.proofs.laws.stays_undoable.Goals as goal

pub returns : goal.returns
returns c j t u table can keeps still = kept j t u table.numbered can keeps still

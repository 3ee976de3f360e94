use Rattle.sd_move.proofs.SettledKept.{undo_settled}
use Rattle.sd_move.proofs.laws.stays_undoable_when_settled.Goals as goal

pub returns : goal.returns
returns c j k t u can settled others reached = undo_settled k t u settled j others can reached

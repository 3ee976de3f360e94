use Rattle.sd_move.proofs.UndoneFunctions.{undone_function}
use Rattle.sd_move.proofs.laws.undone_functions.Goals as goal

pub returns : goal.returns
returns c j t u can r n h = undone_function j t u can r n h

use Rattle.sd_sweep.proofs.Keeping.{keeps_both, keeps_swept, keeps_extended}
use Rattle.sd_move.proofs.ThereAndBack.{there_and_back}
use Rattle.sd_move.proofs.laws.keeps_reached.Goals as goal

pub returns-clause-operation : goal.returns-clause-operation
returns-clause-operation c t u h = keeps_extended t u h

pub returns-clause-sweep : goal.returns-clause-sweep
returns-clause-sweep c t u h = keeps_swept t u h

pub returns-clause-both : goal.returns-clause-both
returns-clause-both c t u w h k = keeps_both t u w h k

pub returns-clause-undone : goal.returns-clause-undone
returns-clause-undone c a b d e kind place j ta tb m k r =
    there_and_back a b d e kind place j ta.numbered tb.numbered m k r

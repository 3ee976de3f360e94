use Rattle.sd_move.proofs.SettledKept.{can_settle, settle_kept, settle_beside, settle_moved, moved_others}
use Rattle.sd_move.proofs.SettledKept.{settle_settled}
use Rattle.sd_move.proofs.laws.stays_settleable.Goals as goal

pub returns-clause-undoable : goal.returns-clause-undoable
returns-clause-undoable c j t can = can_settle j t can

pub returns-clause-kept : goal.returns-clause-kept
returns-clause-kept c j t u can k = settle_kept j t u can k

pub returns-clause-runs : goal.returns-clause-runs
returns-clause-runs c j t u can same = settle_beside j t u can same

pub returns-clause-moved : goal.returns-clause-moved
returns-clause-moved c j k t u kind place can m = settle_moved j t u can kind place k m

pub returns-clause-others : goal.returns-clause-others
returns-clause-others c j k t u kind place can m = moved_others j t u can kind place k m

pub returns-clause-settled : goal.returns-clause-settled
returns-clause-settled c j k t u can settled others = settle_settled k t u settled j others can

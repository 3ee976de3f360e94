use Rattle.std.proofs.Common.{sym, arith}
use Rattle.sd_sweep.proofs.NeverFalling.{never_swept}
use Rattle.sd_sweep.proofs.Keeping.{unmarked_swept}
use Rattle.sd_compile.proofs.Kept.{serves_swept, takes_away}
use Rattle.sd_compile.proofs.limited.sweep_kept.Goals as goal

pub keep_surviving-requires-clause-serves : goal.keep_surviving-requires-clause-serves
keep_surviving-requires-clause-serves c = (
  c.args.m.now,
  c.requires.serves,
  sym c.epoch-since.ensures.epoch,
  takes_away c.args.m.now c.sweep.new.m (omega arith) c.sweep.ensures.swept,
)

pub returns-then-len-used-clause-unmarked : goal.returns-then-len-used-clause-unmarked
returns-then-len-used-clause-unmarked c =
    unmarked_swept c.args.m.now c.sweep.new.m c.sweep.ensures.swept c.requires.unmarked

pub returns-else-len-used-clause-unmarked : goal.returns-else-len-used-clause-unmarked
returns-else-len-used-clause-unmarked c =
    unmarked_swept c.args.m.now c.sweep.new.m c.sweep.ensures.swept c.requires.unmarked

pub returns-then-len-used-clause-never_falls : goal.returns-then-len-used-clause-never_falls
returns-then-len-used-clause-never_falls c =
    never_swept c.args.m.now c.sweep.new.m (omega arith) c.sweep.ensures.swept

pub returns-else-len-used-clause-never_falls : goal.returns-else-len-used-clause-never_falls
returns-else-len-used-clause-never_falls c =
    never_swept c.args.m.now c.sweep.new.m (omega arith) c.sweep.ensures.swept

pub returns-else-len-used-clause-serves : goal.returns-else-len-used-clause-serves
returns-else-len-used-clause-serves c =
    serves_swept c.args.c.now c.args.m.now c.sweep.new.m (omega arith) c.sweep.ensures.swept c.requires.serves

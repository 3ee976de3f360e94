use Rattle.std.proofs.Common.{◌<◌, length}
use Rattle.sd_cond.proofs.kept.entry_of.Given as goal

abbrev pub invariant-loop-step : goal.invariant-loop-step
invariant-loop-step l = l.index < length l.entries

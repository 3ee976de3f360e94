-- Each part before was compiled.
use Rattle.std.proofs.Common.{◌≡◌, drop}
use Rattle.sd_commands.specs.Joining.{refusing_manager}
use Rattle.sd_commands.proofs.opening.first_refused.Given as goal

abbrev pub invariant-loop-index : goal.invariant-loop-index
invariant-loop-index l = refusing_manager l.answers ≡ refusing_manager (drop l.index l.answers)

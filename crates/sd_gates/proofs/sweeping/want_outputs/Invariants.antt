-- The list keeps its length.
use Rattle.std.proofs.Common.{◌≡◌, length}
use Rattle.sd_gates.proofs.sweeping.want_outputs.Given as goal

abbrev pub invariant-outputs : goal.invariant-outputs
invariant-outputs l = length l.wanted.items ≡ length l.initial.wanted.items

-- The list keeps its length.
use Rattle.std.proofs.Common.{◌≡◌, length}
use Rattle.sd_gates.proofs.sweeping.want_sides.Given as goal

abbrev pub invariant-sides : goal.invariant-sides
invariant-sides l = length l.wanted.items ≡ length l.initial.wanted.items

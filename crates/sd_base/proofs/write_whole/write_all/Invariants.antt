use Rattle.std.proofs.Common.{◌≡◌, ℕ, List, ◌++◌, length}
use Rattle.sd_base.specs.Sink.{told_then}
use Rattle.sd_base.proofs.write_whole.write_all.Given as goal

-- a prefix of the bytes was written, and the rest is to come
abbrev pub invariant-loop-left : goal.invariant-loop-left
invariant-loop-left g l =
    ((front : List ℕ) × (front ++ l.left ≡ l.bytes)
    × (g.S.Sink.written l.sink ≡ told_then (g.S.Sink.written l.fn.sink) front))
    × (g.S.Sink.faults l.sink ≡ g.S.Sink.faults l.fn.sink)

abbrev pub decreases-loop-left : goal.decreases-loop-left
decreases-loop-left g l = length l.left

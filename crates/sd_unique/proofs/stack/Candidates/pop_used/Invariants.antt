use Rattle.std.proofs.Common.{length}
use Rattle.sd_unique.proofs.Waiting.{AreLeft}
use Rattle.sd_unique.proofs.stack.Candidates.pop_used.Given as goal

abbrev pub invariant-loop-self : goal.invariant-loop-self
invariant-loop-self l =
    AreLeft l.records l.initial.self-inside.waits.items l.self-inside.waits.items l.self-inside.numbers.items
    l.self-inside.numbers.cap

abbrev pub decreases-loop-self : goal.decreases-loop-self
decreases-loop-self l = length l.self-inside.numbers.items

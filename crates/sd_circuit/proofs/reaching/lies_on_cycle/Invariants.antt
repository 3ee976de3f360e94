use Rattle.std.proofs.Common.{◌-◌, length}
use Rattle.sd_circuit.specs.Reaching.{IsReaching}
use Rattle.sd_circuit.proofs.reaching.lies_on_cycle.Given as goal

abbrev pub invariant-loop-next : goal.invariant-loop-next
invariant-loop-next l = IsReaching l.ands l.line l.queue.items l.marks.items l.next

abbrev pub decreases-loop-next : goal.decreases-loop-next
decreases-loop-next l = length l.ands - l.next

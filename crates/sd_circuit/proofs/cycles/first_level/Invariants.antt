use Rattle.sd_circuit.specs.Ranks.{FallBefore}
use Rattle.sd_circuit.proofs.cycles.first_level.Given as goal

abbrev pub invariant-loop-line : goal.invariant-loop-line
invariant-loop-line l = FallBefore l.ands l.ranks l.line

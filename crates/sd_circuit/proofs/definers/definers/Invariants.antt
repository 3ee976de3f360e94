use Rattle.sd_circuit.specs.Definers.{AreDefiners}
use Rattle.sd_circuit.proofs.definers.definers.Given as goal

abbrev pub invariant-loop-index : goal.invariant-loop-index
invariant-loop-index l = AreDefiners l.variables l.ands l.index l.table.items

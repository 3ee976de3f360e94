use Rattle.std.proofs.Common.{false}
use Rattle.sd_unique.specs.Chains.{HoldsNodes}
use Rattle.sd_unique.specs.Record.{nodes_of}
use Rattle.sd_unique.specs.Retiring.{HaveRetired}
use Rattle.sd_unique.proofs.sweeping.retire_twos.Given as goal

abbrev pub invariant-loop-count : goal.invariant-loop-count
invariant-loop-count l =
    HoldsNodes false l.runs l.records l.links l.heads l.places l.candidates.0
    × HaveRetired l.first (nodes_of l.fn.runs l.fn.records) (nodes_of l.runs l.records) l.count

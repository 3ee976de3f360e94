-- What an output is.
use Rattle.std.proofs.Common.{◌∙◌, arith}
use Rattle.sd_circuit.proofs.Outputs.{output_is}
use Rattle.sd_circuit.proofs.Read.{sound_of, output_read, output_told}
use Rattle.sd_circuit.proofs.circuit.Circuit.output.Goals as goal

-- src/circuit.rt:133:9
pub wire-requires : goal.wire-requires
wire-requires c = output_told _ _ _ c.args.index _ c.self.view_is c.self.invariant c.requires c.index.ensures

-- src/circuit.rt:126:5
pub returns-clause-within : goal.returns-clause-within
returns-clause-within c = c.wire.ensures.within _ (omega arith)
    (output_told _ _ _ c.args.index _ c.self.view_is c.self.invariant c.requires c.index.ensures)

pub returns-clause-literal : goal.returns-clause-literal
returns-clause-literal c = c.wire.ensures.literal
    ∙ output_read _ _ c.args.index _ c.self.view_is c.requires c.index.ensures

-- src/circuit.rt:126:5
pub returns-clause-value : goal.returns-clause-value
returns-clause-value c = λ a. output_is c.args.self.now a (sound_of _ _ _ c.self.view_is c.self.invariant) c.args.index
    c.requires c.wire.result
    (c.wire.ensures.literal ∙ output_read _ _ c.args.index _ c.self.view_is c.requires c.index.ensures)
    (c.wire.ensures.within _ (omega arith)
    (output_told _ _ _ c.args.index _ c.self.view_is c.self.invariant c.requires c.index.ensures))

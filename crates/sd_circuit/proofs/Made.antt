-- What a circuit is made of.
use Rattle.std.proofs.Common.{ℕ, List, arith}
use Rattle.sd_model.specs.Circuit.{Circuit}
use Rattle.sd_circuit.specs.Order.{IsClosed, IsOrdered}
use Rattle.sd_circuit.specs.Stored.{DefineVariables}
use Rattle.sd_circuit.proofs.Sound.{sound_from}

-- each input and each gate defines a variable of its own
pub define_variables : (text : Circuit) (order : List ℕ) → IsClosed text → IsOrdered text.ands order
    → DefineVariables text.variables text.inputs text.ands order
define_variables text order closed ordered = let sound = sound_from text order closed ordered in record {
  inside = sound.inside;
  input_within = sound.input_within;
  input_once = sound.input_once;
  gate_within = sound.gate_within;
  gate_once = λ j k less h. sound.gate_once j k (omega (arith, less, h)) h (omega (arith, less));
  apart = sound.apart;
}

-- The nodes of a circuit's gates, which outputs share.
use Rattle.std.specs.Prelude.{◌≡◌, ℕ, ◌+◌, ◌*◌, ◌≤◌, Bool, true, false, List, Option, Some, None, slice_index_or}
use Rattle.sd_manager.specs.Table.{Table}
use Rattle.sd_apply.specs.Answers.{HasAnswer}
use Rattle.sd_apply.specs.Serving.{last_epoch}
use Rattle.sd_circuit.specs.Circuits.{OrderedCircuit, wire_value, gate_values}
use Rattle.sd_circuit.specs.declared.wire.Wire.{Wire}
use Rattle.sd_circuit.specs.declared.wire.Wire.TheVariants.{Gate}
use Rattle.sd_gates.specs.declared.sharing.GateNodes.{GateNodes}

-- the value of a wire as a function of the assignment
abbrev pub wire_function : OrderedCircuit → Wire → List Bool → Bool
wire_function c wire assignment = wire_value assignment (gate_values c assignment) wire

-- where the node of a gate stands, or that of its negation
abbrev pub place_of : ℕ → Bool → ℕ
place_of gate true = 2 * gate
place_of gate false = 2 * gate + 1

-- what stands there
abbrev pub node_at : List (Option ℕ) → ℕ → Bool → Option ℕ
node_at nodes gate positive = slice_index_or nodes (place_of gate positive) None

-- each node that is there shows its gate or the negation of it
abbrev pub AreShared : OrderedCircuit → List (Option ℕ) → Table → Type 0
AreShared c nodes t = (gate node : ℕ) (positive : Bool) → node_at nodes gate positive ≡ Some node
    → HasAnswer t (wire_function c (Gate gate positive)) node

-- The nodes are of no later epoch than the manager, and before the last epoch those of its own show their gates.
pub record Shares (c : OrderedCircuit) (gates : GateNodes) (t : Table) : Type 0 where
  pub early : (epoch : ℕ) → gates.epoch ≡ Some epoch → epoch ≤ t.epoch
  pub right : ¬ (t.epoch ≡ last_epoch) → gates.epoch ≡ Some t.epoch → AreShared c gates.nodes.items t

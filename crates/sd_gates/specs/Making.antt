-- Gates that are made into nodes one after another.
use Rattle.std.specs.Prelude.{◌≡◌, ◌⊎◌, ℕ, suc, ◌+◌, ◌*◌, ◌<◌, ◌≤◌, Bool, true, false, List, [], ◌∷◌, length, Option}
use Rattle.std.specs.Prelude.{Some, None, slice_index_or, slice_set}
use Rattle.std.specs.Option.{IsSome}
use Rattle.sd_manager.specs.Table.{Table}
use Rattle.sd_apply.specs.Answers.{HasAnswer}
use Rattle.sd_circuit.specs.Circuits.{OrderedCircuit, signed_value}
use Rattle.sd_circuit.specs.declared.wire.Wire.{Wire}
use Rattle.sd_circuit.specs.declared.wire.Wire.TheVariants.{Constant, Input, Gate}
use Rattle.sd_gates.specs.declared.sharing.GateNodes.{GateNodes}
use Rattle.sd_gates.specs.declared.sharing.SignedNode.{SignedNode}
use Rattle.sd_gates.specs.Sharing.{AreShared, node_at, place_of}

-- the nodes are of the manager's epoch, with room for each gate
pub record AreCurrent (c : OrderedCircuit) (gates : GateNodes) (t : Table) : Type 0 where
  pub epoch : gates.epoch ≡ Some t.epoch
  pub size : length gates.nodes.items ≡ 2 * length c.order
  pub shared : AreShared c gates.nodes.items t

-- the node of a gate, or else that of its negation
abbrev pub either_of : Option ℕ → Option ℕ → Option ℕ
either_of (Some node) other = Some node
either_of None other = other

-- a node that stands there for the gate or for its negation
abbrev pub either_at : List (Option ℕ) → ℕ → Option ℕ
either_at nodes gate = either_of (node_at nodes gate true) (node_at nodes gate false)

-- a wire that is a gate has a node, or its negation has one
abbrev pub IsKnown : List (Option ℕ) → Wire → Type 0
IsKnown nodes (Constant value) = Unit {0}
IsKnown nodes (Input variable positive) = Unit {0}
IsKnown nodes (Gate gate positive) = IsSome (either_at nodes gate)

-- the nodes with one more, that of the wire, where it is a gate
abbrev pub with_wire : List (Option ℕ) → Wire → ℕ → List (Option ℕ)
with_wire nodes (Constant value) node = nodes
with_wire nodes (Input variable positive) node = nodes
with_wire nodes (Gate gate positive) node = slice_set nodes (place_of gate positive) (Some node)

-- how many places have no node
abbrev pub blanks : List (Option ℕ) → ℕ
blanks [] = 0
blanks (None ∷ nodes) = suc (blanks nodes)
blanks (Some node ∷ nodes) = blanks nodes

-- the node shows the function where it is positive, and its negation where it is not
abbrev pub HasSignedAnswer : Table → (List Bool → Bool) → SignedNode → Type 0
HasSignedAnswer t f signed = HasAnswer t (λ a. signed_value signed.positive (f a)) signed.node

-- A stack of gates without nodes that are looked at for the one at its bottom: each is a lesser one than those below.
pub record IsDescent (nodes : List (Option ℕ)) (top : ℕ) (stack : List ℕ) : Type 0 where
  pub falls : (i j : ℕ) → i < j → j ≤ length stack
      → slice_index_or (top ∷ stack) j 0 < slice_index_or (top ∷ stack) i 0
  pub blank : (i : ℕ) → i < length stack → either_at nodes (slice_index_or stack i 0) ≡ None

-- the gate on the top of the stack
abbrev pub current : ℕ → List ℕ → ℕ
current top stack = slice_index_or (top ∷ stack) (length stack) 0

-- what is left to do
abbrev pub work_left : List (Option ℕ) → ℕ → List ℕ → ℕ
work_left nodes top stack = blanks nodes * (top + 1) + current top stack

-- no entry changed, nor how many elements may be in use; or more may be than before
abbrev pub StaysOrRises : List (Option ℕ) → List (Option ℕ) → ℕ → ℕ → Type 0
StaysOrRises old new most next = ((new ≡ old) × (next ≡ most)) ⊎ ((most < next) × (most < 4294967296))

-- How the code represents a state of a run, and what a command leaves.
use Rattle.std.specs.Prelude.{◌≡◌, ◌⊎◌, ℕ, ◌≤◌, List, []}
use Rattle.std.specs.Prelude.{◌∷◌, map, length, Option, Some, None, Result, Ok, Err}
use Rattle.std.specs.Option.{IsSome}
use Rattle.std.specs.declared.alloc.AllocError.{AllocError}
use Rattle.std.specs.BTreeMap as maps
use Rattle.std.specs.FinMap.{FinMap, get, len, remove}
use Rattle.std.specs.Ordering.{nat_cmp}
use Rattle.sd_model.specs.Tree.{Tree, AreDistinct, leaves}
use Rattle.sd_model.specs.Circuit.{Circuit}
use Rattle.sd_model.specs.Diagram.{Diagram}
use Rattle.sd_model.specs.Expression.{Expression}
use Rattle.sd_model.specs.Size.{IsDiagramOf}
use Rattle.sd_formula.specs.Dimacs.{Groups}
use Rattle.sd_vtree.specs.Numbered.{plain_tree}
use Rattle.sd_laws.specs.Shown.{Shows}
use Rattle.sd_manager.specs.Table.{Table}
use Rattle.sd_manager.specs.Shown.{ShowsCanonical, HoldsDiagram}
use Rattle.sd_manager.specs.Making.{IsPastBound, without_root}
use Rattle.sd_manager.specs.Marking.{AreUnmarked}
use Rattle.sd_apply.specs.Serving.{Serves}
use Rattle.sd_commands.specs.Effects.{Effect, Write, Print}
use Rattle.sd_compile.specs.declared.error.CompileError.{CompileError}
use Rattle.sd_compile.specs.declared.error.CompileError.TheVariants as compiling
use Rattle.sd_compile.specs.declared.error.HoldError.{HoldError}
use Rattle.sd_compile.specs.declared.error.HoldError.TheVariants as holding
use Rattle.sd_move.specs.declared.error.MoveError.{MoveError}
use Rattle.sd_move.specs.declared.error.MoveError.TheVariants as moving
use Rattle.sd_runs.specs.declared.error.TakeError.{TakeError}
use Rattle.sd_runs.specs.declared.error.TakeError.TheVariants as taking
use Rattle.sd_circuit.specs.Circuits.{OrderedCircuit}
use Rattle.sd_gates.specs.Sharing.{Shares}
use Rattle.sd_starts.specs.Starts.{IsTreeLeft as IsTreeLeftBy}
use Rattle.sd_starts.specs.declared.start.Start.{Start}
use Rattle.sd_search.specs.Search.{IsSearchBegun}
use Rattle.sd_search.specs.declared.error.SearchError.{SearchError}
use Rattle.sd_search.specs.declared.error.SearchError.TheVariants as searching
use Rattle.sd_commands.specs.Commands.{State, Done, OverLimit, NotMovable, Step, MayFill, named, formulas_of}
use Rattle.sd_commands.specs.Commands.{formula_named, AreWithin, PassLimit, GrowsBy, no_circuit, settings_of, at_start}
use Rattle.sd_commands.specs.declared.command.RunCommand.{RunCommand}
use Rattle.sd_commands.specs.declared.command.RunCommand.TheVariants as commands
use Rattle.sd_commands.specs.declared.command.Effect.{Effect as CodeEffect}
use Rattle.sd_commands.specs.declared.command.Effect.TheVariants.{WriteFile, PrintLine}
use Rattle.sd_commands.specs.declared.error.CommandError.{CommandError}
use Rattle.sd_commands.specs.declared.error.CommandError.TheVariants as errors
use Rattle.sd_commands.specs.declared.gates.SharedCircuit.{SharedCircuit}
use Rattle.sd_commands.specs.declared.state.RunState.{RunState}

-- the state in which no name is bound, with this tree, limit, slack and `every`, and without a circuit
abbrev pub start : Tree → ℕ → ℕ → Option ℕ → State
start tree limit slack every = record {
  names = [];
  tree = tree;
  limit = limit;
  slack = slack;
  every = every;
  circuit = no_circuit;
}

-- the lines of a circuit, where there is one
abbrev pub lines_of : Option OrderedCircuit → Circuit
lines_of None = no_circuit
lines_of (Some circuit) = circuit.text

-- ---- what a command leaves where the arena is full

-- the tree that a search leaves where it stops
abbrev pub IsSearchLeft : State → ℕ → Tree → Type 0
IsSearchLeft state rounds tree =
    (tree ≡ state.tree) ⊎ IsSearchBegun (formulas_of state) state.slack rounds state.tree tree

-- some groups of the input lead to this tree, where the search behind the last of them may have been broken off
abbrev pub IsGrown : Groups → State → Tree → Type 0
IsGrown input state tree =
    (done : ℕ) × (done ≤ length input.groups) × GrowsBy IsSearchBegun input state done tree

-- The tree that a command leaves where it stops: that of the state, but at a search the one after the walks that were
-- done, at an input the one to which some of its groups lead, where of the search behind the last of them, if it is
-- due, walks were done up to some point, and at a choice that of a start, or of its search after some walks.
abbrev pub IsTreeLeft : Groups → State → RunCommand → Tree → Type 0
IsTreeLeft input state (commands.Minimise rounds) tree = IsSearchLeft state rounds tree
IsTreeLeft input state (commands.Input name) tree = IsGrown input state tree
IsTreeLeft input state (commands.Choose rounds) tree =
    (start : Start) × IsTreeLeftBy input (settings_of state rounds) (at_start state start).tree tree
IsTreeLeft input state command tree = tree ≡ state.tree

-- the root holds a code that shows the canonical diagram of a formula
pub record HoldsValue (t : Table) (root : ℕ) (value : Expression) : Type 0 where
  pub code : ℕ
  pub held : get t.roots root ≡ Some code
  pub diagram : Diagram
  pub shows : Shows t.vtree (get t.linked) code diagram
  pub of_value : IsDiagramOf (plain_tree t.vtree) value diagram

-- for each bound name a root holds its formula, and each root that is held holds that of a bound name
pub record HoldsNames (t : Table) (names : List (ℕ × Expression)) : Type 0 where
  pub each : (name : ℕ) (f : Expression) → named names name ≡ Some f → (root : ℕ) × HoldsValue t root f
  pub only : (root : ℕ) → IsSome (get t.roots root)
      → (name : ℕ) × (f : Expression) × (named names name ≡ Some f) × HoldsValue t root f

-- ---- how the code represents a state

-- the bound names
abbrev pub names_of : State → List ℕ
names_of state = map (λ entry. entry.0) state.names

-- the node shows the canonical diagram of a formula
pub record ShowsFormula (t : Table) (node : ℕ) (value : Expression) : Type 0 where
  pub diagram : Diagram
  pub is : ShowsCanonical t node diagram
  pub of_value : IsDiagramOf (plain_tree t.vtree) value diagram

-- the node shows the canonical diagram of a bound name's formula
abbrev pub ShowsNamed : Table → State → ℕ → ℕ → Type 0
ShowsNamed t state name node = ShowsFormula t node (formula_named state name)

-- a name has a root exactly where it is bound, and that root holds its formula
abbrev pub HoldsName : Table → Option ℕ → Option Expression → Type 0
HoldsName t (Some root) (Some value) = HoldsValue t root value
HoldsName t None None = Unit {0}
HoldsName t root value = ⊥

-- the root is that of a name
pub record IsOfName (code : RunState) (root : ℕ) : Type 0 where
  pub name : ℕ
  pub is : maps.get nat_cmp code.names name ≡ Some root

-- the inputs of a circuit with an output are the variables of a tree
abbrev pub AreInputs : Circuit → Tree → Type 0
AreInputs circuit tree = 1 ≤ length circuit.outputs → leaves tree ≡ length circuit.inputs

-- The code represents this state: each bound name, bound once, has a root of its own in a manager with the whole bound
-- and outside a move, the manager holds no other root, no node is marked, the cache serves it, and so do the nodes of
-- the circuit's gates.
pub record Represents (code : RunState) (state : State) : Type 0 where
  pub tree : state.tree ≡ plain_tree code.manager.vtree
  pub limit : state.limit ≡ code.limit
  pub slack : state.slack ≡ code.slack
  pub every : state.every ≡ code.every
  pub once : AreDistinct (names_of state)
  pub holds : (name : ℕ) → HoldsName code.manager (maps.get nat_cmp code.names name) (named state.names name)
  pub apart : (a b root : ℕ) → maps.get nat_cmp code.names a ≡ Some root → maps.get nat_cmp code.names b ≡ Some root
      → a ≡ b
  pub only : (root : ℕ) → IsSome (get code.manager.roots root) → IsOfName code root
  pub serves : Serves code.cache code.manager
  pub bound : code.manager.bound ≡ 2147483647
  pub no_move : code.manager.moving ≡ None
  pub unmarked : AreUnmarked code.manager
  pub circuit : state.circuit ≡ code.shared.circuit.text
  pub inputs : AreInputs state.circuit state.tree
  pub shares : Shares code.shared.circuit code.shared.gates code.manager

-- no node of a gate is kept: whatever the manager becomes, none is wrong
abbrev pub AreForgotten : SharedCircuit → Type 0
AreForgotten shared = (t : Table) → Shares shared.circuit shared.gates t

-- ---- what a command that stops leaves of it

-- What a command that stops leaves: the code represents each state that it did, each root holds the diagram that it
-- held, and no root is new.
pub record IsAsBefore (old new : RunState) : Type 0 where
  pub represents : (seen : State) → Represents old seen → Represents new seen
  pub holds : (root : ℕ) (d : Diagram) → HoldsDiagram old.manager root d → HoldsDiagram new.manager root d
  pub roots : new.manager.roots ≡ old.manager.roots

-- What a search that stops leaves: the code represents each state that it did over the tree after the walks that were
-- finished, and each root keeps its node.
pub record IsLeftBySearch (rounds : ℕ) (old new : RunState) : Type 0 where
  pub represents : (seen : State) → Represents old seen
      → Represents new (record seen { tree = plain_tree new.manager.vtree })
  pub searched : (seen : State) → Represents old seen → IsSearchLeft seen rounds (plain_tree new.manager.vtree)
  pub roots : new.manager.roots ≡ old.manager.roots

-- What an input with searches behind its groups leaves where it stops: the code represents each state that it did over
-- the tree after the walks that were finished, and each root of a name keeps its node.
pub record IsLeftByGroups (input : Groups) (old new : RunState) : Type 0 where
  pub represents : (seen : State) → Represents old seen
      → Represents new (record seen { tree = plain_tree new.manager.vtree })
  pub grown : (seen : State) → Represents old seen → IsGrown input seen (plain_tree new.manager.vtree)
  pub roots : new.manager.roots ≡ old.manager.roots

-- without such searches all is as before
abbrev pub IsLeftByInput : Option ℕ → Groups → RunState → RunState → Type 0
IsLeftByInput None input old new = IsAsBefore old new
IsLeftByInput (Some every) input old new = IsLeftByGroups input old new

-- What a command that stops leaves: all as before, but for the tree of searches. A choice is not done in a state that
-- stands: workers do it, over managers of their own.
abbrev pub IsLeft : Groups → RunCommand → RunState → RunState → Type 0
IsLeft input (commands.Choose rounds) old new = ⊥
IsLeft input (commands.Minimise rounds) old new = IsLeftBySearch rounds old new
IsLeft input (commands.Input name) old new = IsLeftByInput old.every input old new
IsLeft input command old new = IsAsBefore old new

-- ---- the roots of names

-- the roots without this one, if there is one
abbrev pub removed : FinMap nat_cmp ℕ → Option ℕ → FinMap nat_cmp ℕ
removed roots None = roots
removed roots (Some root) = remove roots root

-- the code has a root for the name
abbrev pub HasRoot : RunState → ℕ → Type 0
HasRoot code name = IsSome (maps.get nat_cmp code.names name)

-- no root is there for the name
abbrev pub IsFree : RunState → ℕ → Type 0
IsFree code name = maps.get nat_cmp code.names name ≡ None

-- the code without a root
abbrev pub without : RunState → ℕ → RunState
without code root = record code { manager = without_root code.manager root }

-- how many roots the code holds
abbrev pub root_count : RunState → ℕ
root_count code = len code.manager.roots

-- The arena was given the whole bound, and it was full: the number passes the bound, and is the arena's extent with
-- the length of a list of elements.
pub record IsFilled (elements : ℕ) (t : Table) : Type 0 where
  pub whole : t.bound ≡ 2147483647
  pub rule : IsPastBound t elements

-- ---- the answers of the code, as ends of a command

-- an effect of the code
abbrev pub effect_of : CodeEffect → Effect
effect_of (WriteFile file bytes) = Write file bytes
effect_of (PrintLine line) = Print line

-- one effect of the code, or none
abbrev pub effects_of : Option CodeEffect → List Effect
effects_of None = []
effects_of (Some effect) = effect_of effect ∷ []

-- the command is done with this effect, and the code represents the new state
pub record StepsTo (input : Groups) (seen : State) (command : RunCommand) (code : RunState)
    (effect : Option CodeEffect)
    : Type 0 where
  pub next : State
  pub step : Step input seen command (Done next (effects_of effect))
  pub represents : Represents code next

-- nothing is done outside, the total size is within the limit in this state, and the code represents it
pub record SettlesAt (next : State) (code : RunState) (effect : Option CodeEffect) : Type 0 where
  pub quiet : effect ≡ None
  pub within : AreWithin (formulas_of next) next.tree next.limit
  pub represents : Represents code next

-- Why a command does not lead to this state: the total size there passes the limit, or there was no memory.
abbrev pub IsNotSettled : State → CommandError → Type 0
IsNotSettled next (errors.OverLimit group size limit) =
    (group ≡ None) × PassLimit (formulas_of next) next.tree next.limit size × (limit ≡ next.limit)
IsNotSettled next (errors.ArenaFull elements) = ⊥
IsNotSettled next errors.NotMovable = ⊥
IsNotSettled next errors.OutOfMemory = Unit {0}

-- an answer of an operation, as one of a command
abbrev pub error_of_operation : TakeError → CommandError
error_of_operation (taking.ArenaFull elements) = errors.ArenaFull elements
error_of_operation taking.OutOfMemory = errors.OutOfMemory

-- why a node is not held, as an answer of a command with this limit
abbrev pub error_of_holding : HoldError → ℕ → CommandError
error_of_holding (holding.OverLimit size) limit = errors.OverLimit None size limit
error_of_holding holding.OutOfMemory limit = errors.OutOfMemory

-- an answer of compiling, as one of a command
abbrev pub error_of_compiling : CompileError → CommandError
error_of_compiling (compiling.OverLimit group size limit) = errors.OverLimit (Some group) size limit
error_of_compiling (compiling.ArenaFull elements) = errors.ArenaFull elements
error_of_compiling compiling.OutOfMemory = errors.OutOfMemory

-- why the vtree is not moved, as an answer of a command
abbrev pub error_of_move : MoveError → CommandError
error_of_move moving.NotMovable = errors.NotMovable
error_of_move (moving.OverMost size most) = errors.OverLimit None size most
error_of_move (moving.ArenaFull elements) = errors.ArenaFull elements
error_of_move moving.OutOfMemory = errors.OutOfMemory

-- why a search is broken off, as an answer of a command
abbrev pub error_of_search : SearchError → CommandError
error_of_search (searching.ArenaFull elements) = errors.ArenaFull elements
error_of_search searching.OutOfMemory = errors.OutOfMemory

-- the effect is handed out, or there was no memory for it
abbrev pub HandsOut : Result CodeEffect AllocError → Result (Option CodeEffect) CommandError → Type 0
HandsOut (Ok effect) result = result ≡ Ok (Some effect)
HandsOut (Err e) result = result ≡ Err errors.OutOfMemory

-- The command stops in this state: its place is not movable, the total size passes the limit, the arena was full and
-- the command may need it there, or there was no memory.
abbrev pub StopsAt : Groups → State → RunCommand → Table → CommandError → Type 0
StopsAt input seen command t (errors.OverLimit group size limit) = Step input seen command (OverLimit group size limit)
StopsAt input seen command t (errors.ArenaFull elements) = MayFill seen command × IsFilled elements t
StopsAt input seen command t errors.NotMovable = Step input seen command NotMovable
StopsAt input seen command t errors.OutOfMemory = Unit {0}

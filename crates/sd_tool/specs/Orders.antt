-- What contracts see of the inputs of a run, and of what is to be done with them.
use Rattle.std.specs.Prelude.{◌≡◌, ℕ, ◌≤◌, List, ◌++◌, length, Option, Some, None, if◌then◌else◌}
use Rattle.std.specs.Option.{option_map_or}
use Rattle.sd_circuit.specs.Circuits.{OrderedCircuit}
use Rattle.sd_model.specs.Tree.{leaves}
use Rattle.sd_vtree.specs.Numbered.{plain_tree}
use Rattle.sd_words.specs.Fitting.{IsFormulaWord}
use Rattle.sd_words.specs.declared.jobs.Job.{Job}
use Rattle.sd_words.specs.declared.jobs.InputWord.{InputWord}
use Rattle.sd_words.specs.declared.jobs.InputWord.TheVariants as inputs
use Rattle.sd_commands.specs.Fits.{AllFit}
use Rattle.sd_commands.specs.Standing.{lines_of}
use Rattle.sd_commands.specs.declared.command.NumberedCommand.{NumberedCommand}
use Rattle.sd_tool.specs.Readings.{Point, Stands, announcement, first_state}
use Rattle.sd_tool.specs.PlanViews.{CanOpen, opening_commands, opened_names}
use Rattle.sd_tool.specs.declared.plan.Inputs.{Inputs}
use Rattle.sd_tool.specs.declared.plan.Opening.{Opening}
use Rattle.sd_tool.specs.declared.plan.Opening.TheVariants.{Nothing, Parts, Choice}
use Rattle.sd_tool.specs.declared.plan.Orders.{Orders}
use Rattle.sd_tool.specs.declared.plan.Source.{Source}

-- the words ask for no check
abbrev pub IsNoCheck : InputWord → Type 0
IsNoCheck (inputs.Check file) = ⊥
IsNoCheck word = Unit {0}

-- ---- what is to be done

-- what workers do for a job
abbrev pub opening_for : Job → Opening
opening_for job = if job.portfolio then Choice job.minimise else option_map_or Parts job.parts Nothing

-- how many lines of the stated script are in an opening
abbrev pub opened_lines : Opening → ℕ
opened_lines Nothing = 0
opened_lines (Parts count) = 1
opened_lines (Choice None) = 1
opened_lines (Choice (Some rounds)) = 2

-- all lines, behind that of a generated formula
abbrev pub orders_lines : Orders → List NumberedCommand
orders_lines orders = opening_commands orders.opening ++ orders.commands.items

-- over v variables and o outputs each command can be done behind the opening, after those before it
pub record AreOrders (v o : ℕ) (orders : Orders) : Type 0 where
  pub fit : AllFit v o (opened_names orders.opening) orders.commands.items
  pub within_limit : length orders.commands.items ≤ 100000

-- ---- the inputs

-- a circuit has as many inputs as there are variables
abbrev pub IsOver : ℕ → Option OrderedCircuit → Type 0
IsOver v None = Unit {0}
IsOver v (Some circuit) = length circuit.text.inputs ≡ v

-- the circuit, where there is one, is over the formula's variables, and there is none where the words ask for a formula
pub record IsSource (job : Job) (source : Source) : Type 0 where
  pub over : IsOver source.formula.variables source.circuit
  pub plain : IsFormulaWord job.input → source.circuit ≡ None

-- the point to which the readings of these inputs come
abbrev pub inputs_point : Job → Inputs → Point
inputs_point job inputs = Stands inputs.source.formula
    (first_state job (plain_tree inputs.vtree) (lines_of inputs.source.circuit))
    (announcement job.input inputs.source.formula ++ orders_lines inputs.orders)

-- the inputs stand over the same variables, and what is to be done can be done
pub record AreInputsOf (job : Job) (inputs : Inputs) : Type 0 where
  pub over : IsOver inputs.source.formula.variables inputs.source.circuit
  pub variables : leaves (plain_tree inputs.vtree) ≡ inputs.source.formula.variables
  pub opens : CanOpen (first_state job (plain_tree inputs.vtree) (lines_of inputs.source.circuit)) inputs.orders.opening
  pub orders : AreOrders inputs.source.formula.variables (length (lines_of inputs.source.circuit).outputs) inputs.orders

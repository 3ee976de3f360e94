-- Which and-line uses which, orders in which each stands behind what it uses, and cycles.
use Rattle.std.specs.Prelude.{◌≡◌, ◌≢◌, ◌⊎◌, ℕ, zero, suc, ◌/◌, ◌%◌, ◌<◌, ◌≤◌, ◌==◌, Bool, true, false, ◌&&◌, ◌||◌}
use Rattle.std.specs.Prelude.{List, ◌++◌, length, map, slice_index_or}
use Rattle.std.specs.List.{list_any}
use Rattle.sd_model.specs.Circuit.{Circuit, AndLine}
use Rattle.sd_circuit.specs.declared.order.OrderError.{OrderError}
use Rattle.sd_circuit.specs.declared.order.OrderError.TheVariants.{Cycle, OutOfMemory}

-- the and-line at an index
abbrev pub line_at : List AndLine → ℕ → AndLine
line_at ands index = slice_index_or ands index (record { defined = 0; first = 0; second = 0 })

-- the variable of a literal; 0 stands for the constants
abbrev pub variable_of : ℕ → ℕ
variable_of literal = literal / 2

-- the variable that the and-line at an index defines
abbrev pub defined_at : List AndLine → ℕ → ℕ
defined_at ands index = variable_of (line_at ands index).defined

-- a right side of the one and-line is of the variable that the other one defines
abbrev pub Uses : List AndLine → ℕ → ℕ → Type 0
Uses ands one other = (variable_of (line_at ands one).first ≡ defined_at ands other)
    ⊎ (variable_of (line_at ands one).second ≡ defined_at ands other)

-- The literals of and-lines are of these variables, and no two and-lines define one variable.
pub record DefineOnce (variables : ℕ) (ands : List AndLine) : Type 0 where
  pub defined : (k : ℕ) → k < length ands → defined_at ands k ≤ variables
  pub first : (k : ℕ) → k < length ands → variable_of (line_at ands k).first ≤ variables
  pub second : (k : ℕ) → k < length ands → variable_of (line_at ands k).second ≤ variables
  pub once : (j k : ℕ) → j < k → k < length ands → defined_at ands j ≢ defined_at ands k

-- An order has the index of each and-line once, and each and-line stands behind all that it uses.
pub record IsOrdered (ands : List AndLine) (order : List ℕ) : Type 0 where
  pub whole : length order ≡ length ands
  pub inside : (place : ℕ) → place < length order → slice_index_or order place 0 < length ands
  pub has : (k : ℕ) → k < length ands → (place : ℕ) × (place < length order) × (slice_index_or order place 0 ≡ k)
  pub once : (p q : ℕ) → p < q → q < length order → slice_index_or order p 0 ≢ slice_index_or order q 0
  pub earlier : (place used : ℕ) → place < length order → used < length ands
      → Uses ands (slice_index_or order place 0) used
      → (before : ℕ) × (before < place) × (slice_index_or order before 0 ≡ used)

-- a variable is another one, or is reached from it within so many steps, each from what an and-line defines to the
-- variable of a right side of it
abbrev pub reaches : List AndLine → ℕ → ℕ → ℕ → Bool
reaches ands zero from to = from == to
reaches ands (suc n) from to = (from == to) || list_any (λ (line : AndLine). (variable_of line.defined == from)
    && (reaches ands n (variable_of line.first) to || reaches ands n (variable_of line.second) to)) ands

-- what the second and-line defines is reached within so many steps from a right side of the first one
abbrev pub leads_within : List AndLine → ℕ → ℕ → ℕ → Bool
leads_within ands n one other = reaches ands n (variable_of (line_at ands one).first) (defined_at ands other)
    || reaches ands n (variable_of (line_at ands one).second) (defined_at ands other)

-- the and-line at an index lies on a cycle: what it defines is reached from its own right sides, for which as many
-- steps are enough as there are and-lines
abbrev pub is_on_cycle : List AndLine → ℕ → Bool
is_on_cycle ands k = leads_within ands (length ands) k k

-- the first and-line that lies on a cycle
abbrev pub IsFirstOnCycle : List AndLine → ℕ → Type 0
IsFirstOnCycle ands index = (index < length ands) × (is_on_cycle ands index ≡ true)
    × ((k : ℕ) → k < index → is_on_cycle ands k ≡ false)

-- an error that tells a cycle names the first and-line that lies on one
abbrev pub CycleIsFirst : List AndLine → OrderError → Type 0
CycleIsFirst ands (Cycle index) = IsFirstOnCycle ands index
CycleIsFirst ands OutOfMemory = Unit {0}

-- an and-line that leads to itself in any number of steps lies on a cycle
abbrev pub StepsAreEnough : Type 0
StepsAreEnough = (variables : ℕ) (ands : List AndLine) (k n : ℕ) → DefineOnce variables ands → k < length ands
    → leads_within ands n k k ≡ true → is_on_cycle ands k ≡ true

-- where there is an order no and-line leads to itself, in any number of steps
abbrev pub OrderedHasNoCycle : Type 0
OrderedHasNoCycle = (ands : List AndLine) (order : List ℕ) (k n : ℕ) → IsOrdered ands order → k < length ands
    → leads_within ands n k k ≡ false

-- the literals that the lines of a circuit define: its inputs, then what its and-lines define
abbrev pub definitions : Circuit → List ℕ
definitions c = c.inputs ++ map (λ (line : AndLine). line.defined) c.ands

-- a literal is a constant, or of a variable that an input or an and-line defines
abbrev pub IsDefined : Circuit → ℕ → Type 0
IsDefined c literal = (literal < 2) ⊎ ((k : ℕ) × (k < length (definitions c))
    × (variable_of (slice_index_or (definitions c) k 0) ≡ variable_of literal))

-- Each line of a circuit defines a variable of it that no other line defines, by its positive literal, and each right
-- side and each output is defined.
pub record IsClosed (c : Circuit) : Type 0 where
  pub positive : (k : ℕ) → k < length (definitions c) → slice_index_or (definitions c) k 0 % 2 ≡ 0
  pub above : (k : ℕ) → k < length (definitions c) → 2 ≤ slice_index_or (definitions c) k 0
  pub within : (k : ℕ) → k < length (definitions c) → variable_of (slice_index_or (definitions c) k 0) ≤ c.variables
  pub once : (j k : ℕ) → j < k → k < length (definitions c)
      → variable_of (slice_index_or (definitions c) j 0) ≢ variable_of (slice_index_or (definitions c) k 0)
  pub first : (k : ℕ) → k < length c.ands → IsDefined c (line_at c.ands k).first
  pub second : (k : ℕ) → k < length c.ands → IsDefined c (line_at c.ands k).second
  pub outputs : (k : ℕ) → k < length c.outputs → IsDefined c (slice_index_or c.outputs k 0)

-- so each variable of an and-line's is defined once
abbrev pub ClosedDefinesOnce : Type 0
ClosedDefinesOnce = (c : Circuit) → IsClosed c → DefineOnce c.variables c.ands

-- A formula that is compiled group by group: its prefixes, and where their size passes a limit.
use Rattle.std.specs.Prelude.{◌≡◌, ◌≢◌, ◌⊎◌, ℕ, ◌+◌, ◌<◌, ◌≤◌, length, take, Some, None, cond}
use Rattle.std.specs.Option.{IsSome}
use Rattle.std.specs.FinMap.{get}
use Rattle.sd_model.specs.Diagram.{Diagram}
use Rattle.sd_model.specs.Expression.{Expression, expression_value}
use Rattle.sd_formula.specs.Dimacs.{Groups}
use Rattle.sd_formula.specs.Formulas.{expression_of}
use Rattle.sd_runs.specs.declared.error.TakeError.{TakeError}
use Rattle.sd_runs.specs.declared.error.TakeError.TheVariants as taking
use Rattle.sd_manager.specs.Table.{Table}
use Rattle.sd_manager.specs.Valid.{total_length}
use Rattle.sd_manager.specs.Shown.{HoldsDiagram}
use Rattle.sd_manager.specs.Making.{IsPastBound, with_root, without_root}
use Rattle.sd_apply.specs.Answers.{HasAnswer}
use Rattle.sd_sweep.specs.Reached.{IsReached, IsSwept, KeepsReached}
use Rattle.sd_compile.specs.Joined.{neutral, outer}
use Rattle.sd_compile.specs.Total.{HasTotalWith, IsWithinLimit}
use Rattle.sd_compile.specs.declared.error.CompileError.{CompileError}
use Rattle.sd_compile.specs.declared.error.CompileError.TheVariants.{OverLimit, ArenaFull, OutOfMemory}
use Rattle.sd_compile.specs.declared.error.HoldError.{HoldError}
use Rattle.sd_compile.specs.declared.error.HoldError.TheVariants as holding

-- how far a formula is compiled: the root of a prefix, and the number of its groups
pub record CompiledPrefix : Type 0 where
  pub root : ℕ
  pub groups : ℕ

-- the formula of the first n groups
abbrev pub prefix_of : Groups → ℕ → Expression
prefix_of f n = expression_of (record f { groups = take n f.groups })

-- a root holds a node that shows a canonical diagram with the formula's value
pub record HoldsFormula (t : Table) (f : Expression) (root : ℕ) : Type 0 where
  pub code : ℕ
  pub held : get t.roots root ≡ Some code
  pub shown : HasAnswer t (expression_value f) code

-- the root of a prefix holds it
abbrev pub HoldsPrefix : Table → Groups → CompiledPrefix → Type 0
HoldsPrefix t f work = (work.groups ≤ length f.groups) × HoldsFormula t (prefix_of f work.groups) work.root

-- a new root holds the value of no groups, and nothing else changed
pub record IsBegun (old new : Table) (f : Groups) (work : CompiledPrefix) : Type 0 where
  pub absent : get old.roots work.root ≡ None
  pub none : work.groups ≡ 0
  pub holds : HoldsPrefix new f work
  pub is : new ≡ with_root old work.root (cond (neutral (outer f.kind)) 1 0)

-- What stays when a formula is compiled into a root: each other root with its node, all nodes that are reached from
-- these roots or from a loose run, the vtree, the loose runs and the bound.
pub record KeepsOtherRoots (old new : Table) (root : ℕ) : Type 0 where
  pub reached : KeepsReached (without_root old root) (without_root new root)
  pub holds : (other : ℕ) (d : Diagram) → other ≢ root → HoldsDiagram old other d → HoldsDiagram new other d
  pub bound : new.bound ≡ old.bound
  pub moving : new.moving ≡ old.moving

-- What stays when nothing was compiled: all roots with what they hold, and all of the above.
pub record KeepsAll (old new : Table) : Type 0 where
  pub reached : KeepsReached old new
  pub holds : (root : ℕ) (d : Diagram) → HoldsDiagram old root d → HoldsDiagram new root d
  pub bound : new.bound ≡ old.bound
  pub moving : new.moving ≡ old.moving

-- a sweep, or nothing
abbrev pub MaySweep : Table → Table → Type 0
MaySweep old new = (new ≡ old) ⊎ IsSwept old new

-- Each node is reached, or no more elements are in use than either of two numbers.
abbrev pub IsSweptPast : Table → ℕ → ℕ → Type 0
IsSweptPast t most limit =
    ((n : ℕ) → IsSome (get t.linked n) → IsReached t n) ⊎ ((total_length t ≤ most) × (total_length t ≤ limit))

-- Why a node that shows the formula's diagram is not held: with it the total size passes the limit, or there was no
-- memory.
abbrev pub IsHoldRefused : Table → Expression → ℕ → HoldError → Type 0
IsHoldRefused t f limit (holding.OverLimit size) = HasTotalWith t f size × (limit < size)
IsHoldRefused t f limit holding.OutOfMemory = Unit {0}

-- With the prefix of so many groups held, beside what other roots hold, the total size passes the limit.
pub record PassesLimit (others : Table) (f : Groups) (limit group size most : ℕ) : Type 0 where
  pub total : HasTotalWith others (prefix_of f group) size
  pub passes : limit < size
  pub most_is : most ≡ limit

-- Why the next group was not added to a prefix: with it the total size passes the limit, the arena was full, or there
-- was no memory.
abbrev pub IsGroupRefused : Table → Table → Groups → ℕ → ℕ → CompileError → Type 0
IsGroupRefused others new f limit groups (OverLimit group size most) =
    (group ≡ groups + 1) × PassesLimit others f limit group size most
IsGroupRefused others new f limit groups (ArenaFull elements) = IsPastBound new elements
IsGroupRefused others new f limit groups OutOfMemory = Unit {0}

-- each prefix of more than `first` and at most `last` groups is within the limit
abbrev pub AreWithinLimit : Table → Groups → ℕ → ℕ → ℕ → Type 0
AreWithinLimit others f limit first last =
    (n : ℕ) → first < n → n ≤ last → IsWithinLimit others (prefix_of f n) limit

-- Why the groups behind the first ones were not all added: one of them was refused. It is the first that passes the
-- limit.
abbrev pub IsFormulaRefused : Table → Table → Groups → ℕ → ℕ → CompileError → Type 0
IsFormulaRefused others new f limit first (OverLimit group size most) =
    (first < group) × (group ≤ length f.groups) × PassesLimit others f limit group size most
    × ((n : ℕ) → first < n → n < group → IsWithinLimit others (prefix_of f n) limit)
IsFormulaRefused others new f limit first (ArenaFull elements) = IsPastBound new elements
IsFormulaRefused others new f limit first OutOfMemory = Unit {0}

-- ---- for the contracts of private functions

-- an answer of an operation, as one of compiling
abbrev pub error_of : TakeError → CompileError
error_of (taking.ArenaFull elements) = ArenaFull elements
error_of taking.OutOfMemory = OutOfMemory

-- A part as work for a thread, and its answer.
use Rattle.std.specs.Prelude.{◌≡◌, ℕ, ◌≤◌, List, [], ◌∷◌, length, map}
use Rattle.std.specs.Prelude.{Option, Some, None, Result, Ok, Err}
use Rattle.std.specs.List.{AllZip, range_with_len}
use Rattle.std.specs.FinMap.{empty}
use Rattle.sd_model.specs.Tree.{Tree}
use Rattle.sd_model.specs.Expression.{Expression, expression_value}
use Rattle.sd_vtree.specs.Numbered.{plain_tree}
use Rattle.sd_formula.specs.Dimacs.{Groups}
use Rattle.sd_formula.specs.Formulas.{expression_of}
use Rattle.sd_manager.specs.Table.{Table}
use Rattle.sd_manager.specs.Making.{IsPastBound}
use Rattle.sd_compile.specs.declared.error.CompileError.{CompileError}
use Rattle.sd_compile.specs.declared.error.CompileError.TheVariants.{OverLimit, ArenaFull, OutOfMemory}
use Rattle.sd_records.specs.Records.{FlatDiagram, AreRecords, UnfoldToValue}
use Rattle.sd_parts.specs.Parts.{part_of, first_of_part, PartFits, PassesAlone, IsPartsOutcome, Passed}
use Rattle.sd_parts.specs.Seen.{PartWork}
use Rattle.sd_parts.specs.declared.part.PartAnswer.{PartAnswer}

-- a part from its fields
abbrev pub work_of : ℕ → Groups → ℕ → Tree → ℕ → ℕ → PartWork
work_of number formula first tree limit bound = record {
  number = number;
  formula = formula;
  first = first;
  tree = tree;
  limit = limit;
  bound = bound;
}

-- part i of k, at a tree, under a limit and with a bound of its arena
abbrev pub part_work : Groups → Tree → ℕ → ℕ → ℕ → ℕ → PartWork
part_work f t limit bound k i = work_of i (part_of f k i) (first_of_part f k i) t limit bound

-- all k parts, in order
abbrev pub parts_of : Groups → Tree → ℕ → ℕ → ℕ → List PartWork
parts_of f t limit bound k = map (part_work f t limit bound k) (range_with_len 0 k)

-- Why a part was not compiled: it passes the limit alone, the arena of the manager that comes back was full, or there
-- was no memory.
abbrev pub IsPartRefused : PartWork → Table → CompileError → Type 0
IsPartRefused work m (OverLimit group size most) =
    PassesAlone work.tree work.limit work.formula work.first group size × (most ≡ work.limit)
IsPartRefused work m (ArenaFull elements) = IsPastBound m elements
IsPartRefused work m OutOfMemory = Unit {0}

-- records of the part's canonical diagram, where each of its prefixes is within the limit, or why there are none
abbrev pub IsPartOutcome : PartWork → Table → Result FlatDiagram CompileError → Type 0
IsPartOutcome work m (Ok records) =
    PartFits work.tree work.limit work.formula (length work.formula.groups)
    × AreRecords work.tree records
    × UnfoldToValue work.tree records (expression_value (expression_of work.formula))
IsPartOutcome work m (Err e) = IsPartRefused work m e

-- The answer of a part: a manager over its tree that holds nothing, and the outcome.
pub record AnswersPart (work : PartWork) (answer : PartAnswer) : Type 0 where
  pub tree : plain_tree answer.manager.vtree ≡ work.tree
  pub bound : answer.manager.bound ≡ work.bound
  pub roots : answer.manager.roots ≡ empty
  pub moving : answer.manager.moving ≡ None
  pub outcome : IsPartOutcome work answer.manager answer.outcome

-- the answers of 1 to 64 parts of the formula at the tree, under the limit, in order; all their arenas have one bound
pub record AreAnswers (f : Groups) (t : Tree) (limit : ℕ) (answers : List PartAnswer) : Type 0 where
  pub bound : ℕ
  pub at_least_one : 1 ≤ length answers
  pub at_most : length answers ≤ 64
  pub each : AllZip AnswersPart (parts_of f t limit bound (length answers)) answers

-- the refusal of an outcome, or another one where there is none
abbrev pub refusal_or : Result FlatDiagram CompileError → Option CompileError → Option CompileError
refusal_or (Ok records) other = other
refusal_or (Err e) other = Some e

-- the first refusal
abbrev pub first_refusal : List PartAnswer → Option CompileError
first_refusal [] = None
first_refusal (a ∷ answers) = refusal_or a.outcome (first_refusal answers)

-- where the limit is passed, that is the outcome of the parts
abbrev pub IsPassedByParts : Tree → ℕ → List Expression → Groups → ℕ → CompileError → Type 0
IsPassedByParts t limit all f k (OverLimit group size most) =
    IsPartsOutcome t limit all f k (Passed group size) × (most ≡ limit)
IsPassedByParts t limit all f k (ArenaFull elements) = Unit {0}
IsPassedByParts t limit all f k OutOfMemory = Unit {0}

-- a full arena is answered only by the rule of the operations
abbrev pub KeepsArenaRule : Table → CompileError → Type 0
KeepsArenaRule m (OverLimit group size most) = Unit {0}
KeepsArenaRule m (ArenaFull elements) = IsPastBound m elements
KeepsArenaRule m OutOfMemory = Unit {0}

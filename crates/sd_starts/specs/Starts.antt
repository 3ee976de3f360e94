-- The choice of a start: a formula is compiled and searched alone over each start tree, and the least size is chosen.
use Rattle.std.specs.Prelude.{◌≡◌, ◌≢◌, ◌⊎◌, ℕ, ◌<◌, ◌≤◌, length, [], ◌∷◌}
use Rattle.std.specs.Prelude.{Option, Some, None, MatchOption, Result, Ok, Err, MatchResult}
use Rattle.std.specs.FinMap.{get}
use Rattle.sd_model.specs.Tree.{Tree}
use Rattle.sd_model.specs.StartTrees.{balanced_tree, right_tree, left_tree}
use Rattle.sd_model.specs.Size.{HasSize}
use Rattle.sd_vtree.specs.Numbered.{plain_tree}
use Rattle.sd_formula.specs.Dimacs.{Groups}
use Rattle.sd_formula.specs.Formulas.{expression_of}
use Rattle.sd_manager.specs.Table.{Table}
use Rattle.sd_manager.specs.Valid.{IsTable}
use Rattle.sd_manager.specs.Making.{IsPastBound}
use Rattle.sd_manager.specs.Marking.{AreUnmarked}
use Rattle.sd_cache.specs.Entries.{Answers}
use Rattle.sd_apply.specs.Serving.{Serves}
use Rattle.sd_compile.specs.declared.error.CompileError.{CompileError}
use Rattle.sd_compile.specs.declared.error.CompileError.TheVariants as refused
use Rattle.sd_compile.specs.Compiling.{HoldsFormula}
use Rattle.sd_parts.specs.Parts.{PartFits, PassesAlone}
use Rattle.sd_search.specs.Search.{Found, IsSearch, IsSearchBegun}
use Rattle.sd_search.specs.declared.searching.Outcome.{Outcome}
use Rattle.sd_starts.specs.declared.start.Start.{Start}
use Rattle.sd_starts.specs.declared.start.Start.TheVariants.{Balanced, Right, Left}
use Rattle.sd_starts.specs.declared.start.Settings.{Settings}
use Rattle.sd_starts.specs.declared.work.Done.{Done}
use Rattle.sd_starts.specs.declared.work.StartAnswer.{StartAnswer}
use Rattle.sd_starts.specs.declared.choosing.Chosen.{Chosen as ChosenStart}
use Rattle.sd_starts.specs.declared.choosing.Refused.{Refused}

-- the start tree over the variables 1 to v
abbrev pub tree_of_start : Start → ℕ → Tree
tree_of_start Balanced v = balanced_tree v
tree_of_start Right v = right_tree v
tree_of_start Left v = left_tree v

-- the place of a start in the order in which they are tried
abbrev pub rank : Start → ℕ
rank Balanced = 0
rank Right = 1
rank Left = 2

-- ---- alone at one start

-- What a formula comes to: the size of its diagram at the end, or the first group with which the size passes the limit,
-- counted from 1, and this size.
pub data StartEnd : Type 0 where
  Ended : (size : ℕ) → StartEnd
  Passed : (group size : ℕ) → StartEnd

-- The size at the end: that of the formula's diagram over the tree, or behind the search, where one is asked for.
abbrev pub IsFinalSize : Groups → Settings → Tree → ℕ → Type 0
IsFinalSize f settings t size = MatchOption settings.rounds (HasSize (expression_of f ∷ []) t size)
    (λ rounds. (found : Found) × IsSearch (expression_of f ∷ []) settings.slack rounds t found × (found.after ≡ size))

-- what the formula comes to over the tree
abbrev pub IsEndAt : Groups → Settings → Tree → StartEnd → Type 0
IsEndAt f settings t (Ended size) =
    PartFits t settings.limit f (length f.groups) × IsFinalSize f settings t size
IsEndAt f settings t (Passed group size) = PassesAlone t settings.limit f 0 group size

-- ---- the choice

-- Of what the formula comes to at each start, the one that ends with the least size, the first among equals.
pub record IsLeast (end_of : Start → StartEnd) (start : Start) (size : ℕ) : Type 0 where
  pub ended : end_of start ≡ Ended size
  pub least : (other : Start) (n : ℕ) → end_of other ≡ Ended n → size ≤ n
  pub first : (other : Start) (n : ℕ) → rank other < rank start → end_of other ≡ Ended n → size < n

-- the formula passes the limit at each start
abbrev pub PassesAtEach : (Start → StartEnd) → Type 0
PassesAtEach end_of = (start : Start) → (group size : ℕ) × (end_of start ≡ Passed group size)

-- what the choice comes to
pub data Choice : Type 0 where
  Chosen : (start : Start) (size : ℕ) → Choice
  AllPassed : (group size : ℕ) → Choice

-- The choice: the least one, or, where the formula passes the limit at each start, the refusal of the balanced one.
abbrev pub IsChoiceOf : (Start → StartEnd) → Choice → Type 0
IsChoiceOf end_of (Chosen start size) = IsLeast end_of start size
IsChoiceOf end_of (AllPassed group size) = PassesAtEach end_of × (end_of Balanced ≡ Passed group size)

-- what a formula comes to at the start trees of its variables, and the choice among them
pub record IsChoice (f : Groups) (settings : Settings) (choice : Choice) : Type 0 where
  pub end_of : Start → StartEnd
  pub each : (start : Start) → IsEndAt f settings (tree_of_start start f.variables) (end_of start)
  pub choice_is : IsChoiceOf end_of choice

-- ---- what stands behind the work at a start

-- no root is held
abbrev pub HoldsNothing : Table → Type 0
HoldsNothing t = (root : ℕ) → get t.roots root ≡ None

-- the root alone is held, and it holds the formula's diagram
pub record HoldsAlone (t : Table) (f : Groups) (root : ℕ) : Type 0 where
  pub holds : HoldsFormula t (expression_of f) root
  pub only : (other : ℕ) → other ≢ root → get t.roots other ≡ None

-- What the search found, where one was asked for: the new tree, the sizes and the rounds. Else the tree is as it was.
abbrev pub IsSearchedTo : Groups → Settings → Tree → Option Outcome → ℕ → Tree → Type 0
IsSearchedTo f settings t search size new = MatchOption settings.rounds
    ((search ≡ None) × (new ≡ t) × HasSize (expression_of f ∷ []) t size)
    (λ rounds. (outcome : Outcome) × (search ≡ Some outcome) × (size ≡ outcome.after)
    × IsSearch (expression_of f ∷ []) settings.slack rounds t
    (record { tree = new; before = outcome.before; after = outcome.after; rounds = outcome.rounds }))

-- the work ended: with this size, and the formula held over the tree that the search found
pub record IsDoneAt (f : Groups) (settings : Settings) (t : Tree) (new : Table) (done : Done) : Type 0 where
  pub end : IsEndAt f settings t (Ended done.size)
  pub holds : HoldsAlone new f done.root
  pub searched : IsSearchedTo f settings t done.search done.size (plain_tree new.vtree)

-- Why it was refused: the limit is passed, or the arena was full, or there was no memory.
abbrev pub IsRefusedAt : Groups → Settings → Tree → Table → CompileError → Type 0
IsRefusedAt f settings t new (refused.OverLimit group size limit) =
    IsEndAt f settings t (Passed group size) × (limit ≡ settings.limit)
IsRefusedAt f settings t new (refused.ArenaFull elements) = IsPastBound new elements
IsRefusedAt f settings t new refused.OutOfMemory = Unit {0}

-- why the search was broken off: no limit is passed there
abbrev pub IsStopped : Table → CompileError → Type 0
IsStopped new (refused.OverLimit group size limit) = ⊥
IsStopped new (refused.ArenaFull elements) = IsPastBound new elements
IsStopped new refused.OutOfMemory = Unit {0}

-- the tree where the work was refused: as it was, or one after some walks of the search
abbrev pub IsTreeLeft : Groups → Settings → Tree → Tree → Type 0
IsTreeLeft f settings t new = (new ≡ t)
    ⊎ ((rounds : ℕ) × (settings.rounds ≡ Some rounds)
    × IsSearchBegun (expression_of f ∷ []) settings.slack rounds t new)

-- a manager that commands may go on with, and its cache
pub record IsAtRest (m : Table) (c : Answers) : Type 0 where
  pub table : IsTable m
  pub no_move : m.moving ≡ None
  pub bound : m.bound ≡ 2147483647
  pub unmarked : AreUnmarked m
  pub serves : Serves c m

-- the work was refused, and nothing is held
pub record IsStoppedAt (f : Groups) (settings : Settings) (t : Tree) (new : Table) (e : CompileError) : Type 0 where
  pub refused : IsRefusedAt f settings t new e
  pub nothing : HoldsNothing new
  pub tree : IsTreeLeft f settings t (plain_tree new.vtree)

-- what the work at a start may answer
pub record AnswersStart (f : Groups) (settings : Settings) (start : Start) (answer : StartAnswer) : Type 0 where
  pub ready : IsAtRest answer.manager answer.cache
  pub end : MatchResult answer.end
      (IsDoneAt f settings (tree_of_start start f.variables) answer.manager)
      (IsStoppedAt f settings (tree_of_start start f.variables) answer.manager)

-- the start that was chosen, as its manager stands
pub record IsChosenStart (f : Groups) (settings : Settings) (chosen : ChosenStart) : Type 0 where
  pub choice : IsChoice f settings (Chosen chosen.start chosen.size)
  pub holds : HoldsAlone chosen.manager f chosen.root
  pub searched : IsSearchedTo f settings (tree_of_start chosen.start f.variables) chosen.search chosen.size
      (plain_tree chosen.manager.vtree)
  pub ready : IsAtRest chosen.manager chosen.cache

-- the manager of a start whose arena was full
pub record IsFullStart (f : Groups) (settings : Settings) (start : Start) (elements : ℕ) (m : Table)
    : Type 0 where
  pub tree : IsTreeLeft f settings (tree_of_start start f.variables) (plain_tree m.vtree)
  pub past : IsPastBound m elements
  pub bound : m.bound ≡ 2147483647
  pub nothing : HoldsNothing m

-- the work ended with a size, or where the limit was passed: neither room nor memory lacked
abbrev pub HadRoom : Result Done CompileError → Type 0
HadRoom (Ok done) = Unit {0}
HadRoom (Err (refused.OverLimit group size limit)) = Unit {0}
HadRoom (Err (refused.ArenaFull elements)) = ⊥
HadRoom (Err refused.OutOfMemory) = ⊥

-- so the work at a start may end: some answer that it may give had room
abbrev pub MayHaveRoom : Groups → Settings → Start → Type 0
MayHaveRoom f settings start =
    (answer : StartAnswer) × AnswersStart f settings start answer × HadRoom answer.end

-- the manager of a start whose arena was full, where the work at each start before it may have had room
pub record IsFirstFull (f : Groups) (settings : Settings) (elements : ℕ) (m : Table) : Type 0 where
  pub start : Start
  pub full : IsFullStart f settings start elements m
  pub earlier : (other : Start) → rank other < rank start → MayHaveRoom f settings other

-- why no start was chosen, with the manager whose arena was full
abbrev pub IsNoChoice : Groups → Settings → CompileError → Option Table → Type 0
IsNoChoice f settings (refused.OverLimit group size limit) manager =
    IsChoice f settings (AllPassed group size) × (limit ≡ settings.limit) × (manager ≡ None)
IsNoChoice f settings (refused.ArenaFull elements) manager =
    (m : Table) × (manager ≡ Some m) × IsFirstFull f settings elements m
IsNoChoice f settings refused.OutOfMemory manager = manager ≡ None

-- the same of the refusal
abbrev pub IsChoiceRefused : Groups → Settings → Refused → Type 0
IsChoiceRefused f settings refusal = IsNoChoice f settings refusal.error refusal.manager

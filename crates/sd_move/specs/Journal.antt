-- Journals of moves: the state to which one goes back, and when it can be undone.
use Rattle.std.specs.Prelude.{◌≡◌, ◌⊎◌, ℕ, ◌+◌, Bool, List, [], ◌∷◌, map, length, Option, Some, None}
use Rattle.std.specs.Prelude.{if◌then◌else◌, ◌==◌}
use Rattle.std.specs.List.{AllByRecursion}
use Rattle.std.specs.Option.{IsSome, option_map}
use Rattle.std.specs.FinMap.{FinMap, empty, get, remove}
use Rattle.std.specs.Ordering.{nat_cmp}
use Rattle.sd_model.specs.declared.trees.Move.{Move}
use Rattle.sd_model.specs.Moves.{inverse_move}
use Rattle.sd_model.specs.Tree.{AreDistinct}
use Rattle.sd_model.specs.Diagram.{Diagram, meaning}
use Rattle.sd_vtree.specs.Numbered.{Numbered}
use Rattle.sd_vtree.specs.NumberedMoves.{moved_number}
use Rattle.sd_laws.specs.Shown.{Lookup, ShowsCanonical as ShowsCanonicalBy}
use Rattle.sd_laws.specs.Values.{StandsIn}
use Rattle.sd_manager.specs.Table.{Table, free_count}
use Rattle.sd_manager.specs.Shown.{ShowsCanonical}
use Rattle.sd_laws.specs.Turned.{lower_of}
use Rattle.sd_manager.specs.Moving.{IsAscending, IsLater, IsGivenBack}
use Rattle.sd_sweep.specs.Reached.{IsReachedFrom, IsReached, IsHeldBy}

-- A node that a move changed: its number, the place where it stood and, where it got another list, its old run, a start
-- and a length.
pub record Named : Type 0 where
  pub number : ℕ
  pub place : ℕ
  pub run : Option (ℕ × ℕ)

-- what a journal holds: the move, the node where it was made, the lower node, and the nodes that it changed
pub record Journal : Type 0 where
  pub kind : Move
  pub upper : ℕ
  pub lower : Option ℕ
  pub named : List Named

-- the entry of a number
abbrev pub journal_entry : List Named → ℕ → Option Named
journal_entry [] n = None
journal_entry (e ∷ es) n = if e.number == n then Some e else journal_entry es n

-- the key that a node had, where it got another list
abbrev pub key_before : Table → ℕ → ℕ → Option (ℕ × ℕ) → Option (ℕ × List (ℕ × ℕ))
key_before t n place None = option_map (λ (k : ℕ × List (ℕ × ℕ)). (place, k.1)) (get t.linked n)
key_before t n place (Some run) = option_map (λ (list : List (ℕ × ℕ)). (place, list)) (get t.loose run.0)

-- the key of a node with its entry's place and list put back
abbrev pub key_of_entry : Table → ℕ → Option Named → Option (ℕ × List (ℕ × ℕ))
key_of_entry t n None = get t.linked n
key_of_entry t n (Some e) = key_before t n e.place e.run

-- the nodes to which a journal goes back: those of the table, with the places and lists that it names put back
abbrev pub back : Journal → Table → Lookup
back j t n = key_of_entry t n (journal_entry j.named n)

-- a run starts here that is one of the journal's
abbrev pub IsOwnRun : List Named → ℕ → Type 0
IsOwnRun [] start = ⊥
IsOwnRun (e ∷ es) start = ((count : ℕ) × (e.run ≡ Some (start, count))) ⊎ IsOwnRun es start

-- the number is named
abbrev pub IsNamed : List Named → ℕ → Type 0
IsNamed es n = IsSome (journal_entry es n)

-- a loose run of the table is none of the journal's and has the node in its list
abbrev pub IsInOtherRun : Journal → Table → ℕ → Type 0
IsInOtherRun j t n =
    (start : ℕ) × (list : List (ℕ × ℕ)) × (get t.loose start ≡ Some list) × (¬ IsOwnRun j.named start)
    × StandsIn (2050 + n) list

-- a loose run of the table is one of the journal's and has the node in its list
abbrev pub IsInOwnRun : Journal → Table → ℕ → Type 0
IsInOwnRun j t n =
    (start : ℕ) × (list : List (ℕ × ℕ)) × (get t.loose start ≡ Some list) × IsOwnRun j.named start
    × StandsIn (2050 + n) list

-- among the nodes to which the journal goes back, n is under a held root or under another loose run
abbrev pub IsKeptBack : Journal → Table → ℕ → Type 0
IsKeptBack j t n = IsReachedFrom (λ k. IsHeldBy t k ⊎ IsInOtherRun j t k) (back j t) n

-- among them n is under a held root, under any loose run, or under a named node
abbrev pub IsNeededBack : Journal → Table → ℕ → Type 0
IsNeededBack j t n =
    IsReachedFrom (λ k. IsHeldBy t k ⊎ (IsInOtherRun j t k ⊎ (IsInOwnRun j t k ⊎ IsNamed j.named k))) (back j t) n

-- the node shows one function in the table, and among the nodes `at` under the vtree `tree`
pub record IsOneFunction (t : Table) (tree : Numbered) (at : Lookup) (n : ℕ) : Type 0 where
  pub now : Diagram
  pub there : Diagram
  pub shown_now : ShowsCanonical t (2050 + n) now
  pub shown_there : ShowsCanonicalBy tree at (2050 + n) there
  pub same : (a : List Bool) → meaning now a ≡ meaning there a

-- the run, where there is one, is a loose run of the table
abbrev pub IsLooseRun : Table → Option (ℕ × ℕ) → Type 0
IsLooseRun t run =
    (start count : ℕ) → run ≡ Some (start, count) →
    (former : List (ℕ × ℕ)) × (get t.loose start ≡ Some former) × (length former ≡ count)

-- the run of the entry is
abbrev pub HasLooseRun : Table → Named → Type 0
HasLooseRun t e = IsLooseRun t e.run

-- The entry is of a linked node of the two places, which is under a held root or a loose run; its run is a loose one.
pub record CanPutBack (t : Table) (upper : ℕ) (lower : Option ℕ) (e : Named) : Type 0 where
  pub place : ℕ
  pub list : List (ℕ × ℕ)
  pub linked : get t.linked e.number ≡ Some (place, list)
  pub here : (place ≡ upper) ⊎ (Some place ≡ lower)
  pub before : (e.place ≡ upper) ⊎ (Some e.place ≡ lower)
  pub reached : IsReached t e.number
  pub run : HasLooseRun t e
  -- a node gets another list at the upper node alone
  pub rewritten : IsSome e.run → (place ≡ upper) × (e.place ≡ upper)

-- the list with the start of a run, where there is one
abbrev pub with_start : Option (ℕ × ℕ) → List ℕ → List ℕ
with_start None starts = starts
with_start (Some run) starts = run.0 ∷ starts

-- the starts of the runs that the entries have
abbrev pub starts_of : List Named → List ℕ
starts_of [] = []
starts_of (e ∷ es) = with_start e.run (starts_of es)

-- A journal can be undone: the inverse move is defined and turns the same lower node; each entry can be put back, no
-- number and no run is named twice; and each node that is under a held root, a loose run or a named node of the state
-- to which it goes back shows a canonical diagram there, with the function that it has now.
pub record CanUndo (j : Journal) (t : Table) : Type 0 where
  pub no_move : t.moving ≡ None
  pub tree : Numbered
  pub turned : moved_number (inverse_move j.kind) t.vtree j.upper ≡ Some tree
  pub lower : lower_of (inverse_move j.kind) t.vtree j.upper ≡ j.lower
  pub numbers_once : AreDistinct (map (λ (e : Named). e.number) j.named)
  pub runs_once : AreDistinct (starts_of j.named)
  pub entries : AllByRecursion (CanPutBack t j.upper j.lower) j.named
  pub ascending : (n place : ℕ) (list : List (ℕ × ℕ)) → IsNeededBack j t n → back j t n ≡ Some (place, list) →
      IsAscending list
  pub shown : (n : ℕ) → IsNeededBack j t n → IsOneFunction t tree (back j t) n

-- the loose runs without those of the entries
abbrev pub without_runs : FinMap nat_cmp (List (ℕ × ℕ)) → List ℕ → FinMap nat_cmp (List (ℕ × ℕ))
without_runs loose [] = loose
without_runs loose (start ∷ starts) = without_runs (remove loose start) starts

-- The journal can be settled: its runs are loose runs of the table, each named once.
pub record CanSettle (j : Journal) (t : Table) : Type 0 where
  pub runs : AllByRecursion (HasLooseRun t) j.named
  pub once : AreDistinct (starts_of j.named)

-- no run is one of both journals
abbrev pub HaveOtherRuns : Journal → Journal → Type 0
HaveOtherRuns j k = (start : ℕ) → IsOwnRun j.named start → ¬ IsOwnRun k.named start

-- each node that the journal names is under a held root or a loose run
abbrev pub AreNamedReached : Journal → Table → Type 0
AreNamedReached j t = AllByRecursion (λ (e : Named). IsReached t e.number) j.named

-- how many runs of a length n there are where there may be one: one or none
abbrev pub runs_of : ℕ → Option (ℕ × ℕ) → ℕ
runs_of n None = 0
runs_of n (Some run) = if run.1 == n then 1 else 0

-- how many of the entries have a run of the length n
abbrev pub entries_with : ℕ → List Named → ℕ
entries_with n [] = 0
entries_with n (e ∷ es) = runs_of n e.run + entries_with n es

-- The journal was settled: its runs are loose no more and free, so that of each length there are as many more free runs
-- as entries have one. Nothing else changed.
pub record IsSettledBy (old new : Table) (j : Journal) : Type 0 where
  pub same : new ≡ record old { loose = without_runs old.loose (starts_of j.named); free = new.free }
  pub freed : (n : ℕ) → free_count new n ≡ free_count old n + entries_with n j.named

-- The journal was undone: the vtree is that of the inverse move; each node under a held root or another loose run has
-- the place and the list of the state to which the journal goes back; its own runs are spent; the epoch is a later one.
pub record Rollback (j : Journal) (old new : Table) : Type 0 where
  pub tree : Numbered
  pub turned : moved_number (inverse_move j.kind) old.vtree j.upper ≡ Some tree
  pub vtree : new.vtree ≡ tree
  pub nodes : (n : ℕ) → IsKeptBack j old n → (k : ℕ × List (ℕ × ℕ)) → back j old n ≡ Some k → get new.linked n ≡ Some k
  pub roots : new.roots ≡ old.roots
  pub loose : new.loose ≡ without_runs old.loose (starts_of j.named)
  pub detached : new.detached ≡ empty
  pub moving : new.moving ≡ None
  pub bound : new.bound ≡ old.bound
  pub extent : new.extent ≡ old.extent
  pub records : new.records ≡ old.records
  pub later : IsLater old new

-- ---- for the contracts of private functions

-- the run, where there is one, was given back; nothing else changed
abbrev pub MayGiveBack : Table → Table → Option (ℕ × ℕ) → Type 0
MayGiveBack old new None = new ≡ old
MayGiveBack old new (Some run) = IsGivenBack old new run.0 run.1

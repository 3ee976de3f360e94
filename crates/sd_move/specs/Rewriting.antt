-- Nodes that wait in a move for another list, for the contracts of private functions: what rewriting them asks, and
-- what it does to the table.
use Rattle.std.specs.Prelude.{◌≡◌, ◌⊎◌, ℕ, ◌+◌, ◌≤◌, false, List, ◌++◌, length, Some, None}
use Rattle.std.specs.List.{AllByRecursion}
use Rattle.std.specs.Option.{IsSome}
use Rattle.std.specs.FinMap.{get}
use Rattle.sd_model.specs.Tree.{Tree, Node, AreDistinct}
use Rattle.sd_vtree.specs.Numbered.{Numbered, NumberedNode, plain_tree, subtree}
use Rattle.sd_runs.specs.Arena.{IsMember, HasNoCopies}
use Rattle.sd_laws.specs.Depends.{DependsOn}
use Rattle.sd_laws.specs.Shown.{Lookup, Keeps}
use Rattle.sd_laws.specs.Values.{Valuation, IsTwoSided, ShowsValue, KeepsValues}
use Rattle.sd_manager.specs.Table.{Table, key_at}
use Rattle.sd_apply.specs.Places.{IsBelow}
use Rattle.sd_move.specs.GoingBack.{numbers_of}
use Rattle.sd_move.specs.Journal.{Named, IsOwnRun, starts_of}
use Rattle.sd_move.specs.Moving.{Progress, IsNew, HasNumber, IsBelowNode, MoveInProgress}

-- the code shows its value, which looks at the variables of the tree alone
pub record ShowsWithin (t : Numbered) (at : Lookup) (v : Valuation) (tree : Tree) (c : ℕ) : Type 0 where
  pub shown : ShowsValue t at v c
  pub within : DependsOn tree (v c)

-- both codes of each pair show diagrams that stand at the vtree node or below it
abbrev pub AreBelow : Table → ℕ → List (ℕ × ℕ) → Type 0
AreBelow t place list = AllByRecursion (λ (e : ℕ × ℕ). IsBelow t place e.0 × IsBelow t place e.1) list

-- A detached node waits at x for another list: it is none of the new ones, it looks at both children of x, and the
-- codes of its list show what looks at the variables below x alone.
pub record IsWaiting (m0 m : Table) (x : ℕ) (h : Progress) (v : Valuation) (left right : Tree) (n : ℕ) : Type 0 where
  pub list : List (ℕ × ℕ)
  pub was : get m.detached n ≡ Some (x, list)
  pub old : ¬ IsNew m0 h n
  pub two_sided : IsTwoSided left right (v (2050 + n))
  pub codes : AllByRecursion (λ (e : ℕ × ℕ). ShowsWithin m.vtree (get m.linked) v (Node left right) e.0
      × ShowsWithin m.vtree (get m.linked) v (Node left right) e.1) list

-- A move at x is on its way there, and the detached nodes are those of these numbers, each of which waits.
pub record CanRewriteAll (m0 m : Table) (x : ℕ) (h : Progress) (v : Valuation) (numbers : List ℕ) : Type 0 where
  pub going : MoveInProgress m0 m x h v
  pub there : h.goes_back ≡ false
  pub left : Numbered
  pub right : Numbered
  pub at : subtree m.vtree x ≡ Some (NumberedNode x left right)
  pub once : HasNoCopies numbers
  pub only : (n : ℕ) → IsSome (get m.detached n) → IsMember n numbers
  pub each : AllByRecursion (IsWaiting m0 m x h v (plain_tree left) (plain_tree right)) numbers

-- some move is so
abbrev pub MayRewriteAll : Table → ℕ → List ℕ → Type 0
MayRewriteAll m x numbers = (m0 : Table) × (h : Progress) × (v : Valuation) × CanRewriteAll m0 m x h v numbers

-- The node of the entry waited at the place and is linked there with another list; its old one is a loose run, that of
-- the entry.
pub record WasRewritten (old new : Table) (place : ℕ) (e : Named) : Type 0 where
  pub former : List (ℕ × ℕ)
  pub list : List (ℕ × ℕ)
  pub start : ℕ
  pub was : get old.detached e.number ≡ Some (place, former)
  pub is : get new.linked e.number ≡ Some (place, list)
  pub at : e.place ≡ place
  pub run : e.run ≡ Some (start, length former)
  pub fresh : get old.loose start ≡ None
  pub loose : get new.loose start ≡ Some former

-- The nodes of the entries were rewritten, in a move at the place. Each other node stayed as it was, and those that are
-- new stand below the place.
pub record AreRewritten (old new : Table) (place : ℕ) (entries : List Named) : Type 0 where
  pub vtree : new.vtree ≡ old.vtree
  pub roots : new.roots ≡ old.roots
  pub epoch : new.epoch ≡ old.epoch
  pub bound : new.bound ≡ old.bound
  pub moving : new.moving ≡ old.moving
  pub extent : old.extent ≤ new.extent
  pub records : old.records ≤ new.records
  pub nodes : Keeps (get old.linked) (get new.linked)
  pub new_below : (n : ℕ) (k : ℕ × List (ℕ × ℕ)) → key_at old n ≡ None → get new.linked n ≡ Some k →
      IsBelowNode new place k.0
  -- a node has the mark that it had, and a new one the mark 0
  pub marks : (n m : ℕ) → IsSome (key_at new n) → get new.marks n ≡ Some m →
      (IsSome (key_at old n) × (get old.marks n ≡ Some m)) ⊎ (m ≡ 0)
  pub each : AllByRecursion (WasRewritten old new place) entries
  pub gone : (n : ℕ) → IsMember n (numbers_of entries) → get new.detached n ≡ None
  pub waiting : (n : ℕ) → ¬ IsMember n (numbers_of entries) → get new.detached n ≡ get old.detached n
  pub runs_once : AreDistinct (starts_of entries)
  pub other_runs : (start : ℕ) → ¬ IsOwnRun entries start → get new.loose start ≡ get old.loose start

-- The first of the numbers were rewritten, all but the rest, and their entries were put behind those before.
pub record HasRewritten (old new : Table) (place : ℕ) (numbers : List ℕ) (before after : List Named) (rest : List ℕ)
    : Type 0 where
  pub entries : List Named
  pub added : after ≡ before ++ entries
  pub first : numbers_of entries ++ rest ≡ numbers
  pub done : AreRewritten old new place entries

-- The move goes on, where these numbers wait still; each node that there was is there, and has the value that it had.
pub record GoesOn (m0 old new : Table) (x : ℕ) (h : Progress) (v : Valuation) (rest : List ℕ) : Type 0 where
  pub progress : Progress
  pub values : Valuation
  pub can : CanRewriteAll m0 new x progress values rest
  pub discarded : progress.discarded ≡ h.discarded
  pub numbers : (n : ℕ) → HasNumber old n → HasNumber new n
  pub kept : KeepsValues (key_at old) v values

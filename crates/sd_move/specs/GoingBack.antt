-- Going back in a move, for the contracts of private functions: what is known before, what the steps keep, and what it
-- leaves.
use Rattle.std.specs.Prelude.{◌≡◌, ◌⊎◌, ℕ, ◌+◌, true, List, map, Option, Some, None}
use Rattle.std.specs.List.{AllByRecursion}
use Rattle.std.specs.Option.{IsSome}
use Rattle.std.specs.FinMap.{get, empty}
use Rattle.sd_model.specs.declared.trees.Move.{Move}
use Rattle.sd_model.specs.Tree.{AreDistinct}
use Rattle.sd_vtree.specs.Numbered.{Numbered}
use Rattle.sd_vtree.specs.NumberedMoves.{moved_number}
use Rattle.sd_runs.specs.Arena.{IsMember}
use Rattle.sd_laws.specs.Shown.{Lookup}
use Rattle.sd_laws.specs.Turned.{lower_of}
use Rattle.sd_laws.specs.Values.{Valuation, IsSame, pairs_value, IsWhole, IsPlaced, StandsIn}
use Rattle.sd_laws.proofs.GoneBack.{IsBaseOrNode}
use Rattle.sd_manager.specs.Table.{Table, key_at}
use Rattle.sd_manager.specs.Valid.{IsTable}
use Rattle.sd_manager.specs.Moving.{IsAscending, IsLater, next_epoch}
use Rattle.sd_manager.specs.Places.{IsLinkedAt}
use Rattle.sd_move.specs.Steps.{CanDetachAt, AreDetached}
use Rattle.sd_move.specs.Moving.{Progress, IsNew, IsBelowNode, MoveInProgress}
use Rattle.sd_move.specs.Journal.{Named, Journal, journal_entry, key_before, back, IsOwnRun, IsNeededBack, HasLooseRun}
use Rattle.sd_move.specs.Journal.{starts_of, without_runs}

-- what a move goes back to: the nodes of a table, or those that a journal needs, with the keys to which it goes back
pub data Target : Type 0 where
  ToTable : Table → Target
  ToJournal : Journal → Table → Target

-- the node is one of those to which the move goes back
abbrev pub IsWanted : Target → ℕ → Type 0
IsWanted (ToTable t) n = IsSome (get t.linked n)
IsWanted (ToJournal j t) n = IsNeededBack j t n

-- the keys that they get
abbrev pub wanted_key : Target → Lookup
wanted_key (ToTable t) n = get t.linked n
wanted_key (ToJournal j t) n = back j t n

-- the place is that of the moved node or of the lower one
abbrev pub IsTurnedPlace : ℕ → Option ℕ → ℕ → Type 0
IsTurnedPlace x lower place = (place ≡ x) ⊎ (Some place ≡ lower)

-- Each node that is wanted has the function of the list that it gets, which is whole, is placed in the vtree, ascends,
-- and names constants, literals and wanted nodes alone.
pub record AreWellWanted (tree : Numbered) (v : Valuation) (K : ℕ → Type 0) (old : Lookup) : Type 0 where
  pub there : (n : ℕ) → K n → IsSome (old n)
  pub value : (n p : ℕ) (l : List (ℕ × ℕ)) → K n → old n ≡ Some (p, l) → IsSame (v (2050 + n)) (pairs_value v l)
  pub whole : (n p : ℕ) (l : List (ℕ × ℕ)) → K n → old n ≡ Some (p, l) → IsWhole v l
  pub placed : (n p : ℕ) (l : List (ℕ × ℕ)) → K n → old n ≡ Some (p, l) → IsPlaced tree v p l
  pub ascending : (n p : ℕ) (l : List (ℕ × ℕ)) → K n → old n ≡ Some (p, l) → IsAscending l
  pub closed : (n p i : ℕ) (l : List (ℕ × ℕ)) → K n → old n ≡ Some (p, l) → StandsIn (2050 + i) l → K i
  pub codes : (n p : ℕ) (l : List (ℕ × ℕ)) → K n → old n ≡ Some (p, l) →
      AllByRecursion (λ (e : ℕ × ℕ). IsBaseOrNode tree e.0 × IsBaseOrNode tree e.1) l

-- The entry is of a wanted node that is linked at one of the two places. It gets the entry's place, which is one of
-- them too, with the list that it has or with that of the entry's run, a loose one; it gets another list at the moved
-- node alone.
pub record IsRightEntry (m : Table) (x : ℕ) (lower : Option ℕ) (K : ℕ → Type 0) (old : Lookup) (e : Named) :
    Type 0 where
  pub wanted : K e.number
  pub place : ℕ
  pub list : List (ℕ × ℕ)
  pub linked : get m.linked e.number ≡ Some (place, list)
  pub here : IsTurnedPlace x lower place
  pub before : IsTurnedPlace x lower e.place
  pub run : HasLooseRun m e
  pub back : old e.number ≡ key_before m e.number e.place e.run
  pub rewritten : IsSome e.run → (place ≡ x) × (e.place ≡ x)

-- How a move goes back: the table at which it began, what it has done, the functions of the nodes, and the target.
pub record WayBack : Type 0 where
  pub start : Table
  pub progress : Progress
  pub valuation : Valuation
  pub target : Target

-- The move at x can go back by this kind of move, which turns this lower node. A detached node waits at x. The nodes
-- that are wanted were there at the start, and each other one stands strictly below x; roots, and loose runs that are
-- none of the entries', name wanted nodes. An entry is right, and no number and no run is named twice; a wanted node
-- that is not named gets the key that it has.
pub record CanGoBack (w : WayBack) (m : Table) (kind : Move) (x : ℕ) (lower : Option ℕ) (named : List Named) :
    Type 0 where
  pub going : MoveInProgress w.start m x w.progress w.valuation
  pub tree : Numbered
  pub turned : moved_number kind m.vtree x ≡ Some tree
  pub lower_is : lower_of kind m.vtree x ≡ lower
  pub waiting : (n : ℕ) (k : ℕ × List (ℕ × ℕ)) → get m.detached n ≡ Some k → k.0 ≡ x
  pub older : (n : ℕ) → IsWanted w.target n → ¬ IsNew w.start w.progress n
  pub others : (n : ℕ) (k : ℕ × List (ℕ × ℕ)) → key_at m n ≡ Some k → IsWanted w.target n ⊎ IsBelowNode m x k.0
  pub roots : (root n : ℕ) → get m.roots root ≡ Some (2050 + n) → IsWanted w.target n
  pub runs : (start n : ℕ) (list : List (ℕ × ℕ)) → get m.loose start ≡ Some list → ¬ IsOwnRun named start →
      StandsIn (2050 + n) list → IsWanted w.target n
  pub wanted : AreWellWanted tree w.valuation (IsWanted w.target) (wanted_key w.target)
  pub entries : AllByRecursion (IsRightEntry m x lower (IsWanted w.target) (wanted_key w.target)) named
  pub numbers_once : AreDistinct (map (λ (e : Named). e.number) named)
  pub runs_once : AreDistinct (starts_of named)
  pub unnamed : (n : ℕ) → IsWanted w.target n → journal_entry named n ≡ None → wanted_key w.target n ≡ key_at m n

-- The move went back to the target, and ended. The vtree is turned; each wanted node is linked under the key that it
-- gets, and each other linked one as it was, strictly below x and not at the lower node; none of these is gone. The
-- entries' runs are loose no more, and the epoch is a later one.
pub record HasGoneBack (target : Target) (old new : Table) (kind : Move) (x : ℕ) (lower : Option ℕ)
    (named : List Named) : Type 0 where
  pub vtree : moved_number kind old.vtree x ≡ Some new.vtree
  pub wanted : (n : ℕ) → IsWanted target n → get new.linked n ≡ wanted_key target n
  pub others : (n : ℕ) (k : ℕ × List (ℕ × ℕ)) → get old.linked n ≡ Some k → ¬ IsTurnedPlace x lower k.0 →
      get new.linked n ≡ Some k
  pub only : (n : ℕ) (k : ℕ × List (ℕ × ℕ)) → get new.linked n ≡ Some k →
      (IsWanted target n × (wanted_key target n ≡ Some k))
      ⊎ ((get old.linked n ≡ Some k) × IsBelowNode old x k.0 × (¬ IsTurnedPlace x lower k.0))
  pub roots : new.roots ≡ old.roots
  pub loose : new.loose ≡ without_runs old.loose (starts_of named)
  pub detached : new.detached ≡ empty
  pub moving : new.moving ≡ None
  pub bound : new.bound ≡ old.bound
  pub extent : new.extent ≡ old.extent
  pub records : new.records ≡ old.records
  pub later : IsLater old new
  -- a mark that is there is that from before
  pub marks : (n m : ℕ) → get new.marks n ≡ Some m → get old.marks n ≡ Some m

-- A move on its way back: how it goes back, the table at which it began to, the move of the vtree, its two nodes, and
-- the entries.
pub record Return : Type 0 where
  pub way : WayBack
  pub before : Table
  pub kind : Move
  pub upper : ℕ
  pub lower : Option ℕ
  pub named : List Named

-- these parts of one
abbrev pub return_of : WayBack → Table → Move → ℕ → Option ℕ → List Named → Return
return_of w before kind x lower named =
    record { way = w; before = before; kind = kind; upper = x; lower = lower; named = named }

-- the node is wanted
abbrev pub IsWantedBy : Return → ℕ → Type 0
IsWantedBy r n = IsWanted r.way.target n

-- the key that it gets
abbrev pub key_wanted : Return → Lookup
key_wanted r n = wanted_key r.way.target n

-- The entry is right, and is that of its number.
pub record IsListed (r : Return) (e : Named) : Type 0 where
  pub right : IsRightEntry r.before r.upper r.lower (IsWantedBy r) (key_wanted r) e
  pub own : journal_entry r.named e.number ≡ Some e

-- the node of each entry with no run is detached
abbrev pub KeptWait : Table → List Named → Type 0
KeptWait now es = AllByRecursion (λ (e : Named). e.run ≡ None → IsSome (get now.detached e.number)) es

-- the node of each entry with a run is detached
abbrev pub RewrittenWait : Table → List Named → Type 0
RewrittenWait now es = AllByRecursion (λ (e : Named). IsSome e.run → IsSome (get now.detached e.number)) es

-- the run of the entry, where there is one, has the list that it had
abbrev pub KeepsRun : Table → Table → Named → Type 0
KeepsRun before now e = (start count : ℕ) → e.run ≡ Some (start, count) → get now.loose start ≡ get before.loose start

-- the numbers of entries
abbrev pub numbers_of : List Named → List ℕ
numbers_of es = map (λ (e : Named). e.number) es

-- Of the named nodes those are detached that keep their lists and stand in the first list of entries, and those that
-- get others and stand in the second one; the runs of these are loose.
pub record AreEntriesLeft (r : Return) (now : Table) (first second : List Named) : Type 0 where
  pub listed_first : AllByRecursion (IsListed r) first
  pub listed_second : AllByRecursion (IsListed r) second
  pub once_first : AreDistinct (numbers_of first)
  pub once_second : AreDistinct (numbers_of second)
  pub wait_first : KeptWait now first
  pub wait_second : RewrittenWait now second
  pub left : (n : ℕ) (e : Named) → journal_entry r.named n ≡ Some e → IsSome (get now.detached n) →
      ((e.run ≡ None) × IsMember n (numbers_of first)) ⊎ (IsSome e.run × IsMember n (numbers_of second))
  pub runs_once : AreDistinct (starts_of second)
  pub runs : AllByRecursion (KeepsRun r.before now) second
  pub loose : without_runs now.loose (starts_of second) ≡ without_runs r.before.loose (starts_of r.named)

-- The vtree is turned back. A linked node has the key that it gets, or is not wanted and stands as before at neither of
-- the two places; a detached one has the key from before, at one of them. These entries are left.
pub record IsReturning (r : Return) (now : Table) (first second : List Named) : Type 0 where
  pub can : CanGoBack r.way r.before r.kind r.upper r.lower r.named
  pub table : IsTable r.before
  pub progress : Progress
  pub going : MoveInProgress r.way.start now r.upper progress r.way.valuation
  pub goes_back : progress.goes_back ≡ true
  pub older : (n : ℕ) → IsWantedBy r n → ¬ IsNew r.way.start progress n
  pub same : now ≡ record r.before {
    vtree = can.tree;
    epoch = next_epoch r.before.epoch;
    linked = now.linked;
    detached = now.detached;
    loose = now.loose;
    free = now.free;
    marks = now.marks;
  }
  pub linked : (n : ℕ) (k : ℕ × List (ℕ × ℕ)) → get now.linked n ≡ Some k →
      (IsWantedBy r n × (key_wanted r n ≡ Some k))
      ⊎ ((get r.before.linked n ≡ Some k) × IsBelowNode r.before r.upper k.0 × (¬ IsTurnedPlace r.upper r.lower k.0))
  pub stay : (n : ℕ) (k : ℕ × List (ℕ × ℕ)) → get r.before.linked n ≡ Some k → ¬ IsTurnedPlace r.upper r.lower k.0 →
      get now.linked n ≡ Some k
  pub detached : (n : ℕ) (k : ℕ × List (ℕ × ℕ)) → get now.detached n ≡ Some k →
      (key_at r.before n ≡ Some k) × IsTurnedPlace r.upper r.lower k.0
  pub marks : (n m : ℕ) → get now.marks n ≡ Some m → get r.before.marks n ≡ Some m
  pub entries : AreEntriesLeft r now first second

-- The nodes that were linked at the place are detached. Nothing else changed, and a move goes on over it.
pub record IsClearedAt (old new : Table) (place : ℕ) : Type 0 where
  pub going : (m0 : Table) (x : ℕ) (h : Progress) (v : Valuation) → CanDetachAt m0 old x h v place →
      MoveInProgress m0 new x h v
  pub numbers : List ℕ
  pub detached : AreDetached old new place numbers
  pub none_left : (n : ℕ) → ¬ IsLinkedAt new place n

-- so it is at the lower node, where there is one
abbrev pub IsClearedBelow : Table → Table → Option ℕ → Type 0
IsClearedBelow old new None = new ≡ old
IsClearedBelow old new (Some w) = IsClearedAt old new w

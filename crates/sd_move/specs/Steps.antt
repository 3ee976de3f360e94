-- What the loops of a move ask, and what they do to the table, for the contracts of private functions.
use Rattle.std.specs.Prelude.{◌≡◌, ◌≢◌, ◌⊎◌, ℕ, true, false, List, Some, None}
use Rattle.std.specs.List.{AllByRecursion}
use Rattle.std.specs.FinMap.{get}
use Rattle.sd_model.specs.declared.trees.Move.{Move}
use Rattle.sd_vtree.specs.Numbered.{Numbered, NumberedNode, number_of, subtree, IsUnder}
use Rattle.sd_vtree.specs.NumberedMoves.{moved_number}
use Rattle.sd_runs.specs.Arena.{IsMember, HasNoCopies}
use Rattle.sd_laws.specs.Shown.{Keeps}
use Rattle.sd_laws.specs.Turned.{lower_of}
use Rattle.sd_laws.specs.Values.{Valuation, IsPlaced, ShowsValue}
use Rattle.sd_manager.specs.Table.{Table, key_at}
use Rattle.sd_manager.specs.Valid.{IsTable, IsSettled}
use Rattle.sd_manager.specs.Moving.{IsAscending, moving_at}
use Rattle.sd_manager.specs.Places.{IsLinkedAt}
use Rattle.sd_move.specs.Moving.{Progress, IsNew, MoveInProgress, HasBegun}

-- each node that is linked strictly above the place is above the moved node
abbrev pub IsClearAbove : Table → ℕ → Type 0
IsClearAbove t place = (n : ℕ) (k : ℕ × List (ℕ × ℕ)) → get t.linked n ≡ Some k → IsUnder t.vtree place k.0 →
    k.0 ≢ place → ¬ IsSettled t k.0

-- A move may detach the nodes at the place: what is above it stays, nothing was rewritten or the move goes back, and on
-- the way there no node at the place is new.
pub record CanDetachAt (m0 m : Table) (x : ℕ) (h : Progress) (v : Valuation) (place : ℕ) : Type 0 where
  pub going : MoveInProgress m0 m x h v
  pub above : IsClearAbove m place
  pub early : h.has_rewritten ≡ true → h.goes_back ≡ false → ⊥
  pub old : h.goes_back ≡ false → (n : ℕ) → IsLinkedAt m place n → ¬ IsNew m0 h n

-- some move may
abbrev pub MayDetachAt : Table → ℕ → Type 0
MayDetachAt m place =
    (m0 : Table) × (x : ℕ) × (h : Progress) × (v : Valuation) × CanDetachAt m0 m x h v place

-- A move may, whose nodes at the place can be linked again: it is not on its way back, and the place is settled.
pub record CanDetachFirst (m0 m : Table) (x : ℕ) (h : Progress) (v : Valuation) (place : ℕ) : Type 0 where
  pub may : CanDetachAt m0 m x h v place
  pub there : h.goes_back ≡ false
  pub settled : IsSettled m place

-- some move is so
abbrev pub MayDetachFirst : Table → ℕ → Type 0
MayDetachFirst m place =
    (m0 : Table) × (x : ℕ) × (h : Progress) × (v : Valuation) × CanDetachFirst m0 m x h v place

-- a node was linked at the place, and is detached with the same key
pub record WasDetached (old new : Table) (place n : ℕ) : Type 0 where
  pub list : List (ℕ × ℕ)
  pub was : get old.linked n ≡ Some (place, list)
  pub is : get new.detached n ≡ Some (place, list)

-- Nodes that were linked at the place are detached, those of these numbers, each with its key. Nothing else changed.
pub record AreDetached (old new : Table) (place : ℕ) (numbers : List ℕ) : Type 0 where
  pub same : new ≡ record old { linked = new.linked; detached = new.detached }
  pub keys : (n : ℕ) → key_at new n ≡ key_at old n
  pub still : (n : ℕ) (k : ℕ × List (ℕ × ℕ)) → get new.linked n ≡ Some k → get old.linked n ≡ Some k
  pub others : (n : ℕ) (k : ℕ × List (ℕ × ℕ)) → get old.linked n ≡ Some k → k.0 ≢ place → get new.linked n ≡ Some k
  pub stay : Keeps (get old.detached) (get new.detached)
  pub only : (n : ℕ) (k : ℕ × List (ℕ × ℕ)) → get new.detached n ≡ Some k →
      (get old.detached n ≡ Some k) ⊎ IsMember n numbers
  pub each : (n : ℕ) → IsMember n numbers → WasDetached old new place n
  pub once : HasNoCopies numbers

-- A detached node may be linked at the place with its list: it is none of the new ones, and its list is placed there,
-- ascends, and names what shows its value.
pub record CanLinkWith (m0 m : Table) (h : Progress) (v : Valuation) (place n : ℕ) : Type 0 where
  pub before : ℕ
  pub list : List (ℕ × ℕ)
  pub was : get m.detached n ≡ Some (before, list)
  pub old : ¬ IsNew m0 h n
  pub placed : IsPlaced m.vtree v place list
  pub ascending : IsAscending list
  pub codes : AllByRecursion (λ (e : ℕ × ℕ). ShowsValue m.vtree (get m.linked) v e.0
      × ShowsValue m.vtree (get m.linked) v e.1) list

-- a move may link these nodes at the place, one after the other
pub record CanLinkAll (m0 m : Table) (x : ℕ) (h : Progress) (v : Valuation) (place : ℕ)
    (numbers : List ℕ) : Type 0 where
  pub going : MoveInProgress m0 m x h v
  pub settled : IsSettled m place
  pub early : h.has_rewritten ≡ true → h.goes_back ≡ false → ⊥
  pub once : HasNoCopies numbers
  pub each : AllByRecursion (CanLinkWith m0 m h v place) numbers

-- some move may
abbrev pub MayLinkAll : Table → ℕ → List ℕ → Type 0
MayLinkAll m place numbers =
    (m0 : Table) × (x : ℕ) × (h : Progress) × (v : Valuation) × CanLinkAll m0 m x h v place numbers

-- The nodes of these numbers were linked at the place with their lists. Nothing else changed.
pub record AreLinkedAt (old new : Table) (place : ℕ) (numbers : List ℕ) : Type 0 where
  pub same : new ≡ record old { linked = new.linked; detached = new.detached }
  pub each : (n : ℕ) (k : ℕ × List (ℕ × ℕ)) → IsMember n numbers → get old.detached n ≡ Some k →
      get new.linked n ≡ Some (place, k.1)
  pub gone : (n : ℕ) → IsMember n numbers → get new.detached n ≡ None
  pub others : (n : ℕ) → ¬ IsMember n numbers →
      (get new.linked n ≡ get old.linked n) × (get new.detached n ≡ get old.detached n)

-- w is a child of x
pub record IsChildNode (t : Numbered) (x w : ℕ) : Type 0 where
  pub left : Numbered
  pub right : Numbered
  pub at : subtree t x ≡ Some (NumberedNode x left right)
  pub child : (w ≡ number_of left) ⊎ (w ≡ number_of right)
  pub under : IsUnder t w x
  pub apart : x ≢ w

-- The nodes at x and then those at w were detached, at the begin of a move at x: those of these numbers. No other one
-- is linked at the two nodes.
pub record HasDetachedBoth (old new : Table) (x w : ℕ) (upper lower : List ℕ) : Type 0 where
  pub between : Table
  pub first : AreDetached (moving_at old x) between x upper
  pub second : AreDetached between new w lower
  pub table : IsTable between
  pub began : HasBegun old between x
  pub going : HasBegun old new x
  pub none_upper : (n : ℕ) → ¬ IsLinkedAt new x n
  pub none_lower : (n : ℕ) → ¬ IsLinkedAt new w n

-- The two nodes of a rotation are so, which can be made.
abbrev pub IsReadyToRotate : Table → Move → ℕ → List ℕ → Type 0
IsReadyToRotate m kind x lower =
    (old : Table) × (w : ℕ) × (upper : List ℕ) × (u : Numbered) × HasDetachedBoth old m x w upper lower
    × (lower_of kind m.vtree x ≡ Some w) × (moved_number kind m.vtree x ≡ Some u)

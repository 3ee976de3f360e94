-- How the nodes of the upper place are sorted after a rotation, for the contracts of private functions.
use Rattle.std.specs.Prelude.{◌≡◌, ◌⊎◌, ℕ, Bool, true, false, List, [], ◌∷◌, ◌++◌, map, Some, None}
use Rattle.std.specs.List.{AllByRecursion}
use Rattle.std.specs.List.Sorted.{IsPermutation}
use Rattle.std.specs.FinMap.{get}
use Rattle.sd_model.specs.declared.trees.Move.{Move}
use Rattle.sd_model.specs.declared.trees.Move.TheVariants.{RotateLeft, RotateRight}
use Rattle.sd_vtree.specs.NumberedMoves.{moved_number}
use Rattle.sd_vtree.specs.Numbered.{Numbered, NumberedNode, IsNumbered, plain_tree, subtree}
use Rattle.sd_runs.specs.Arena.{IsMember, HasNoCopies}
use Rattle.sd_laws.specs.Turned.{AreRotated, lower_of}
use Rattle.sd_laws.specs.Values.{Valuation, pairs_value, IsPlaced, IsTwoSided, ShowsValue}
use Rattle.sd_laws.proofs.Evaluated.{value_of}
use Rattle.sd_manager.specs.Table.{Table}
use Rattle.sd_manager.specs.Valid.{IsTable}
use Rattle.sd_manager.specs.Moving.{IsAscending, linked_under, with_vtree}
use Rattle.sd_apply.specs.Places.{IsBelow}
use Rattle.sd_model.specs.declared.trees.Side.{Side}
use Rattle.sd_model.specs.declared.trees.Side.TheVariants.{Left, Right}
use Rattle.sd_move.specs.declared.sorting.Fit.{Fit}
use Rattle.sd_move.specs.declared.sorting.Fit.TheVariants.{Upper, Lower, Neither}
use Rattle.sd_move.specs.Journal.{Named}
use Rattle.sd_move.specs.Moving.{Progress, no_progress, IsNew, MoveInProgress}
use Rattle.sd_move.specs.Steps.{HasDetachedBoth, AreLinkedAt}

-- what stands on the side
abbrev pub on : Side → ℕ × ℕ → ℕ
on Left e = e.0
on Right e = e.1

-- the flag tells whether the code shows a canonical diagram below the vtree node
abbrev pub TellsBelow : Table → ℕ → ℕ → Bool → Type 0
TellsBelow t child c true = IsBelow t child c
TellsBelow t child c false = ¬ IsBelow t child c

-- some code of the list on the side shows none below the vtree node
abbrev pub HasOneBeside : Table → ℕ → Side → List (ℕ × ℕ) → Type 0
HasOneBeside t child side [] = ⊥
HasOneBeside t child side (e ∷ es) = (¬ IsBelow t child (on side e)) ⊎ HasOneBeside t child side es

-- the flag tells whether each code of the list on the side shows one
abbrev pub TellsAllBelow : Table → ℕ → Side → List (ℕ × ℕ) → Bool → Type 0
TellsAllBelow t child side list true = AllByRecursion (λ (e : ℕ × ℕ). IsBelow t child (on side e)) list
TellsAllBelow t child side list false = HasOneBeside t child side list

-- the rotation that divides the nodes of this side
abbrev pub rotation_of : Side → Move
rotation_of Left = RotateRight
rotation_of Right = RotateLeft

-- that rotation led from the vtree t to u
abbrev pub AreRotatedOn : Side → Numbered → Numbered → ℕ → ℕ → Type 0
AreRotatedOn Left t u x w = AreRotated t u x w
AreRotatedOn Right t u x w = AreRotated u t x w

-- A function looks at variables of both children of the vtree node.
pub record IsTwoSidedAt (u : Numbered) (x : ℕ) (f : List Bool → Bool) : Type 0 where
  pub left : Numbered
  pub right : Numbered
  pub at : subtree u x ≡ Some (NumberedNode x left right)
  pub two_sided : IsTwoSided (plain_tree left) (plain_tree right) f

-- A list fits neither of the two nodes of a rotation that was made, and its function looks at both children of the
-- upper one, so the node gets another list there.
pub record IsDivided (u : Numbered) (x w : ℕ) (v : Valuation) (list : List (ℕ × ℕ)) : Type 0 where
  pub two_sided : IsTwoSidedAt u x (pairs_value v list)
  pub upper : ¬ IsPlaced u v x list
  pub lower : ¬ IsPlaced u v w list

-- the answer tells at which of the two nodes the list fits
abbrev pub IsFitOf : Numbered → ℕ → ℕ → Valuation → List (ℕ × ℕ) → Fit → Type 0
IsFitOf u x w v list Upper = IsPlaced u v x list
IsFitOf u x w v list Lower = IsPlaced u v w list
IsFitOf u x w v list Neither = IsDivided u x w v list

-- A detached node of the upper place x, whose list fitted it in the vtree t before the rotation: it is none of the new
-- ones, and its list ascends and names what shows its value.
pub record CanSortNode (m0 m : Table) (t : Numbered) (x : ℕ) (h : Progress) (v : Valuation) (n : ℕ) : Type 0 where
  pub list : List (ℕ × ℕ)
  pub was : get m.detached n ≡ Some (x, list)
  pub old : ¬ IsNew m0 h n
  pub placed : IsPlaced t v x list
  pub ascending : IsAscending list
  pub codes : AllByRecursion (λ (e : ℕ × ℕ). ShowsValue m.vtree (get m.linked) v e.0
      × ShowsValue m.vtree (get m.linked) v e.1) list

-- The vtree was rotated at x from t, and these nodes of x can be sorted.
pub record CanSort (m0 m : Table) (t : Numbered) (side : Side) (x w : ℕ) (h : Progress) (v : Valuation)
    (numbers : List ℕ) : Type 0 where
  pub going : MoveInProgress m0 m x h v
  pub former : IsNumbered t
  pub rotated : AreRotatedOn side t m.vtree x w
  pub early : h.has_rewritten ≡ true → h.goes_back ≡ false → ⊥
  pub once : HasNoCopies numbers
  pub each : AllByRecursion (CanSortNode m0 m t x h v) numbers

-- some move is so
abbrev pub MaySort : Table → Side → ℕ → ℕ → List ℕ → Type 0
MaySort m side x w numbers =
    (m0 : Table) × (t : Numbered) × (h : Progress) × (v : Valuation) × CanSort m0 m t side x w h v numbers

-- the answer tells where the list of a node fits that can be sorted
abbrev pub TellsFit : Table → Side → ℕ → ℕ → ℕ → Fit → Type 0
TellsFit m side x w n fit =
    (m0 : Table) (t : Numbered) (h : Progress) (v : Valuation) → CanSort m0 m t side x w h v (n ∷ []) →
    (k : ℕ × List (ℕ × ℕ)) → get m.detached n ≡ Some k → IsFitOf m.vtree x w v k.1 fit

-- the node of a number is linked at the place with its list
abbrev pub IsLinkedUnder : Table → Table → ℕ → ℕ → Type 0
IsLinkedUnder old new place n =
    (k : ℕ × List (ℕ × ℕ)) × (get old.detached n ≡ Some k) × (new ≡ linked_under old n (place, k.1))

-- a detached node was linked at the place with its list
pub record WasLinked (old new : Table) (place n : ℕ) : Type 0 where
  pub key : ℕ × List (ℕ × ℕ)
  pub was : get old.detached n ≡ Some key
  pub is : get new.linked n ≡ Some (place, key.1)
  pub gone : get new.detached n ≡ None

-- a detached node stays as it was
pub record StaysDetached (old new : Table) (n : ℕ) : Type 0 where
  pub key : ℕ × List (ℕ × ℕ)
  pub was : get old.detached n ≡ Some key
  pub is : get new.detached n ≡ Some key
  pub linked : get new.linked n ≡ get old.linked n

-- the entry of a node that stood at the place and keeps its list
abbrev pub place_entry : ℕ → ℕ → Named
place_entry place n = record { number = n; place = place; run = None }

-- what was done with a node by where its list fits
abbrev pub IsSortedBy : Fit → Table → Table → ℕ → ℕ → ℕ → List Named → List Named → List ℕ → List ℕ → Type 0
IsSortedBy Lower old new x w n entries entries_after waiting waiting_after =
    IsLinkedUnder old new w n × (entries_after ≡ entries ++ place_entry x n ∷ []) × (waiting_after ≡ waiting)
IsSortedBy Upper old new x w n entries entries_after waiting waiting_after =
    IsLinkedUnder old new x n × (entries_after ≡ entries) × (waiting_after ≡ waiting)
IsSortedBy Neither old new x w n entries entries_after waiting waiting_after =
    (new ≡ old) × (entries_after ≡ entries) × (waiting_after ≡ waiting ++ n ∷ [])

-- One node was sorted: where its list fits the lower node it is linked there and entered; where it fits the upper one
-- it is linked there again; else its number is added to those that wait.
pub record IsSorted (old new : Table) (side : Side) (x w n : ℕ) (entries entries_after : List Named)
    (waiting waiting_after : List ℕ) : Type 0 where
  pub fit : Fit
  pub tells : TellsFit old side x w n fit
  pub by : IsSortedBy fit old new x w n entries entries_after waiting waiting_after

-- The nodes of these numbers, which were detached at the upper node x of a rotation, were sorted: those of `moved` are
-- linked at the lower node w, those of `kept` at x again, each with its list; the ones that wait fit neither, and those
-- that are left were not looked at. Nothing else changed.
pub record AreSorted (old new : Table) (side : Side) (x w : ℕ) (numbers moved kept waiting left : List ℕ) : Type 0 where
  pub parts : IsPermutation numbers (moved ++ (kept ++ (waiting ++ left)))
  pub same : new ≡ record old { linked = new.linked; detached = new.detached }
  pub lower : (n : ℕ) → IsMember n moved → WasLinked old new w n
  pub upper : (n : ℕ) → IsMember n kept → WasLinked old new x n
  pub waits : (n : ℕ) → IsMember n waiting → StaysDetached old new n
  pub stays : (n : ℕ) → IsMember n left → StaysDetached old new n
  pub others : (n : ℕ) → ¬ IsMember n numbers →
      (get new.linked n ≡ get old.linked n) × (get new.detached n ≡ get old.detached n)
  -- the node of each number that waits has a list that fits neither of the two nodes
  pub divided : (m0 : Table) (t : Numbered) (h : Progress) (v : Valuation) →
      CanSort m0 old t side x w h v numbers → (n : ℕ) → IsMember n waiting → (k : ℕ × List (ℕ × ℕ)) →
      get old.detached n ≡ Some k → IsDivided old.vtree x w v k.1

-- The nodes were sorted as far as those that are left; an entry was added for each that changed its place, and the
-- numbers of those that wait.
pub record HasSorted (old new : Table) (side : Side) (x w : ℕ) (numbers left : List ℕ)
    (entries entries_after : List Named) (waiting waiting_after : List ℕ) : Type 0 where
  pub moved : List ℕ
  pub kept : List ℕ
  pub waits : List ℕ
  pub sorted : AreSorted old new side x w numbers moved kept waits left
  pub entered : entries_after ≡ entries ++ map (place_entry x) moved
  pub listed : waiting_after ≡ waiting ++ waits

-- A rotation of a table, in which no move was going on, began: the nodes of both places were detached.
pub record CanRotate (old m : Table) (side : Side) (x w : ℕ) (upper lower : List ℕ) (u : Numbered) : Type 0 where
  pub first : IsTable old
  pub no_move : old.moving ≡ None
  pub detached : HasDetachedBoth old m x w upper lower
  pub below : lower_of (rotation_of side) m.vtree x ≡ Some w
  pub turned : moved_number (rotation_of side) m.vtree x ≡ Some u

-- some table began so
abbrev pub MayRotate : Table → Side → ℕ → ℕ → List ℕ → List ℕ → Type 0
MayRotate m side x w upper lower = (old : Table) × (u : Numbered) × CanRotate old m side x w upper lower u

-- The vtree was rotated, the nodes of the lower place were linked at x, and those of the upper place were sorted as far
-- as those that are left.
pub record HasRotated (m new : Table) (side : Side) (x w : ℕ) (upper lower left : List ℕ)
    (entries entries_after : List Named) (waiting waiting_after : List ℕ) : Type 0 where
  pub u : Numbered
  pub turned : moved_number (rotation_of side) m.vtree x ≡ Some u
  pub between : Table
  pub linked : AreLinkedAt (with_vtree m u) between x lower
  pub table : IsTable between
  -- between the two steps the upper nodes could be sorted
  pub can_sort : (old : Table) (tree : Numbered) → CanRotate old m side x w upper lower tree →
      CanSort old between m.vtree side x w no_progress (value_of (get old.linked)) upper
  pub sorted : HasSorted between new side x w upper left entries entries_after waiting waiting_after

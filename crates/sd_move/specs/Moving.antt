-- A move on its way, for the contracts of private functions: what it has done so far, and what holds between its steps.
use Rattle.std.specs.Prelude.{◌≡◌, ◌≢◌, ◌⊎◌, ℕ, ◌+◌, Bool, true, false, List, [], Some, None}
use Rattle.std.specs.List.{AllByRecursion}
use Rattle.std.specs.Option.{IsSome}
use Rattle.std.specs.Ordering.{nat_cmp}
use Rattle.std.specs.FinMap.{FinMap, empty, get}
use Rattle.sd_vtree.specs.Numbered.{IsUnder}
use Rattle.sd_runs.specs.Arena.{IsMember}
use Rattle.sd_laws.specs.Values.{Valuation, IsSame, pairs_value, IsWhole, IsPlaced, GivesLiterals, ShowsValue, AreApart}
use Rattle.sd_laws.proofs.Evaluated.{value_of}
use Rattle.sd_manager.specs.Table.{Table, key_at}
use Rattle.sd_manager.specs.Valid.{IsSettled}

-- What a move has done so far: the numbers that it discarded, the last new list of each number that it rewrote and has
-- not put back, whether it rewrote a node, and whether it is on its way back.
pub record Progress : Type 0 where
  pub discarded : List ℕ
  pub rewritten : FinMap nat_cmp (List (ℕ × ℕ))
  pub has_rewritten : Bool
  pub goes_back : Bool

-- nothing was done yet
abbrev pub no_progress : Progress
no_progress = record { discarded = []; rewritten = empty; has_rewritten = false; goes_back = false }

-- the number is that of a node of the table, linked or detached
abbrev pub HasNumber : Table → ℕ → Type 0
HasNumber t n = IsSome (key_at t n)

-- the code is of a detached node
abbrev pub IsDetachedCode : Table → ℕ → Type 0
IsDetachedCode t c = (n : ℕ) × (c ≡ 2050 + n) × IsSome (get t.detached n)

-- the place is strictly below the node
abbrev pub IsBelowNode : Table → ℕ → ℕ → Type 0
IsBelowNode t x place = (place ≢ x) × IsUnder t.vtree place x

-- The number is none of a node of m0, or was discarded: where it is one of a node, that node is new.
abbrev pub IsNew : Table → Progress → ℕ → Type 0
IsNew m0 h n = (get m0.linked n ≡ None) ⊎ IsMember n h.discarded

-- ---- what holds of the nodes of m0

-- v gives each of them the function that it showed there; a number that was discarded may be another node's
abbrev pub GivesFirst : Table → Progress → Valuation → Type 0
GivesFirst m0 h v =
    (n : ℕ) → IsSome (get m0.linked n) → ¬ IsMember n h.discarded → ShowsValue m0.vtree (get m0.linked) v (2050 + n)

-- each of them that was not discarded is linked or detached
abbrev pub KeepsFirst : Table → Table → Progress → Type 0
KeepsFirst m0 m h = (n : ℕ) → IsSome (get m0.linked n) → ¬ IsMember n h.discarded → HasNumber m n

-- each has its list of m0, or the one that it was given last and that was not put back
abbrev pub HaveLists : Table → Table → Progress → Type 0
HaveLists m0 m h =
    (n u p : ℕ) (list old : List (ℕ × ℕ)) → key_at m n ≡ Some (u, list) → get m0.linked n ≡ Some (p, old) →
    ¬ IsMember n h.discarded → ((get h.rewritten n ≡ None) × (list ≡ old)) ⊎ (get h.rewritten n ≡ Some list)

-- ---- what holds of all nodes

-- each node has the function of its list
abbrev pub GivesValues : Table → Valuation → Type 0
GivesValues m v =
    (n u : ℕ) (list : List (ℕ × ℕ)) → key_at m n ≡ Some (u, list) → IsSame (v (2050 + n)) (pairs_value v list)

-- the values of each list make a compressed and trimmed partition
abbrev pub AreWhole : Table → Valuation → Type 0
AreWhole m v = (n u : ℕ) (list : List (ℕ × ℕ)) → key_at m n ≡ Some (u, list) → IsWhole v list

-- the list of each linked node fits its place in the present vtree
abbrev pub FitPlaces : Table → Valuation → Type 0
FitPlaces m v = (n u : ℕ) (list : List (ℕ × ℕ)) → get m.linked n ≡ Some (u, list) → IsPlaced m.vtree v u list

-- each linked node that is not above the node of the move shows a canonical diagram of its function
abbrev pub ShowSettled : Table → Valuation → Type 0
ShowSettled m v =
    (n u : ℕ) (list : List (ℕ × ℕ)) → get m.linked n ≡ Some (u, list) → IsSettled m u →
    ShowsValue m.vtree (get m.linked) v (2050 + n)

-- each that is above it is as it was
abbrev pub StayAbove : Table → Table → Type 0
StayAbove m0 m =
    (n u : ℕ) (list : List (ℕ × ℕ)) → get m.linked n ≡ Some (u, list) → ¬ IsSettled m u →
    get m0.linked n ≡ Some (u, list)

-- ---- what holds of detached and of new nodes

-- from the first rewriting until the way back no detached node stands in the list of another
abbrev pub AreFree : Table → Progress → Type 0
AreFree m h =
    h.has_rewritten ≡ true → h.goes_back ≡ false → (n u : ℕ) (list : List (ℕ × ℕ)) →
    get m.detached n ≡ Some (u, list) →
    AllByRecursion (λ (e : ℕ × ℕ). (¬ IsDetachedCode m e.0) × (¬ IsDetachedCode m e.1)) list

-- a new node stands below x
abbrev pub StandNewBelow : Table → Table → ℕ → Progress → Type 0
StandNewBelow m0 m x h =
    (n u : ℕ) (list : List (ℕ × ℕ)) → key_at m n ≡ Some (u, list) → IsNew m0 h n → IsBelowNode m x u

-- and is linked, but on the way back, where it may be discarded
abbrev pub AreNewLinked : Table → Table → Progress → Type 0
AreNewLinked m0 m h = h.goes_back ≡ false → (n : ℕ) → IsSome (get m.detached n) → ¬ IsNew m0 h n

-- A move at x is on its way from the table m0 to m, and v gives each node its function. No two nodes, old or new, are
-- one function, and the roots are as they were.
pub record MoveInProgress (m0 m : Table) (x : ℕ) (h : Progress) (v : Valuation) : Type 0 where
  pub literals : GivesLiterals v
  pub moving : m.moving ≡ Some x
  pub began : GivesFirst m0 h v
  pub kept : KeepsFirst m0 m h
  pub value : GivesValues m v
  pub whole : AreWhole m v
  pub placed : FitPlaces m v
  pub settled : ShowSettled m v
  pub above : StayAbove m0 m
  pub lists : HaveLists m0 m h
  pub free : AreFree m h
  pub new_below : StandNewBelow m0 m x h
  pub new_linked : AreNewLinked m0 m h
  pub apart : AreApart (key_at m) v
  pub roots : m.roots ≡ m0.roots

-- A move at x is on its way under the valuation of the table at which it began, and has rewritten and discarded
-- nothing.
abbrev pub HasBegun : Table → Table → ℕ → Type 0
HasBegun m0 m x = MoveInProgress m0 m x no_progress (value_of (get m0.linked))

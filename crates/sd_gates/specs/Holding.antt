-- Roots that are held for a while beside those that were there, and nodes of gates that are dropped.
use Rattle.std.specs.Prelude.{◌≡◌, ◌≢◌, ℕ, ◌<◌, List, [], ◌∷◌, ◌++◌, length, Option, Some, None, slice_index_or}
use Rattle.std.specs.Option.{IsSome}
use Rattle.std.specs.Ordering.{nat_cmp}
use Rattle.std.specs.FinMap.{FinMap, get}
use Rattle.sd_manager.specs.Table.{Table}
use Rattle.sd_manager.specs.Making.{with_root}

-- The later map has these roots more, which are different ones and were not there before.
pub record AddsRoots (before after : FinMap nat_cmp ℕ) (added : List ℕ) : Type 0 where
  pub fresh : (i : ℕ) → i < length added → get before (slice_index_or added i 0) ≡ None
  pub held : (i : ℕ) → i < length added → IsSome (get after (slice_index_or added i 0))
  pub apart : (i j : ℕ) → i < j → j < length added → slice_index_or added i 0 ≢ slice_index_or added j 0
  pub kept : (root : ℕ) → ((i : ℕ) → i < length added → slice_index_or added i 0 ≢ root)
      → get after root ≡ get before root

-- the manager with these roots more: nothing but the roots changed
pub record HoldsMore (old new : Table) (added : List ℕ) : Type 0 where
  pub rest : new ≡ record old { roots = new.roots }
  pub adds : AddsRoots old.roots new.roots added

-- a new root holds the node, and stands behind those that were added before
pub record HoldsOneMore (old new : Table) (before after : List ℕ) (node : ℕ) : Type 0 where
  pub root : ℕ
  pub absent : get old.roots root ≡ None
  pub is : new ≡ with_root old root node
  pub added : after ≡ before ++ root ∷ []

-- some root holds the node
abbrev pub IsHeldNode : Table → ℕ → Type 0
IsHeldNode t node = (root : ℕ) × (get t.roots root ≡ Some node)

-- each node of the list before a place is held
abbrev pub AreHeldBelow : Table → List (Option ℕ) → ℕ → Type 0
AreHeldBelow t nodes index =
    (i node : ℕ) → i < index → slice_index_or nodes i None ≡ Some node → IsHeldNode t node

-- each node of the list is held
abbrev pub AreHeldNodes : Table → List (Option ℕ) → Type 0
AreHeldNodes t nodes = (i node : ℕ) → slice_index_or nodes i None ≡ Some node → IsHeldNode t node

-- each entry that is there was there before
abbrev pub DropsEntries : List (Option ℕ) → List (Option ℕ) → Type 0
DropsEntries old new =
    (i node : ℕ) → slice_index_or new i None ≡ Some node → slice_index_or old i None ≡ Some node

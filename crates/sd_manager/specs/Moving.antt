-- What the calls of a move do to a manager, and what they ask.
use Rattle.std.specs.Prelude.{◌≡◌, ◌≢◌, ◌⊎◌, ℕ, ◌+◌, ◌-◌, ◌<◌, List, map, length, Some, None}
use Rattle.std.specs.Prelude.{Bool, nat_lt, if◌then◌else◌}
use Rattle.std.specs.Ordering.{nat_cmp}
use Rattle.std.specs.List.Sorted.{IsPermutation, IsStrictlySortedBy}
use Rattle.std.specs.FinMap.{get, insert, remove}
use Rattle.sd_model.specs.declared.trees.Move.{Move}
use Rattle.sd_model.specs.Tree.{AreDistinct}
use Rattle.sd_model.specs.Diagram.{Diagram, meaning}
use Rattle.sd_vtree.specs.Numbered.{Numbered}
use Rattle.sd_laws.specs.Trimming.{trim_of}
use Rattle.sd_laws.specs.Turned.{lower_of}
use Rattle.sd_laws.specs.Values.{StandsIn}
use Rattle.sd_unique.specs.Inserting.{with_count, extent_after}
use Rattle.sd_manager.specs.Table.{Table, free_count}
use Rattle.sd_manager.specs.Shown.{ShowsCanonical, IsPartitionAt}
use Rattle.sd_manager.specs.Valid.{IsSettled}

-- the epoch after this one; the last one stays
abbrev pub next_epoch : ℕ → ℕ
next_epoch e = if nat_lt e 18446744073709551615 then e + 1 else e

-- the epoch rose, or it is the last one, at which no answer of the cache is used
abbrev pub IsLater : Table → Table → Type 0
IsLater old new = (old.epoch < new.epoch) ⊎ (new.epoch ≡ 18446744073709551615)

-- The list may stand at the place: its pairs are a partition of it, no two subs are one node, and it is not trimmed.
pub record FitsNode (t : Table) (place : ℕ) (list : List (ℕ × ℕ)) : Type 0 where
  pub diagrams : List (Diagram × Diagram)
  pub partition : IsPartitionAt t place list diagrams
  pub differ : AreDistinct (map (λ (e : ℕ × ℕ). e.1) list)
  pub untrimmed : trim_of list ≡ None

-- the codes of the primes ascend strictly
abbrev pub IsAscending : List (ℕ × ℕ) → Type 0
IsAscending list = IsStrictlySortedBy nat_cmp (map (λ (e : ℕ × ℕ). e.0) list)

-- no linked node has this key
abbrev pub IsAbsent : Table → ℕ → List (ℕ × ℕ) → Type 0
IsAbsent t place list = (n : ℕ) → get t.linked n ≢ Some (place, list)

-- no linked node that is not above the place of the move has this one in its list
abbrev pub IsTop : Table → ℕ → Type 0
IsTop t n =
    (m : ℕ) (k : ℕ × List (ℕ × ℕ)) → get t.linked m ≡ Some k → IsSettled t k.0 → ¬ StandsIn (2050 + n) k.1

-- no linked node stands at the nodes that the move turns
abbrev pub IsCleared : Table → Move → ℕ → Type 0
IsCleared t kind x =
    (n : ℕ) (k : ℕ × List (ℕ × ℕ)) → get t.linked n ≡ Some k → (k.0 ≢ x) × (Some k.0 ≢ lower_of kind t.vtree x)

-- the table with a move that is going on at this node
abbrev pub moving_at : Table → ℕ → Table
moving_at t x = record t { moving = Some x }

-- the table with no move going on
abbrev pub at_rest : Table → Table
at_rest t = record t { moving = None }

-- the table with another vtree, at the next epoch
abbrev pub with_vtree : Table → Numbered → Table
with_vtree t vtree = record t { vtree = vtree; epoch = next_epoch t.epoch }

-- the table with a linked node made a detached one
abbrev pub detached_from : Table → ℕ → ℕ × List (ℕ × ℕ) → Table
detached_from t n key = record t { linked = remove t.linked n; detached = insert t.detached n key }

-- the table with a detached node linked under a key
abbrev pub linked_under : Table → ℕ → ℕ × List (ℕ × ℕ) → Table
linked_under t n key = record t { linked = insert t.linked n key; detached = remove t.detached n }

-- the table with one more free run of this length
abbrev pub with_free : Table → ℕ → Table
with_free t n = record t { free = with_count t.free n (free_count t n + 1) }

-- A detached node was linked at its place with the elements by ascending codes; its old run is a loose one, and there
-- was room for the new one.
pub record IsRewritten (old new : Table) (n : ℕ) (elements : List (ℕ × ℕ)) (start count : ℕ) : Type 0 where
  pub place : ℕ
  pub former : List (ℕ × ℕ)
  pub list : List (ℕ × ℕ)
  pub was : get old.detached n ≡ Some (place, former)
  pub fresh : get old.loose start ≡ None
  pub counted : count ≡ length former
  pub order : IsPermutation elements list
  pub ascending : IsAscending list
  pub is : new ≡ record (linked_under old n (place, list)) {
    loose = insert old.loose start former;
    free = with_count old.free (length list) (free_count old (length list) - 1);
    extent = extent_after (free_count old (length list)) old.extent (length list);
  }

-- A detached node was linked at the place with the list of a loose run, which is loose no more; the run that it had is
-- free.
pub record IsPutBack (old new : Table) (n place start : ℕ) : Type 0 where
  pub before : ℕ
  pub former : List (ℕ × ℕ)
  pub list : List (ℕ × ℕ)
  pub was : get old.detached n ≡ Some (before, former)
  pub run : get old.loose start ≡ Some list
  pub is : new ≡ record (with_free (linked_under old n (place, list)) (length former)) {
    loose = remove old.loose start;
  }

-- a detached node was removed, and its run is free
pub record IsDiscarded (old new : Table) (n : ℕ) : Type 0 where
  pub place : ℕ
  pub list : List (ℕ × ℕ)
  pub was : get old.detached n ≡ Some (place, list)
  pub is : new ≡ record (with_free old (length list)) {
    detached = remove old.detached n;
    marks = remove old.marks n;
  }

-- a loose run was given back
pub record IsGivenBack (old new : Table) (start count : ℕ) : Type 0 where
  pub list : List (ℕ × ℕ)
  pub was : get old.loose start ≡ Some list
  pub counted : length list ≡ count
  pub is : new ≡ record (with_free old count) { loose = remove old.loose start }

-- each node that is not above the place of the move shows a diagram of the value that it showed
abbrev pub KeepsMeanings : Table → Table → Type 0
KeepsMeanings old new = (n : ℕ) (k : ℕ × List (ℕ × ℕ)) (d : Diagram) → get old.linked n ≡ Some k →
    IsSettled new k.0 → ShowsCanonical old (2050 + n) d →
    (e : Diagram) × ShowsCanonical new (2050 + n) e × ((a : List Bool) → meaning e a ≡ meaning d a)

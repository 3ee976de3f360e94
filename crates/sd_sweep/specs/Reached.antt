-- The nodes under the held roots and the loose runs, what a sweep leaves, and the size of all held diagrams.
use Rattle.std.specs.Prelude.{◌≡◌, ◌⊎◌, ℕ, ◌+◌, List, Some}
use Rattle.std.specs.List.{AllZip}
use Rattle.std.specs.Option.{IsSome}
use Rattle.std.specs.FinMap.{get, values}
use Rattle.sd_model.specs.Diagram.{Diagram}
use Rattle.sd_laws.specs.Shown.{Lookup}
use Rattle.sd_laws.specs.Values.{StandsIn}
use Rattle.sd_manager.specs.Table.{Table}
use Rattle.sd_manager.specs.Shown.{ShowsCanonical}
use Rattle.sd_manager.specs.Moving.{IsLater}

-- Among nodes with these keys, n is one of the first ones, or it stands in the list of one that is reached.
pub data IsReachedFrom (first : ℕ → Type 0) (at : Lookup) : ℕ → Type 0 where
  reached_first : {n : ℕ} → first n → IsReachedFrom first at n
  reached_below : {m n place : ℕ} {list : List (ℕ × ℕ)} → IsReachedFrom first at m → at m ≡ Some (place, list) →
      StandsIn (2050 + n) list → IsReachedFrom first at n

-- a root holds the node
abbrev pub IsHeldBy : Table → ℕ → Type 0
IsHeldBy t n = (root : ℕ) × (get t.roots root ≡ Some (2050 + n))

-- the node stands in a loose run
abbrev pub IsInRun : Table → ℕ → Type 0
IsInRun t n = (start : ℕ) × (list : List (ℕ × ℕ)) × (get t.loose start ≡ Some list) × StandsIn (2050 + n) list

-- the node is under a held root
abbrev pub IsHeld : Table → ℕ → Type 0
IsHeld t n = IsReachedFrom (IsHeldBy t) (get t.linked) n

-- the node is under a held root or under a loose run, by which a journal keeps it
abbrev pub IsReached : Table → ℕ → Type 0
IsReached t n = IsReachedFrom (λ k. IsHeldBy t k ⊎ IsInRun t k) (get t.linked) n

-- some node is not reached
abbrev pub HasUnreached : Table → Type 0
HasUnreached t = (n : ℕ) × IsSome (get t.linked n) × ¬ IsReached t n

-- Just the nodes that are not reached are gone. Where there are such, the epoch is a later one, and the free runs and
-- the marks of the nodes that are gone changed too. Where there are none, nothing changed.
pub record IsSwept (old new : Table) : Type 0 where
  pub vtree : new.vtree ≡ old.vtree
  pub kept : (n : ℕ) (k : ℕ × List (ℕ × ℕ)) → get old.linked n ≡ Some k → IsReached old n → get new.linked n ≡ Some k
  pub only : (n : ℕ) (k : ℕ × List (ℕ × ℕ)) → get new.linked n ≡ Some k → (get old.linked n ≡ Some k) × IsReached old n
  pub marks : (n : ℕ) → IsSome (get new.linked n) → get new.marks n ≡ get old.marks n
  pub detached : new.detached ≡ old.detached
  pub loose : new.loose ≡ old.loose
  pub roots : new.roots ≡ old.roots
  pub bound : new.bound ≡ old.bound
  pub moving : new.moving ≡ old.moving
  pub records : new.records ≡ old.records
  pub extent : new.extent ≡ old.extent
  pub changed : (new ≡ old) ⊎ (IsLater old new × HasUnreached old)

-- ds is the list of the diagrams that the roots show
abbrev pub AreHeldDiagrams : Table → List Diagram → Type 0
AreHeldDiagrams t ds = AllZip (ShowsCanonical t) (values t.roots) ds

-- Each node that is reached stays with its key, under one vtree, the same roots and the same loose runs. A journal that
-- can be undone stays one.
pub record KeepsReached (old new : Table) : Type 0 where
  pub vtree : new.vtree ≡ old.vtree
  pub nodes : (n : ℕ) (k : ℕ × List (ℕ × ℕ)) → IsReached old n → get old.linked n ≡ Some k → get new.linked n ≡ Some k
  pub roots : new.roots ≡ old.roots
  pub loose : new.loose ≡ old.loose

-- Nodes that their marks chain, as a list of their codes, for the contracts of private functions.
use Rattle.std.specs.Prelude.{◌≡◌, ◌⊎◌, ℕ, ◌+◌, ◌-◌, ◌<◌, ◌≤◌, List, [], ◌∷◌, ◌++◌, Some, length, slice_get}
use Rattle.std.specs.List.{sum_by}
use Rattle.std.specs.Option.{IsSome}
use Rattle.std.specs.Ordering.{nat_cmp}
use Rattle.std.specs.FinMap.{FinMap, get}
use Rattle.sd_laws.proofs.Lists.{IsAmong}
use Rattle.sd_model.specs.Tree.{AreDistinct}
use Rattle.sd_model.specs.Diagram.{Diagram, Elements, Decomposition}
use Rattle.sd_model.specs.Size.{walk}
use Rattle.sd_manager.specs.Table.{Table}
use Rattle.sd_manager.specs.Shown.{ShowsCanonical}
use Rattle.sd_manager.specs.Views.{pairs_at}
use Rattle.sd_manager.specs.Marking.{AreUnmarked}

-- the tables differ in marks alone
abbrev pub DifferInMarks : Table → Table → Type 0
DifferInMarks old new = new ≡ record old { marks = new.marks }

-- the numbers of elements of nodes, together; constants and literals have none
abbrev pub elements_of : Table → List ℕ → ℕ
elements_of t codes = sum_by (λ c. length (pairs_at t c)) codes

-- the first code of a list, and where it is empty the 1 that ends a chain
abbrev pub first_code : List ℕ → ℕ
first_code [] = 1
first_code (c ∷ codes) = c

-- the code is the last of the list
abbrev pub IsLast : ℕ → List ℕ → Type 0
IsLast c codes = (front : List ℕ) × (codes ≡ front ++ c ∷ [])

-- the mark of each node in the list is the code of the next one, and 1 at the end
abbrev pub AreLinked : FinMap nat_cmp ℕ → List ℕ → Type 0
AreLinked marks [] = Unit {0}
AreLinked marks (c ∷ codes) =
    (get marks (c - 2050) ≡ Some (first_code codes)) × AreLinked marks codes

-- the code is that of a linked node
abbrev pub IsLinked : Table → ℕ → Type 0
IsLinked t c = (2050 ≤ c) × IsSome (get t.linked (c - 2050))

-- The marks chain these nodes, each once. Every other number has the mark that it had, and nothing else changed.
pub record IsChained (old new : Table) (codes : List ℕ) : Type 0 where
  pub rest : new ≡ record old { marks = new.marks }
  pub once : AreDistinct codes
  pub nodes : (c : ℕ) → IsAmong c codes → IsLinked old c
  pub links : AreLinked new.marks codes
  pub other : (n : ℕ) → (IsAmong (2050 + n) codes → ⊥) → get new.marks n ≡ get old.marks n

-- so many nodes are chained from this one on
pub record HasChain (old new : Table) (first nodes : ℕ) : Type 0 where
  pub codes : List ℕ
  pub chain : IsChained old new codes
  pub starts : first_code codes ≡ first
  pub count : length codes ≡ nodes

-- Behind the listed codes the chain goes on to this last one with codes of which P tells, and it has all nodes of
-- which P tells.
pub record IsLonger (old new : Table) (codes : List ℕ) (last : ℕ) (P : ℕ → Type 0) : Type 0 where
  pub more : List ℕ
  pub chain : IsChained old new (codes ++ more)
  pub ends : IsLast last (codes ++ more)
  pub each : (c : ℕ) → IsAmong c more → P c
  pub all : (c : ℕ) → P c → 2050 ≤ c → IsAmong c (codes ++ more)

-- a chain that ends with the one code goes on to the other one so, seen from each table at which it may have begun
abbrev pub Lengthens : Table → Table → ℕ → ℕ → (ℕ → Type 0) → Type 0
Lengthens old new from to P =
    (first : Table) (codes : List ℕ) → AreUnmarked first → IsChained first old codes →
    IsLast from codes →
    IsLonger first new codes to P

-- the code is the prime or the sub of one of the first pairs
pub record StandsBefore (pairs : List (ℕ × ℕ)) (i c : ℕ) : Type 0 where
  pub index : ℕ
  pub pair : ℕ × ℕ
  pub before : index < i
  pub at : slice_get pairs index ≡ Some pair
  pub is : (c ≡ pair.0) ⊎ (c ≡ pair.1)

-- the prime or the sub of a node of which P tells is one of which P tells, where it is a node
abbrev pub IsClosedUnder : Table → (ℕ → Type 0) → (ℕ → Type 0) → Type 0
IsClosedUnder t P Q =
    (c x : ℕ) → P c → StandsBefore (pairs_at t c) (length (pairs_at t c)) x → 2050 ≤ x → Q x

-- the node shows a decomposition that stands under the diagram of the first one
pub record StandsUnder (t : Table) (first c : ℕ) : Type 0 where
  pub place : ℕ
  pub elements : Elements
  pub is : ShowsCanonical t c (Decomposition place elements)
  pub under : (d : Diagram) → ShowsCanonical t first d →
      IsAmong (Decomposition place elements) (walk d)

-- Just the decompositions under a node are chained, that one first. So many they are, and so many elements they have.
pub record IsChainUnder (old new : Table) (first nodes total : ℕ) : Type 0 where
  pub has : HasChain old new first nodes
  pub under : (c : ℕ) → IsAmong c has.codes → StandsUnder old first c
  pub closed : IsClosedUnder old (λ c. IsAmong c has.codes) (λ c. IsAmong c has.codes)
  pub sum : elements_of old has.codes ≡ total

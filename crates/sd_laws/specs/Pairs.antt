-- Partitions of a vtree node as lists of pairs of a prime and a sub, and the diagram that such a list makes.
use Rattle.std.specs.Prelude.{◌≡◌, ◌≢◌, ℕ, Bool, cond, List, [], ◌∷◌, length}
use Rattle.std.specs.List.{AllByRecursion}
use Rattle.std.specs.Ordering.{is_lt}
use Rattle.sd_model.specs.Tree.{Tree, right_base}
use Rattle.sd_model.specs.Diagram.{Diagram, Bottom, Top, Decomposition, Elements, End, Pair}
use Rattle.sd_model.specs.Diagram.{subs, meaning, diagram_cmp}
use Rattle.sd_model.specs.Canonical.{AreDifferent, IsCanonical}

-- the elements with these primes and subs
abbrev pub from_pairs : List (Diagram × Diagram) → Elements
from_pairs [] = End
from_pairs (d ∷ ds) = Pair d.0 d.1 (from_pairs ds)

-- the primes and subs of these elements
abbrev pub pairs_of : Elements → List (Diagram × Diagram)
pairs_of End = []
pairs_of (Pair p s rest) = (p, s) ∷ pairs_of rest

-- the values of the subs whose primes are true
abbrev pub answers : List Bool → List (Diagram × Diagram) → List Bool
answers a [] = []
answers a (d ∷ ds) = cond (meaning d.0 a) (meaning d.1 a ∷ answers a ds) (answers a ds)

-- Primes that are canonical for the left child and not false, and subs that are canonical for the right child.
pub record AreElements (left right : Tree) (base : ℕ) (ds : List (Diagram × Diagram)) : Type 0 where
  pub primes : AllByRecursion (λ d. IsCanonical left base d.0) ds
  pub subs : AllByRecursion (λ d. IsCanonical right (right_base left base) d.1) ds
  pub possible : AllByRecursion (λ d. d.0 ≢ Bottom) ds

-- under each assignment exactly one prime is true
abbrev pub IsOneTrue : List (Diagram × Diagram) → Type 0
IsOneTrue ds = (a : List Bool) → length (answers a ds) ≡ 1

-- a partition of the node with these children; subs may be equal, and the order is free
pub record IsPartition (left right : Tree) (base : ℕ) (ds : List (Diagram × Diagram)) : Type 0 where
  pub elements : AreElements left right base ds
  pub one_true : IsOneTrue ds

-- no two subs are equal
abbrev pub IsCompressed : List (Diagram × Diagram) → Type 0
IsCompressed ds = AreDifferent (subs (from_pairs ds))

-- the only true prime chooses a sub that has the value f
abbrev pub HasValue : List (Diagram × Diagram) → (List Bool → Bool) → Type 0
HasValue ds f = (a : List Bool) → answers a ds ≡ f a ∷ []

-- an element put before the first that is greater, in the structural order of what they stand for
abbrev pub put : {X : Type 0} → (X → Diagram) → X → List X → List X
put key x [] = x ∷ []
put key x (y ∷ ys) = cond (is_lt (diagram_cmp (key x) (key y))) (x ∷ y ∷ ys) (y ∷ put key x ys)

-- a list in the structural order of what its elements stand for
abbrev pub sort_by : {X : Type 0} → (X → Diagram) → List X → List X
sort_by key [] = []
sort_by key (x ∷ xs) = put key x (sort_by key xs)

-- the pairs in the structural order of their primes
abbrev pub sorted : List (Diagram × Diagram) → List (Diagram × Diagram)
sorted ds = sort_by (λ d. d.0) ds

-- the decomposition at a position with these pairs, in order
abbrev pub decomposed : ℕ → List (Diagram × Diagram) → Diagram
decomposed p ds = Decomposition p (from_pairs (sorted ds))

-- Two pairs with the subs true and false mean the prime of the true one; others are a decomposition.
abbrev pub join_two : ℕ → Diagram × Diagram → Diagram × Diagram → Diagram → Diagram → Diagram
join_two p d e Top Bottom = d.0
join_two p d e Bottom Top = e.0
join_two p d e _ _ = decomposed p (d ∷ e ∷ [])

-- the trimmed diagram of a partition at a position: one pair means its sub
abbrev pub join : ℕ → List (Diagram × Diagram) → Diagram
join p [] = Bottom
join p (d ∷ []) = d.1
join p (d ∷ e ∷ []) = join_two p d e d.1 e.1
join p (d ∷ e ∷ f ∷ ds) = decomposed p (d ∷ e ∷ f ∷ ds)

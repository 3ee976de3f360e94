-- The diagrams that codes show: 0 is false, 1 is true, 2x and 2x + 1 are the literals of x, and 2,050 + n is the
-- decomposition with the number n.
use Rattle.std.specs.Prelude.{◌≡◌, ℕ, ◌+◌, ◌*◌, Bool, true, false, List, [], ◌∷◌, map, Option, Some, slice_get}
use Rattle.std.specs.Ordering.{nat_cmp}
use Rattle.std.specs.List.{AllZip}
use Rattle.std.specs.List.Sorted.{IsPermutation, IsStrictlySortedBy}
use Rattle.sd_model.specs.Tree.{Tree}
use Rattle.sd_model.specs.Diagram.{Diagram, Bottom, Top, Literal, Decomposition, Elements, End, Pair}
use Rattle.sd_model.specs.Diagram.{primes, diagram_cmp}
use Rattle.sd_model.specs.Canonical.{IsCanonical}
use Rattle.sd_vtree.specs.Numbered.{Numbered, numbers, plain_tree}
use Rattle.sd_laws.specs.Pairs.{IsPartition}
use Rattle.sd_laws.specs.Parts.{IsInner, leaf_position}

-- the code of a literal
abbrev pub literal_code : ℕ → Bool → ℕ
literal_code x true = 2 * x
literal_code x false = 2 * x + 1

-- the key of each numbered node: its place, which is the number of a vtree node, and its list of pairs of codes
abbrev pub Lookup : Type 0
Lookup = ℕ → Option (ℕ × List (ℕ × ℕ))

-- The code is that of a numbered node, whose place stands at the position p, and which has these pairs in some order.
pub record HasPairs (t : Numbered) (at : Lookup) (c p : ℕ) (pairs : List (ℕ × ℕ)) : Type 0 where
  pub number : ℕ
  pub place : ℕ
  pub list : List (ℕ × ℕ)
  pub code : c ≡ 2050 + number
  pub stored : at number ≡ Some (place, list)
  pub position : slice_get (numbers t) p ≡ Some place
  pub order : IsPermutation list pairs

abbrev mutual
  -- the code shows the diagram, whose elements are in the structural order
  pub Shows : Numbered → Lookup → ℕ → Diagram → Type 0
  Shows t at c Bottom = c ≡ 0
  Shows t at c Top = c ≡ 1
  Shows t at c (Literal p x positive) =
      (c ≡ literal_code x positive) × (leaf_position (plain_tree t) 0 x ≡ Some p)
  Shows t at c (Decomposition p elements) =
      (pairs : List (ℕ × ℕ)) × HasPairs t at c p pairs × ShowElements t at pairs elements
      × IsStrictlySortedBy diagram_cmp (primes elements)

  -- each pair shows its element
  pub ShowElements : Numbered → Lookup → List (ℕ × ℕ) → Elements → Type 0
  ShowElements t at [] End = Unit {0}
  ShowElements t at [] (Pair p s rest) = ⊥
  ShowElements t at (e ∷ es) End = ⊥
  ShowElements t at (e ∷ es) (Pair p s rest) = Shows t at e.0 p × Shows t at e.1 s × ShowElements t at es rest

-- each pair of codes shows its pair of diagrams
abbrev pub ShowPairs : Numbered → Lookup → List (ℕ × ℕ) → List (Diagram × Diagram) → Type 0
ShowPairs t at = AllZip (λ (e : ℕ × ℕ) (d : Diagram × Diagram). Shows t at e.0 d.0 × Shows t at e.1 d.1)

-- no two nodes have one key, and each list ascends strictly by its primes' codes
pub record AreKeys (at : Lookup) : Type 0 where
  pub distinct : (n m : ℕ) (key : ℕ × List (ℕ × ℕ)) → at n ≡ Some key → at m ≡ Some key → n ≡ m
  pub ascending : (n : ℕ) (key : ℕ × List (ℕ × ℕ)) → at n ≡ Some key →
      IsStrictlySortedBy nat_cmp (map (λ e. e.0) key.1)

-- each node of the one stands in the other, with its key
abbrev pub Keeps : Lookup → Lookup → Type 0
Keeps old new = (n : ℕ) (key : ℕ × List (ℕ × ℕ)) → old n ≡ Some key → new n ≡ Some key

-- the code shows this diagram, which is canonical for the vtree
pub record ShowsCanonical (t : Numbered) (at : Lookup) (c : ℕ) (d : Diagram) : Type 0 where
  pub shows : Shows t at c d
  pub canonical : IsCanonical (plain_tree t) 0 d

-- the pairs of codes show this partition of the node with the number u
pub record IsPartitionAt (t : Numbered) (at : Lookup) (u : ℕ) (pairs : List (ℕ × ℕ))
    (ds : List (Diagram × Diagram)) : Type 0 where
  pub left : Tree
  pub right : Tree
  pub base : ℕ
  pub inner : IsInner t u left right base
  pub shown : ShowPairs t at pairs ds
  pub partition : IsPartition left right base ds

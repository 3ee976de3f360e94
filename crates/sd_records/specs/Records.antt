-- A diagram as a flat list of records: what it shows of itself, and the diagrams to which it unfolds.
use Rattle.std.specs.Prelude.{◌≡◌, ℕ, ◌<◌, Bool, true, false, List, [], ◌∷◌, length, slice_get, Some}
use Rattle.std.specs.List.{AllByRecursion}
use Rattle.std.specs.List.Sorted.{IsPermutation, IsStrictlySortedBy}
use Rattle.sd_model.specs.Tree.{Tree}
use Rattle.sd_model.specs.Diagram.{Diagram, Bottom, Top, Literal, Decomposition, Elements, End, Pair}
use Rattle.sd_model.specs.Diagram.{primes, diagram_cmp, meaning}
use Rattle.sd_model.specs.Canonical.{IsCanonical}
use Rattle.sd_laws.specs.Parts.{leaf_position}
use Rattle.sd_manager.specs.Literals.{literal_of}
use Rattle.sd_records.specs.declared.records.Ref.{Ref}
use Rattle.sd_records.specs.declared.records.Ref.TheVariants as refs

-- an entry: its position, and its pairs of a prime and a sub
abbrev pub Entry : Type 0
Entry = ℕ × List (Ref × Ref)

-- the entries of its decompositions, each behind those below it, and its root
pub record FlatDiagram : Type 0 where
  pub entries : List Entry
  pub root : Ref

-- it is an entry that stands at the position p and has these pairs in some order
pub record HasRefs (entries : List Entry) (r : Ref) (p : ℕ) (pairs : List (Ref × Ref)) : Type 0 where
  pub index : ℕ
  pub list : List (Ref × Ref)
  pub is : r ≡ refs.Entry index
  pub stored : slice_get entries index ≡ Some (p, list)
  pub order : IsPermutation list pairs

abbrev mutual
  -- what is referred to is the diagram, whose elements are in the structural order; in an entry the order is free
  pub Unfolds : Tree → List Entry → Ref → Diagram → Type 0
  Unfolds t entries r Bottom = r ≡ refs.Constant false
  Unfolds t entries r Top = r ≡ refs.Constant true
  Unfolds t entries r (Literal p x positive) =
      (r ≡ refs.Literal (literal_of x positive)) × (leaf_position t 0 x ≡ Some p)
  Unfolds t entries r (Decomposition p elements) =
      (pairs : List (Ref × Ref)) × HasRefs entries r p pairs × UnfoldElements t entries pairs elements
      × IsStrictlySortedBy diagram_cmp (primes elements)

  -- each pair is its element
  pub UnfoldElements : Tree → List Entry → List (Ref × Ref) → Elements → Type 0
  UnfoldElements t entries [] End = Unit {0}
  UnfoldElements t entries [] (Pair p s rest) = ⊥
  UnfoldElements t entries (e ∷ es) End = ⊥
  UnfoldElements t entries (e ∷ es) (Pair p s rest) =
      Unfolds t entries e.0 p × Unfolds t entries e.1 s × UnfoldElements t entries es rest

-- it is this diagram, which is canonical for the vtree
pub record UnfoldsCanonical (t : Tree) (entries : List Entry) (r : Ref) (d : Diagram) : Type 0 where
  pub unfolds : Unfolds t entries r d
  pub canonical : IsCanonical t 0 d

-- it is no entry, or one of the first n
abbrev pub IsBefore : ℕ → Ref → Type 0
IsBefore n (refs.Entry index) = index < n
IsBefore n r = Unit {0}

-- each entry names earlier ones alone, and is some diagram that is canonical for the vtree
pub record AreEntries (t : Tree) (entries : List Entry) : Type 0 where
  pub earlier : (index p : ℕ) (list : List (Ref × Ref)) → slice_get entries index ≡ Some (p, list) →
      AllByRecursion (λ (e : Ref × Ref). IsBefore index e.0 × IsBefore index e.1) list
  pub each : (index : ℕ) → index < length entries → (d : Diagram) × UnfoldsCanonical t entries (refs.Entry index) d

-- the records of canonical diagrams: the root, too, is one
pub record AreRecords (t : Tree) (r : FlatDiagram) : Type 0 where
  pub entries : AreEntries t r.entries
  pub root : (d : Diagram) × UnfoldsCanonical t r.entries r.root d

-- the root is a canonical diagram that has the value f
pub record UnfoldToValue (t : Tree) (r : FlatDiagram) (f : List Bool → Bool) : Type 0 where
  pub diagram : Diagram
  pub is : UnfoldsCanonical t r.entries r.root diagram
  pub value : (a : List Bool) → meaning diagram a ≡ f a

-- What the operations answer.
use Rattle.std.specs.Prelude.{◌≡◌, ℕ, Bool, not, List}
use Rattle.sd_model.specs.declared.trees.Operation.{Operation}
use Rattle.sd_model.specs.Tree.{Tree, Node}
use Rattle.sd_model.specs.Diagram.{Diagram, meaning}
use Rattle.sd_model.specs.Canonical.{IsCanonical}
use Rattle.sd_model.specs.Expression.{combine}
use Rattle.sd_vtree.specs.Numbered.{plain_tree}
use Rattle.sd_laws.specs.Parts.{IsPart, IsInner}
use Rattle.sd_laws.specs.Pairs.{HasValue}
use Rattle.sd_manager.specs.Table.{Table}
use Rattle.sd_manager.specs.Shown.{ShowsCanonical, IsPartitionAt}

-- the code shows a canonical diagram with the value f
pub record HasAnswer (t : Table) (f : List Bool → Bool) (c : ℕ) : Type 0 where
  pub diagram : Diagram
  pub is : ShowsCanonical t c diagram
  pub value : (a : List Bool) → meaning diagram a ≡ f a

-- The code shows a canonical diagram that has the value of the connective at x and y, and that
-- stands below each vtree node below which both x and y stand.
pub record IsCombination (t : Table) (o : Operation) (x y : Diagram) (c : ℕ) : Type 0 where
  pub diagram : Diagram
  pub is : ShowsCanonical t c diagram
  pub value : (a : List Bool) → meaning diagram a ≡ combine o (meaning x a) (meaning y a)
  pub below : (s : Tree) (base : ℕ) → IsPart s base (plain_tree t.vtree) 0 → IsCanonical s base x →
      IsCanonical s base y → IsCanonical s base diagram

-- the answer of a connective at two nodes of the old table
pub record Combines (old new : Table) (o : Operation) (a b c : ℕ) : Type 0 where
  pub each : (x y : Diagram) → ShowsCanonical old a x → ShowsCanonical old b y → IsCombination new o x y c

-- the code shows a canonical diagram that has the opposite value of x, and that stands below each
-- vtree node below which x stands
pub record IsNegation (t : Table) (x : Diagram) (c : ℕ) : Type 0 where
  pub diagram : Diagram
  pub is : ShowsCanonical t c diagram
  pub value : (a : List Bool) → meaning diagram a ≡ not (meaning x a)
  pub below : (s : Tree) (base : ℕ) → IsPart s base (plain_tree t.vtree) 0 → IsCanonical s base x →
      IsCanonical s base diagram

-- the answer of negation at a node of the old table
pub record Negates (old new : Table) (a c : ℕ) : Type 0 where
  pub each : (x : Diagram) → ShowsCanonical old a x → IsNegation new x c

-- The code shows a canonical diagram that has the value of the partition, and that stands below
-- the vtree node.
pub record IsCompression (t : Table) (place : ℕ) (ds : List (Diagram × Diagram)) (c : ℕ) : Type 0
  where
    pub diagram : Diagram
    pub is : ShowsCanonical t c diagram
    pub value : HasValue ds (meaning diagram)
    pub below : (left right : Tree) (base : ℕ) → IsInner t.vtree place left right base →
        IsCanonical (Node left right) base diagram

-- the node of a partition of the old table, whose subs may be equal
pub record Compresses (old new : Table) (place : ℕ) (pairs : List (ℕ × ℕ)) (c : ℕ) : Type 0 where
  pub each : (ds : List (Diagram × Diagram)) → IsPartitionAt old place pairs ds →
      IsCompression new place ds c

-- Lists of pairs at a vtree node, with the values of what they stand for.
use Rattle.std.specs.Prelude.{◌≡◌, ℕ, ◌≤◌, Bool, List, [], ◌∷◌, length}
use Rattle.std.specs.FinMap.{get}
use Rattle.sd_model.specs.declared.trees.Operation.{Operation}
use Rattle.sd_model.specs.Tree.{Tree}
use Rattle.sd_model.specs.Diagram.{Diagram, meaning}
use Rattle.sd_model.specs.Expression.{combine}
use Rattle.sd_vtree.specs.Numbered.{Numbered}
use Rattle.sd_laws.specs.Pairs.{AreElements, HasValue, answers}
use Rattle.sd_laws.specs.Parts.{IsInner}
use Rattle.sd_laws.specs.Shown.{ShowPairs}
use Rattle.sd_manager.specs.Table.{Table}
use Rattle.sd_manager.specs.Shown.{IsPartitionAt}
use Rattle.sd_apply.specs.Places.{IsNodeUnder, HasChildren}
use Rattle.sd_apply.specs.Elements.{products}

-- the vtree node has children
pub record IsInnerNode (t : Numbered) (at : ℕ) : Type 0 where
  pub left : ℕ
  pub right : ℕ
  pub children : HasChildren t at left right

-- The pairs are a partition of the vtree node that has the value f: no prime is false, exactly one is true under each
-- assignment, and its sub has the value that f has there.
pub record IsPartitionOf (t : Table) (place : ℕ) (pairs : List (ℕ × ℕ)) (f : List Bool → Bool) : Type 0
  where
    pub diagrams : List (Diagram × Diagram)
    pub is : IsPartitionAt t place pairs diagrams
    pub value : HasValue diagrams f

-- The pairs are elements of the vtree node: no prime is false, and the subs of those that are true have these values.
-- A partition has one of them under each assignment.
pub record AreElementsOf (t : Table) (place : ℕ) (pairs : List (ℕ × ℕ)) (values : List Bool → List Bool)
    : Type 0 where
  pub diagrams : List (Diagram × Diagram)
  pub left : Tree
  pub right : Tree
  pub base : ℕ
  pub inner : IsInner t.vtree place left right base
  pub shown : ShowPairs t.vtree (get t.linked) pairs diagrams
  pub elements : AreElements left right base diagrams
  pub value : (a : List Bool) → answers a diagrams ≡ values a

-- the pairs are elements of the vtree node, with at most one true prime under each assignment
pub record AreDisjointAt (t : Table) (place : ℕ) (pairs : List (ℕ × ℕ)) : Type 0 where
  pub values : List Bool → List Bool
  pub are : AreElementsOf t place pairs values
  pub most_one : (a : List Bool) → length (values a) ≤ 1

-- the elements at a vtree node of a node that stands at it or below it
pub record ExpandsAt (old new : Table) (place a : ℕ) (r : List (ℕ × ℕ)) : Type 0 where
  pub each : (x : Diagram) → IsNodeUnder old place a x → IsPartitionOf new place r (meaning x)

-- The products of two lists, of which the second is a partition. Where the first one is a partition too, they are one
-- with the value of the connective; and else they have that value wherever a prime of the first list is true.
pub record MultipliesAt (old new : Table) (o : Operation) (place : ℕ) (first second r : List (ℕ × ℕ)) : Type 0
  where
    pub whole : (f g : List Bool → Bool) → IsPartitionOf old place first f → IsPartitionOf old place second g →
        IsPartitionOf new place r (λ a. combine o (f a) (g a))
    pub part : (values : List Bool → List Bool) (g : List Bool → Bool) → AreElementsOf old place first values →
        IsPartitionOf old place second g → AreElementsOf new place r (λ a. products o (values a) (g a ∷ []))

-- a partition with the value of another one
pub record MergesAt (old new : Table) (place : ℕ) (pairs r : List (ℕ × ℕ)) : Type 0 where
  pub each : (f : List Bool → Bool) → IsPartitionOf old place pairs f → IsPartitionOf new place r f

-- What the calls inside an operation answer, for the contracts of private functions.
use Rattle.std.specs.Prelude.{◌≡◌, ℕ, Bool, not, List, [], ◌∷◌, ◌++◌}
use Rattle.std.specs.List.{AllZip}
use Rattle.sd_model.specs.declared.trees.Operation.{Operation}
use Rattle.sd_model.specs.Diagram.{Diagram, meaning}
use Rattle.sd_model.specs.Expression.{combine}
use Rattle.sd_laws.specs.Pairs.{answers}
use Rattle.sd_manager.specs.Table.{Table}
use Rattle.sd_manager.specs.Shown.{ShowsCanonical}
use Rattle.sd_apply.specs.Answers.{HasAnswer}
use Rattle.sd_apply.specs.Places.{IsNodeUnder}
use Rattle.sd_apply.specs.Classes.{IsDisjointUnder}
use Rattle.sd_apply.specs.Elements.{IsPair, ListsElements, IsPartitionUnder, HasList, row, products}

-- what a connective answers at two nodes below v
pub record Applies (old new : Table) (o : Operation) (v a b c : ℕ) : Type 0 where
  pub each : (x y : Diagram) → IsNodeUnder old v a x → IsNodeUnder old v b y →
      HasAnswer new (λ g. combine o (meaning x g) (meaning y g)) c

-- what negation answers at a node below v
pub record NegatesAt (old new : Table) (v a c : ℕ) : Type 0 where
  pub each : (x : Diagram) → IsNodeUnder old v a x → HasAnswer new (λ g. not (meaning x g)) c

-- the second code shows the negation of what the first shows
pub record AreOpposite (t : Table) (a b : ℕ) : Type 0 where
  pub each : (x y : Diagram) → ShowsCanonical t a x → ShowsCanonical t b y → (g : List Bool) →
      meaning y g ≡ not (meaning x g)

-- the pairs are a partition with the value of the node, which is below v
pub record Expands (old new : Table) (v u w a : ℕ) (l : List (ℕ × ℕ)) : Type 0 where
  pub each : (x : Diagram) → IsNodeUnder old v a x → HasList new u w l (λ g. meaning x g ∷ [])

-- the products of two lists
pub record Multiplies (old new : Table) (o : Operation) (u w : ℕ) (l m r : List (ℕ × ℕ)) : Type 0
  where
    pub each : (ds fs : List (Diagram × Diagram)) → ListsElements old u w l ds → IsPartitionUnder old u w m fs →
        HasList new u w r (λ g. products o (answers g ds) (answers g fs))

-- the products of one element with a list, behind those that are there
pub record MultipliesElement (old new : Table) (o : Operation) (u w : ℕ) (e : ℕ × ℕ) (m l r : List (ℕ × ℕ))
    : Type 0 where
  pub each : (d : Diagram × Diagram) (fs gs : List (Diagram × Diagram)) → IsPair old u w e d →
      IsDisjointUnder old u w m fs → ListsElements old u w l gs →
      HasList new u w r (λ g. answers g gs ++ row o (meaning d.0 g) (meaning d.1 g) (answers g fs))

-- the elements of a partition with equal subs joined
pub record Merges (old new : Table) (u w : ℕ) (l r : List (ℕ × ℕ)) : Type 0 where
  pub each : (ds : List (Diagram × Diagram)) → IsPartitionUnder old u w l ds →
      HasList new u w r (λ g. answers g ds)

-- the node of a partition
pub record Joins (old new : Table) (u w : ℕ) (l : List (ℕ × ℕ)) (c : ℕ) : Type 0 where
  pub each : (ds : List (Diagram × Diagram)) → IsPartitionUnder old u w l ds → (f : List Bool → Bool) →
      ((g : List Bool) → answers g ds ≡ f g ∷ []) → HasAnswer new f c

-- the second pair has the prime of the first, and the negation of its sub, which is below w
pub record IsNegated (old new : Table) (w : ℕ) (e f : ℕ × ℕ) : Type 0 where
  pub prime : f.0 ≡ e.0
  pub sub : NegatesAt old new w e.1 f.1

-- the elements with their subs negated
abbrev pub NegatesSubs : Table → Table → ℕ → List (ℕ × ℕ) → List (ℕ × ℕ) → Type 0
NegatesSubs old new w l r = AllZip (IsNegated old new w) l r

-- Cells of a vtree node, and the lists that cut them, for the contracts of private functions.
use Rattle.std.specs.Prelude.{◌≡◌, ℕ, Bool, false, ◌||◌, cond, List, [], ◌∷◌, ◌++◌}
use Rattle.sd_model.specs.declared.trees.Operation.TheVariants.{Or}
use Rattle.sd_model.specs.Diagram.{Diagram, meaning}
use Rattle.sd_laws.specs.Values.{IsSame}
use Rattle.sd_manager.specs.Table.{Table}
use Rattle.sd_apply.specs.Elements.{products}
use Rattle.sd_apply.specs.Partitions.{AreElementsOf, IsPartitionOf}
use Rattle.sd_apply.specs.Places.{IsNodeUnder}

-- the value of g where f is true, and none elsewhere
abbrev pub value_within : (List Bool → Bool) → (List Bool → Bool) → List Bool → List Bool
value_within f g a = cond (f a) (g a ∷ []) []

-- the elements have one true prime where f is true, beside the value of g, and none elsewhere
abbrev pub IsCut : Table → ℕ → List (ℕ × ℕ) → (List Bool → Bool) → (List Bool → Bool) → Type 0
IsCut t place list f g = AreElementsOf t place list (value_within f g)

-- the code is a prime of the vtree node that is true where f is
abbrev pub IsCell : Table → ℕ → ℕ → (List Bool → Bool) → Type 0
IsCell t place code f = IsCut t place ((code, 0) ∷ []) f (λ _. false)

-- the lists are partitions of the vtree node, and g is the disjunction of their values
abbrev pub ArePartitions : Table → ℕ → List (List (ℕ × ℕ)) → (List Bool → Bool) → Type 0
ArePartitions t place [] g = IsSame g (λ _. false)
ArePartitions t place (l ∷ ls) g =
    (f h : List Bool → Bool) × IsPartitionOf t place l f × ArePartitions t place ls h × IsSame (λ a. f a || h a) g

-- the elements of a list, each with its sub joined to a sum, were added behind those before
pub record AddsSums (old new : Table) (place : ℕ) (list : List (ℕ × ℕ)) (sum : ℕ) (before after : List (ℕ × ℕ))
    : Type 0 where
  pub more : List (ℕ × ℕ)
  pub added : after ≡ before ++ more
  pub each : (values : List Bool → List Bool) (d : Diagram) → AreElementsOf old place list values →
      IsNodeUnder old place sum d → AreElementsOf new place more (λ a. products Or (values a) (meaning d a ∷ []))

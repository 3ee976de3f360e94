-- The halves of nodes at a vtree node whose left child is a leaf, for the contracts of private functions.
use Rattle.std.specs.Prelude.{◌≡◌, ℕ, Bool, cond, List, Some}
use Rattle.sd_model.specs.declared.trees.Operation.{Operation}
use Rattle.sd_model.specs.Assignment.{value_in}
use Rattle.sd_model.specs.Diagram.{Diagram, meaning}
use Rattle.sd_model.specs.Expression.{combine}
use Rattle.sd_vtree.specs.Numbered.{Numbered, variable_at}
use Rattle.sd_manager.specs.Table.{Table}
use Rattle.sd_apply.specs.declared.halves.Split.{Split}
use Rattle.sd_apply.specs.declared.halves.BothHalves.{BothHalves}
use Rattle.sd_apply.specs.Answers.{HasAnswer}
use Rattle.sd_apply.specs.Places.{IsNodeUnder, IsBelow, HasChildren}

-- the vtree node has these children, and the left one is the leaf of the variable
pub record IsLeafFork (t : Numbered) (at left right variable : ℕ) : Type 0 where
  pub children : HasChildren t at left right
  pub leaf : variable_at t left ≡ Some variable

-- the same, as the code has it
abbrev pub IsSplit : Numbered → ℕ → Split → Type 0
IsSplit t at s = IsLeafFork t at s.left s.right s.variable

-- the first node has the value f where the variable is true, the second where it is false; both are below w
pub record HasHalves (t : Table) (w variable a b : ℕ) (f : List Bool → Bool) : Type 0 where
  pub first : Diagram
  pub second : Diagram
  pub first_is : IsNodeUnder t w a first
  pub second_is : IsNodeUnder t w b second
  pub value : (g : List Bool) → cond (value_in g variable) (meaning first g) (meaning second g) ≡ f g

-- the halves of a node below v
pub record Halves (t : Table) (v w variable c : ℕ) (halves : ℕ × ℕ) : Type 0 where
  pub each : (x : Diagram) → IsNodeUnder t v c x → HasHalves t w variable halves.0 halves.1 (meaning x)

-- the node of two halves
pub record MakesHalves (old new : Table) (w variable a b c : ℕ) : Type 0 where
  pub each : (f : List Bool → Bool) → HasHalves old w variable a b f → HasAnswer new f c

-- two nodes below such a vtree node, and the halves of each
pub record AreHalvesOf (t : Table) (f : BothHalves) (a b : ℕ) : Type 0 where
  pub split : IsSplit t.vtree f.node f.split
  pub first_below : IsBelow t f.node a
  pub second_below : IsBelow t f.node b
  pub first : Halves t f.node f.split.right f.split.variable a f.first
  pub second : Halves t f.node f.split.right f.split.variable b f.second

-- a connective at the halves of two nodes, for each value of the variable
pub record AppliesHalves (old new : Table) (o : Operation) (w : ℕ) (h k r : ℕ × ℕ) : Type 0 where
  pub each : (variable : ℕ) (f g : List Bool → Bool) → HasHalves old w variable h.0 h.1 f →
      HasHalves old w variable k.0 k.1 g → HasHalves new w variable r.0 r.1 (λ a. combine o (f a) (g a))

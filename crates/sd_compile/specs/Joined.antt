-- Truth values joined by a connective, and the connectives of a formula in groups.
use Rattle.std.specs.Prelude.{◌≡◌, ℕ, ℤ, Bool, true, false, not, if◌then◌else◌, List, [], ◌∷◌, slice_get, Some}
use Rattle.std.specs.List.{AllByRecursion}
use Rattle.sd_model.specs.declared.trees.Operation.{Operation}
use Rattle.sd_model.specs.declared.trees.Operation.TheVariants.{And, Or, Xor}
use Rattle.sd_model.specs.Assignment.{literal_holds}
use Rattle.sd_model.specs.Diagram.{Diagram, meaning}
use Rattle.sd_model.specs.Expression.{Group, combine}
use Rattle.sd_formula.specs.Formulas.{IsLiteral}
use Rattle.sd_formula.specs.declared.formula.Kind.{Kind}
use Rattle.sd_formula.specs.declared.formula.Kind.TheVariants.{Cnf, Dnf}
use Rattle.sd_manager.specs.Table.{Table}
use Rattle.sd_manager.specs.Shown.{ShowsCanonical}
use Rattle.sd_apply.specs.Answers.{HasAnswer}

-- the value of none
abbrev pub neutral : Operation → Bool
neutral And = true
neutral Or = false
neutral Xor = false

-- what joins the groups
abbrev pub outer : Kind → Operation
outer Cnf = And
outer Dnf = Or

-- ---- for the contracts of private functions, and for proofs

-- the values of a list, joined
abbrev pub joined : {X : Type 0} → Operation → (X → Bool) → List X → Bool
joined o p [] = neutral o
joined o p (x ∷ xs) = combine o (p x) (joined o p xs)

-- what joins the literals of a clause or a term, and of an exclusive group
abbrev pub inner : Kind → Bool → Operation
inner Cnf exclusive = if exclusive then Xor else Or
inner Dnf exclusive = And

-- the value of a group
abbrev pub value_of_group : Kind → List Bool → Group → Bool
value_of_group kind assignment group = joined (inner kind group.exclusive) (literal_holds assignment) group.literals

-- the literal of a pair with the position of its leaf
abbrev pub literal_of_place : ℕ × ℤ → ℤ
literal_of_place e = e.1

-- the literals of such pairs are of variables from 1 to v
abbrev pub ArePlaced : ℕ → List (ℕ × ℤ) → Type 0
ArePlaced v placed = AllByRecursion (λ (e : ℕ × ℤ). IsLiteral v (literal_of_place e)) placed

-- a node of the old table, joined with the literals of a clause or a term
pub record JoinsLiterals (old new : Table) (kind : Kind) (a : ℕ) (literals : List ℤ) (c : ℕ) : Type 0 where
  pub each : (x : Diagram) → ShowsCanonical old a x → HasAnswer new (λ assignment. combine (outer kind)
      (meaning x assignment) (joined (inner kind false) (literal_holds assignment) literals)) c

-- one node has the value f, and one the opposite value
pub record HasBothAnswers (t : Table) (f : List Bool → Bool) (a b : ℕ) : Type 0 where
  pub one : HasAnswer t f a
  pub other : HasAnswer t (λ assignment. not (f assignment)) b

-- all literals hold, or none does
pub record HaveValue (literals : List (ℕ × ℤ)) (holds : Bool) (assignment : List Bool) : Type 0 where
  pub each : (i : ℕ) (e : ℕ × ℤ) → slice_get literals i ≡ Some e →
      literal_holds assignment (literal_of_place e) ≡ holds

-- a node is false wherever all literals hold, or wherever none does
abbrev pub IsFalseBeside : Table → ℕ → List (ℕ × ℤ) → Bool → Type 0
IsFalseBeside t c literals holds = (d : Diagram) → ShowsCanonical t c d → (assignment : List Bool) →
    HaveValue literals holds assignment → meaning d assignment ≡ false

-- a node is true only where an odd number of literals hold
abbrev pub ImpliesOdd : Table → ℕ → List ℤ → Type 0
ImpliesOdd t c literals = (d : Diagram) → ShowsCanonical t c d → (assignment : List Bool) →
    meaning d assignment ≡ true → joined Xor (literal_holds assignment) literals ≡ true

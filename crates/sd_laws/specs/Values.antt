-- The values of codes, and lists of pairs of codes whose values make a partition.
use Rattle.std.specs.Prelude.{◌≡◌, ◌⊎◌, ℕ, ◌+◌, ◌*◌, ◌≤◌, ◌<◌, Bool, true, false}
use Rattle.std.specs.Prelude.{◌&&◌, ◌||◌, cond, List, [], ◌∷◌, length, Some}
use Rattle.std.specs.List.{AllByRecursion}
use Rattle.std.specs.Option.{IsSome}
use Rattle.sd_model.specs.Tree.{Tree, leaves}
use Rattle.sd_model.specs.Diagram.{Diagram, Literal, meaning}
use Rattle.sd_vtree.specs.Numbered.{Numbered, NumberedNode, plain_tree, subtree}
use Rattle.sd_laws.specs.Depends.{DependsOn}
use Rattle.sd_laws.specs.Shown.{Lookup, literal_code, ShowsCanonical}

-- a truth function for each code
abbrev pub Valuation : Type 0
Valuation = ℕ → List Bool → Bool

-- two truth functions have one value under every assignment
abbrev pub IsSame : (List Bool → Bool) → (List Bool → Bool) → Type 0
IsSame f g = (a : List Bool) → f a ≡ g a

-- a list of pairs is true where some prime is true with its sub
abbrev pub pairs_value : Valuation → List (ℕ × ℕ) → List Bool → Bool
pairs_value v [] a = false
pairs_value v (e ∷ es) a = (v e.0 a && v e.1 a) || pairs_value v es a

-- the values of the subs whose primes are true
abbrev pub chosen : Valuation → List (ℕ × ℕ) → List Bool → List Bool
chosen v [] a = []
chosen v (e ∷ es) a = cond (v e.0 a) (v e.1 a ∷ chosen v es a) (chosen v es a)

-- the code has this value under some assignment
abbrev pub Takes : Valuation → ℕ → Bool → Type 0
Takes v c b = (a : List Bool) × (v c a ≡ b)

-- no two subs are one function
abbrev pub SubsDiffer : Valuation → List (ℕ × ℕ) → Type 0
SubsDiffer v [] = Unit {0}
SubsDiffer v (e ∷ es) = AllByRecursion (λ (f : ℕ × ℕ). ¬ IsSame (v e.1) (v f.1)) es × SubsDiffer v es

-- some sub takes both truth values
abbrev pub HasInnerSub : Valuation → List (ℕ × ℕ) → Type 0
HasInnerSub v [] = ⊥
HasInnerSub v (e ∷ es) = (Takes v e.1 true × Takes v e.1 false) ⊎ HasInnerSub v es

-- The values of the pairs are those of a compressed and trimmed partition: exactly one prime is true under each
-- assignment, each prime is true under some, no two subs are one function, and some sub is no constant. No vtree occurs
-- here, so that no move of a vtree changes it.
pub record IsWhole (v : Valuation) (list : List (ℕ × ℕ)) : Type 0 where
  pub several : 2 ≤ length list
  pub one_true : (a : List Bool) → length (chosen v list a) ≡ 1
  pub possible : AllByRecursion (λ (e : ℕ × ℕ). Takes v e.0 true) list
  pub differ : SubsDiffer v list
  pub inner : HasInnerSub v list

-- The place is an inner node of the vtree: the primes look at the variables below its left child alone, and the subs at
-- those below its right child. Of all that makes a node canonical, this alone depends on the vtree.
pub record IsPlaced (t : Numbered) (v : Valuation) (place : ℕ) (list : List (ℕ × ℕ)) : Type 0 where
  pub left : Numbered
  pub right : Numbered
  pub at : subtree t place ≡ Some (NumberedNode place left right)
  pub primes : AllByRecursion (λ (e : ℕ × ℕ). DependsOn (plain_tree left) (v e.0)) list
  pub subs : AllByRecursion (λ (e : ℕ × ℕ). DependsOn (plain_tree right) (v e.1)) list

-- the values of constants and literals
pub record GivesLiterals (v : Valuation) : Type 0 where
  pub bottom : IsSame (v 0) (λ _. false)
  pub top : IsSame (v 1) (λ _. true)
  pub literal : (p x : ℕ) (s : Bool) → 1 ≤ x → x ≤ 1024 → IsSame (v (literal_code x s)) (meaning (Literal p x s))

-- the code stands in the list
abbrev pub StandsIn : ℕ → List (ℕ × ℕ) → Type 0
StandsIn c [] = ⊥
StandsIn c (e ∷ es) = (e.0 ≡ c) ⊎ ((e.1 ≡ c) ⊎ StandsIn c es)

-- the code is of a constant, of a literal of the vtree, or of one of the nodes that P names
abbrev pub IsCodeOf : Numbered → Lookup → (ℕ → Type 0) → ℕ → Type 0
IsCodeOf t at P c =
    (c < 2 * leaves (plain_tree t) + 2) ⊎ ((n : ℕ) × (c ≡ 2050 + n) × P n × IsSome (at n))

-- Each node that P names has the value of its list, which is a compressed and trimmed partition of its place, and its
-- list names such nodes alone. This says of a table by values what canonical diagrams say of it.
pub record AreOrderly (t : Numbered) (at : Lookup) (P : ℕ → Type 0) (v : Valuation) : Type 0 where
  pub literals : GivesLiterals v
  pub value : (n u : ℕ) (list : List (ℕ × ℕ)) → P n → at n ≡ Some (u, list) → IsSame (v (2050 + n)) (pairs_value v list)
  pub whole : (n u : ℕ) (list : List (ℕ × ℕ)) → P n → at n ≡ Some (u, list) → IsWhole v list
  pub placed : (n u : ℕ) (list : List (ℕ × ℕ)) → P n → at n ≡ Some (u, list) → IsPlaced t v u list
  pub closed : (n u : ℕ) (list : List (ℕ × ℕ)) → P n → at n ≡ Some (u, list) →
      AllByRecursion (λ (e : ℕ × ℕ). IsCodeOf t at P e.0 × IsCodeOf t at P e.1) list

-- the code shows a canonical diagram that has its value
pub record ShowsValue (t : Numbered) (at : Lookup) (v : Valuation) (c : ℕ) : Type 0 where
  pub diagram : Diagram
  pub is : ShowsCanonical t at c diagram
  pub value : IsSame (meaning diagram) (v c)

-- no two of the nodes are one function
abbrev pub AreApart : Lookup → Valuation → Type 0
AreApart at v = (m n : ℕ) → IsSome (at m) → IsSome (at n) → IsSame (v (2050 + m)) (v (2050 + n)) → m ≡ n

-- the codes of the nodes keep their values
abbrev pub KeepsValues : Lookup → Valuation → Valuation → Type 0
KeepsValues at old new = (n : ℕ) → IsSome (at n) → IsSame (new (2050 + n)) (old (2050 + n))

-- f looks at variables of both trees
pub record IsTwoSided (left right : Tree) (f : List Bool → Bool) : Type 0 where
  pub not_left : ¬ DependsOn left f
  pub not_right : ¬ DependsOn right f

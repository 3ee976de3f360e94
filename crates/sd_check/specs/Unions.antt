-- How many of a list of nodes are true under each assignment, for the contracts of private functions.
use Rattle.std.specs.Prelude.{◌≡◌, ℕ, suc, ◌≤◌, Bool, cond, List, [], ◌∷◌, Option, Some, None}
use Rattle.std.specs.List.{AllByRecursion, AllZip}
use Rattle.sd_model.specs.Diagram.{Diagram, meaning}
use Rattle.sd_manager.specs.Table.{Table}
use Rattle.sd_manager.specs.Shown.{ShowsCanonical, IsNodeOf}
use Rattle.sd_check.specs.declared.rules.Rule.{Rule}
use Rattle.sd_check.specs.declared.rules.Rule.TheVariants.{Overlap, Cover}

-- each code is that of a node
abbrev pub AreNodes : Table → List ℕ → Type 0
AreNodes t codes = AllByRecursion (IsNodeOf t) codes

-- how many diagrams are true
abbrev pub count_true : List Diagram → List Bool → ℕ
count_true [] a = 0
count_true (d ∷ ds) a = cond (meaning d a) (suc (count_true ds a)) (count_true ds a)

-- the codes are of nodes, and this is the number of those that are true, under each assignment
pub record CountsTo (t : Table) (n : List Bool → ℕ) (codes : List ℕ) : Type 0 where
  pub diagrams : List Diagram
  pub shown : AllZip (ShowsCanonical t) codes diagrams
  pub count : (a : List Bool) → count_true diagrams a ≡ n a

-- two are true together, or this node is the only one that counts
abbrev pub TellsUnion : Table → (List Bool → ℕ) → Option ℕ → Type 0
TellsUnion t n None = (a : List Bool) × (2 ≤ n a)
TellsUnion t n (Some c) = CountsTo t n (c ∷ [])

-- which rule primes break of which so many are true: none, where exactly one is true under each assignment
abbrev pub TellsPrimes : (List Bool → ℕ) → Option Rule → Type 0
TellsPrimes n None = (a : List Bool) → n a ≡ 1
TellsPrimes n (Some Overlap) = (a : List Bool) × (2 ≤ n a)
TellsPrimes n (Some Cover) = ((a : List Bool) → n a ≤ 1) × (a : List Bool) × (n a ≡ 0)
TellsPrimes n (Some rule) = ⊥

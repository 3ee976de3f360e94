-- The branches of a node's list, and the primes that they make, for the contracts of private functions.
use Rattle.std.specs.Prelude.{◌≡◌, ◌⊎◌, ℕ, ◌≤◌, ◌<◌, Bool, true, false, ◌&&◌, ◌||◌, cond}
use Rattle.std.specs.Prelude.{List, [], ◌∷◌, ◌++◌, length, map}
use Rattle.std.specs.Prelude.{drop, Some, slice_get}
use Rattle.std.proofs.Common.{get_or}
use Rattle.std.specs.List.{AllByRecursion, AllZip}
use Rattle.std.specs.FinMap.{get}
use Rattle.sd_model.specs.Diagram.{Diagram, meaning}
use Rattle.sd_vtree.specs.Numbered.{Numbered}
use Rattle.sd_laws.specs.Values.{Valuation, IsSame, pairs_value, chosen, IsWhole, Takes}
use Rattle.sd_laws.proofs.Evaluated.{value_of}
use Rattle.sd_manager.specs.Table.{Table}
use Rattle.sd_apply.specs.Partitions.{IsPartitionOf}
use Rattle.sd_apply.specs.Places.{HasChildren, IsNodeUnder, IsBelow}
use Rattle.sd_move.specs.declared.branches.Corner.{Corner}

-- A branch of a list: a sub of one of its subs, the prime of the list that leads to it, and the prime there.
abbrev pub Branch : Type 0
Branch = ℕ × ℕ × ℕ

-- the left child of the upper vtree node is the lower one, which has the children left and middle
pub record IsCorner (t : Numbered) (c : Corner) : Type 0 where
  pub upper : HasChildren t c.upper c.lower c.right
  pub lower : HasChildren t c.lower c.left c.middle

-- the code shows a diagram below the vtree node that has the value f
pub record ShowsBelow (t : Table) (u c : ℕ) (f : List Bool → Bool) : Type 0 where
  pub diagram : Diagram
  pub is : IsNodeUnder t u c diagram
  pub value : IsSame (meaning diagram) f

-- the values of the subs of the branches both of whose primes are true
abbrev pub reached : Valuation → List Branch → List Bool → List Bool
reached v [] a = []
reached v (e ∷ es) a = cond (v e.1 a && v e.2 a) (v e.0 a ∷ reached v es a) (reached v es a)

-- whether both primes of some branch are true
abbrev pub some_branch : Valuation → List Branch → List Bool → Bool
some_branch v [] a = false
some_branch v (e ∷ es) a = (v e.1 a && v e.2 a) || some_branch v es a

-- The list of a node whose primes stand below the left child of the lower vtree node, and whose subs stand below the
-- upper one: a compressed and trimmed partition by its values.
pub record IsOwnList (t : Table) (c : Corner) (own : List (ℕ × ℕ)) : Type 0 where
  pub primes : AllByRecursion (λ (e : ℕ × ℕ). IsBelow t c.left e.0) own
  pub subs : AllByRecursion (λ (e : ℕ × ℕ). IsBelow t c.upper e.1) own
  pub whole : IsWhole (value_of (get t.linked)) own

-- the branch that an element of a sub's list makes with a prime of the node
abbrev pub branch_of : ℕ → ℕ × ℕ → Branch
branch_of prime e = (e.1, prime, e.0)

-- the branches of one element were added behind those before
pub record AddsBranches (old new : Table) (upper : ℕ) (element : ℕ × ℕ) (before after : List Branch) : Type 0 where
  pub list : List (ℕ × ℕ)
  pub added : after ≡ before ++ map (branch_of element.0) list
  pub each : (d : Diagram) → IsNodeUnder old upper element.1 d → IsPartitionOf new upper list (meaning d)

-- what a branch shows
pub record IsBranch (t : Table) (c : Corner) (e : Branch) (d : Diagram × Diagram × Diagram) : Type 0 where
  pub sub : IsNodeUnder t c.right e.0 d.0
  pub prime : IsNodeUnder t c.left e.1 d.1
  pub inner : IsNodeUnder t c.lower e.2 d.2

-- the values of the subs both of whose primes are true
abbrev pub found : List (Diagram × Diagram × Diagram) → List Bool → List Bool
found [] a = []
found (d ∷ ds) a = cond (meaning d.1 a && meaning d.2 a) (meaning d.0 a ∷ found ds a) (found ds a)

-- The branches lead to the subs that the list chooses.
pub record AreBranches (old new : Table) (c : Corner) (own : List (ℕ × ℕ)) (list : List Branch) : Type 0 where
  pub shown : List (Diagram × Diagram × Diagram)
  pub each : AllZip (IsBranch new c) list shown
  pub value : (a : List Bool) → found shown a ≡ chosen (value_of (get old.linked)) own a

-- the second primes of the branches stand below the vtree node
abbrev pub AreInnerBelow : Table → ℕ → List Branch → Type 0
AreInnerBelow t u list = AllByRecursion (λ (e : Branch). IsBelow t u e.2) list

-- The primes of a list and its branches have these values, and under each assignment one prime is true, and one branch
-- leads to a sub.
pub record CanJoin (t : Table) (v : Valuation) (c : Corner) (own : List (ℕ × ℕ)) (branches : List Branch) : Type 0
  where
    pub corner : IsCorner t.vtree c
    pub zero : IsSame (v 0) (λ _. false)
    pub primes : AllByRecursion (λ (e : ℕ × ℕ). ShowsBelow t c.left e.0 (v e.0) × Takes v e.0 true) own
    pub one_true : (a : List Bool) → length (chosen v own a) ≡ 1
    pub each : AllByRecursion (λ (e : Branch). ShowsBelow t c.right e.0 (v e.0) × (ShowsBelow t c.left e.1 (v e.1)
        × ShowsBelow t c.middle e.2 (v e.2))) branches
    pub one_reached : (a : List Bool) → length (reached v branches a) ≡ 1

-- the sub of the branch at an index
abbrev pub sub_at : List Branch → ℕ → ℕ
sub_at branches i = (get_or branches i (0, 0, 0)).0

-- the code is the second prime of one of the branches
abbrev pub IsInnerOf : List Branch → ℕ → Type 0
IsInnerOf branches c = (i : ℕ) × (e : Branch) × (slice_get branches i ≡ Some e) × (c ≡ e.2)

-- Some branches were taken from an index on, all of which lead to one sub. The row has the primes of the list, each
-- beside false or the second prime of a branch, and is true where both primes of a branch are.
pub record IsRow (own : List (ℕ × ℕ)) (branches : List Branch) (from : ℕ) (row : List (ℕ × ℕ)) (next : ℕ) : Type 0
  where
    pub taken : List Branch
    pub parts : drop from branches ≡ taken ++ drop next branches
    pub same : AllByRecursion (λ (e : Branch). e.0 ≡ sub_at branches from) taken
    pub primes : AllZip (λ (e f : ℕ × ℕ). e.0 ≡ f.0) own row
    pub subs : AllByRecursion (λ (e : ℕ × ℕ). (e.1 ≡ 0) ⊎ IsInnerOf branches e.1) row
    pub value : (v : Valuation) → IsSame (v 0) (λ _. false) → IsSame (pairs_value v row) (some_branch v taken)
    pub onward : from ≤ next

-- Some branches were taken from an index on, one at least, all of which lead to one sub. The row is a partition of the
-- lower vtree node, true where both primes of a branch are.
pub record IsGroup (t : Table) (v : Valuation) (c : Corner) (branches : List Branch) (from : ℕ)
    (row : List (ℕ × ℕ)) (next : ℕ) : Type 0 where
  pub taken : List Branch
  pub parts : drop from branches ≡ taken ++ drop next branches
  pub same : AllByRecursion (λ (e : Branch). e.0 ≡ sub_at branches from) taken
  pub partition : IsPartitionOf t c.lower row (some_branch v taken)
  pub onward : from < next

-- the same with the node of the row
pub record IsNextPrime (t : Table) (v : Valuation) (c : Corner) (branches : List Branch) (from code next : ℕ) : Type 0
  where
    pub taken : List Branch
    pub parts : drop from branches ≡ taken ++ drop next branches
    pub same : AllByRecursion (λ (e : Branch). e.0 ≡ sub_at branches from) taken
    pub shows : ShowsBelow t c.lower code (some_branch v taken)
    pub onward : from < next

-- the elements are a partition of the upper vtree node, with each value that the branches lead to
pub record IsJoined (old new : Table) (c : Corner) (branches : List Branch) (list : List (ℕ × ℕ)) : Type 0 where
  pub each : (f : List Bool → Bool) →
      ((a : List Bool) → reached (value_of (get old.linked)) branches a ≡ f a ∷ []) → IsPartitionOf new c.upper list f

-- the upper vtree node is this one, and the list can be parted into branches
pub record IsCornerOf (t : Table) (place : ℕ) (list : List (ℕ × ℕ)) (c : Corner) : Type 0 where
  pub upper : c.upper ≡ place
  pub corner : IsCorner t.vtree c
  pub own : IsOwnList t c list

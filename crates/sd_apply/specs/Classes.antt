-- Elements with one sub apart from the others, and what is made of their primes, for the contracts of private
-- functions.
use Rattle.std.specs.Prelude.{◌≡◌, ◌⊎◌, ℕ, ◌≤◌, ◌<◌, Bool, true, false, List, [], ◌∷◌, length}
use Rattle.std.proofs.Common.{get_or}
use Rattle.std.specs.List.{AllByRecursion}
use Rattle.sd_model.specs.Diagram.{Diagram, meaning}
use Rattle.sd_laws.specs.Pairs.{answers}
use Rattle.sd_manager.specs.Table.{Table}
use Rattle.sd_apply.specs.Places.{IsNodeUnder}
use Rattle.sd_apply.specs.Elements.{ListsElements, HasList}

-- the pairs are elements, with at most one true prime under each assignment
pub record IsDisjointUnder (t : Table) (u w : ℕ) (l : List (ℕ × ℕ)) (ds : List (Diagram × Diagram)) : Type
    0 where
  pub lists : ListsElements t u w l ds
  pub most_one : (a : List Bool) → length (answers a ds) ≤ 1

-- the pairs are such elements
pub record AreDisjointBelow (t : Table) (u w : ℕ) (l : List (ℕ × ℕ)) : Type 0 where
  pub shown : List (Diagram × Diagram)
  pub is : IsDisjointUnder t u w l shown

-- such elements with equal subs joined
pub record MergesDisjoint (old new : Table) (u w : ℕ) (l r : List (ℕ × ℕ)) : Type 0 where
  pub each : (ds : List (Diagram × Diagram)) → IsDisjointUnder old u w l ds →
      HasList new u w r (λ a. answers a ds)

-- no pair has this sub
pub record LackSub (l : List (ℕ × ℕ)) (s : ℕ) : Type 0 where
  pub each : (i : ℕ) → i < length l → ¬ ((get_or l i (0, 0)).1 ≡ s)

-- each sub of the second list is one of the first
abbrev pub AddsNoSub : List (ℕ × ℕ) → List (ℕ × ℕ) → Type 0
AddsNoSub l r = (s : ℕ) → LackSub l s → AllByRecursion (λ (e : ℕ × ℕ). ¬ (e.1 ≡ s)) r

-- some pair has this sub
pub record HasSub (l : List (ℕ × ℕ)) (s : ℕ) : Type 0 where
  pub index : ℕ
  pub within : index < length l
  pub is : (get_or l index (0, 0)).1 ≡ s

-- the second list has the pairs of the first but those with this sub, in their order
abbrev pub IsWithout : ℕ → List (ℕ × ℕ) → List (ℕ × ℕ) → Type 0
IsWithout s [] r = r ≡ []
IsWithout s (e ∷ l) r =
    ((e.1 ≡ s) × IsWithout s l r)
    ⊎ ((k : List (ℕ × ℕ)) × ¬ (e.1 ≡ s) × (r ≡ e ∷ k) × IsWithout s l k)

-- whether some prime is true
abbrev pub has_answer : List Bool → Bool
has_answer [] = false
has_answer (x ∷ xs) = true

-- the code shows a diagram below u that is true where some prime is
pub record IsUnion (t : Table) (u c : ℕ) (ds : List (Diagram × Diagram)) : Type 0 where
  pub diagram : Diagram
  pub is : IsNodeUnder t u c diagram
  pub value : (a : List Bool) → meaning diagram a ≡ has_answer (answers a ds)

-- the disjunction of the primes of elements
pub record JoinsPrimes (old new : Table) (u w : ℕ) (l : List (ℕ × ℕ)) (c : ℕ) : Type 0 where
  pub each : (ds : List (Diagram × Diagram)) → ListsElements old u w l ds → IsUnion new u c ds

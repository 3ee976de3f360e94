-- Two lists of elements, with those apart that have one prime in both, for the contracts of private functions.
use Rattle.std.specs.Prelude.{◌≡◌, ◌⊎◌, ℕ, Bool, List, [], ◌∷◌, ◌++◌, length}
use Rattle.sd_model.specs.declared.trees.Operation.{Operation}
use Rattle.sd_model.specs.Diagram.{Diagram}
use Rattle.sd_laws.specs.Pairs.{answers}
use Rattle.sd_manager.specs.Table.{Table}
use Rattle.sd_apply.specs.Elements.{ListsElements, HasList, HaveSamePrimes, products, beside}
use Rattle.sd_apply.specs.Classes.{IsDisjointUnder}

-- each pair of the first list is in one of the two others, in the order of the first
abbrev pub IsParted : List (ℕ × ℕ) → List (ℕ × ℕ) → List (ℕ × ℕ) → Type 0
IsParted [] a b = (a ≡ []) × (b ≡ [])
IsParted (e ∷ l) a b =
    ((k : List (ℕ × ℕ)) × (a ≡ e ∷ k) × IsParted l k b)
    ⊎ ((k : List (ℕ × ℕ)) × (b ≡ e ∷ k) × IsParted l a k)

-- a and b have the same primes, and x and y are what is left of both lists
pub record AreMatched (l k a b x y : List (ℕ × ℕ)) : Type 0 where
  pub same : HaveSamePrimes a b
  pub first : IsParted l a x
  pub second : IsParted k b y

-- the connective at each element of the one list and that beside it; of both lists as many primes are true
pub record MultipliesBeside (old new : Table) (o : Operation) (u w : ℕ) (l m r : List (ℕ × ℕ)) : Type 0
  where
    pub each : (ds fs : List (Diagram × Diagram)) → ListsElements old u w l ds → ListsElements old u w m fs →
        HasList new u w r (λ a. beside o (answers a ds) (answers a fs))
    pub even : (ds fs : List (Diagram × Diagram)) → ListsElements old u w l ds → ListsElements old u w m fs →
        (a : List Bool) → length (answers a ds) ≡ length (answers a fs)

-- the products of two lists, behind the pairs that are there
pub record MultipliesRows (old new : Table) (o : Operation) (u w : ℕ) (l m p r : List (ℕ × ℕ)) : Type 0
  where
    pub each : (ds fs gs : List (Diagram × Diagram)) → ListsElements old u w l ds →
        IsDisjointUnder old u w m fs → ListsElements old u w p gs →
        HasList new u w r (λ a. answers a gs ++ products o (answers a ds) (answers a fs))

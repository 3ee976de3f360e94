-- What the calls inside an operation answer, for the contracts of private functions.
use Rattle.std.specs.Prelude.{◌≡◌, ℕ, Bool, true, false, ◌||◌, cond, List, [], ◌∷◌}
use Rattle.sd_model.specs.Assignment.{with_value}
use Rattle.sd_model.specs.Diagram.{Diagram, meaning}
use Rattle.sd_vtree.specs.Numbered.{Numbered, IsUnder}
use Rattle.sd_cache.specs.Entries.{Answers}
use Rattle.sd_laws.specs.Pairs.{answers}
use Rattle.sd_manager.specs.Table.{Table}
use Rattle.sd_manager.specs.Shown.{ShowsCanonical}
use Rattle.sd_manager.specs.Making.{Extends}
use Rattle.sd_manager.specs.Valid.{IsTable}
use Rattle.sd_apply.specs.Answers.{HasAnswer}
use Rattle.sd_apply.specs.Elements.{ListsElements, HasList}
use Rattle.sd_apply.specs.Growing.{GrowsBelow}
use Rattle.sd_apply.specs.Serving.{Serves}

-- the value of a diagram where the variable x has the value s
abbrev pub conditioned : ℕ → Bool → Diagram → List Bool → Bool
conditioned x s d a = meaning d (with_value a x s)

-- the value of a diagram for one of both values of the variable x
abbrev pub forgotten : ℕ → Diagram → List Bool → Bool
forgotten x d a = meaning d (with_value a x true) || meaning d (with_value a x false)

-- What each call leaves, also where it refuses: the nodes that were there stay as they were, each new one stands at the
-- vtree node or below it, what the cache knows is right for the table, and that is valid.
pub record IsStep (old new : Table) (at : ℕ) (c : Answers) : Type 0 where
  pub kept : Extends old new
  pub grown : GrowsBelow old new at
  pub serves : Serves c new
  pub table : IsTable new

-- what an operation of value f answers at a node
pub record AnswersOf (old new : Table) (f : Diagram → List Bool → Bool) (a c : ℕ) : Type 0 where
  pub each : (d : Diagram) → ShowsCanonical old a d → HasAnswer new (f d) c

-- the first code shows a diagram at which the second one is the answer
pub record IsAnswer (t : Table) (f : Diagram → List Bool → Bool) (a c : ℕ) : Type 0 where
  pub diagram : Diagram
  pub is : ShowsCanonical t a diagram
  pub answer : HasAnswer t (f diagram) c

-- the leaf stands below the vtree node just where the flag is true
pub record Tells (t : Numbered) (leaf at : ℕ) (here : Bool) : Type 0 where
  pub over : here ≡ true → IsUnder t leaf at
  pub apart : here ≡ false → ¬ IsUnder t leaf at

-- the pairs answer as the list does where the variable x has the value s
pub record FixesPairs (old new : Table) (x : ℕ) (s : Bool) (u w : ℕ) (l r : List (ℕ × ℕ)) : Type 0
  where
    pub each : (ds : List (Diagram × Diagram)) → ListsElements old u w l ds →
        HasList new u w r (λ a. answers (with_value a x s) ds)

-- the values of f at the subs whose primes are true
abbrev pub answers_by : (Diagram → List Bool → Bool) → List Bool → List (Diagram × Diagram) → List Bool
answers_by f a [] = []
answers_by f a (d ∷ ds) = cond (meaning d.0 a) (f d.1 a ∷ answers_by f a ds) (answers_by f a ds)

-- the pairs answer as the list does with the variable x forgotten in its subs
pub record ForgetsSubs (old new : Table) (x u w : ℕ) (l r : List (ℕ × ℕ)) : Type 0 where
  pub each : (ds : List (Diagram × Diagram)) → ListsElements old u w l ds →
      HasList new u w r (λ a. answers_by (forgotten x) a ds)

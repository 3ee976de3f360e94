-- What conditioning and forgetting answer.
use Rattle.std.specs.Prelude.{◌≡◌, ℕ, ℤ, Bool, true, false, ◌||◌, List}
use Rattle.sd_model.specs.Tree.{Tree}
use Rattle.sd_model.specs.Assignment.{with_value, with_literal}
use Rattle.sd_model.specs.Diagram.{Diagram, meaning}
use Rattle.sd_model.specs.Canonical.{IsCanonical}
use Rattle.sd_vtree.specs.Numbered.{plain_tree}
use Rattle.sd_laws.specs.Parts.{IsPart}
use Rattle.sd_manager.specs.Table.{Table}
use Rattle.sd_manager.specs.Shown.{ShowsCanonical}

-- The code shows a canonical diagram that has the value of x where the literal holds, and that
-- stands below each vtree node below which x stands.
pub record IsConditioned (t : Table) (x : Diagram) (literal : ℤ) (c : ℕ) : Type 0 where
  pub diagram : Diagram
  pub is : ShowsCanonical t c diagram
  pub value : (a : List Bool) → meaning diagram a ≡ meaning x (with_literal a literal)
  pub below : (s : Tree) (base : ℕ) → IsPart s base (plain_tree t.vtree) 0 → IsCanonical s base x →
      IsCanonical s base diagram

-- the answer of conditioning at a node of the old table
pub record Conditions (old new : Table) (a : ℕ) (literal : ℤ) (c : ℕ) : Type 0 where
  pub each : (x : Diagram) → ShowsCanonical old a x → IsConditioned new x literal c

-- The code shows a canonical diagram that is true where x is true for one of the values of the
-- variable, and that stands below each vtree node below which x stands.
pub record IsForgotten (t : Table) (x : Diagram) (variable c : ℕ) : Type 0 where
  pub diagram : Diagram
  pub is : ShowsCanonical t c diagram
  pub value : (a : List Bool) → meaning diagram a
      ≡ (meaning x (with_value a variable true) || meaning x (with_value a variable false))
  pub below : (s : Tree) (base : ℕ) → IsPart s base (plain_tree t.vtree) 0 → IsCanonical s base x →
      IsCanonical s base diagram

-- the answer of forgetting at a node of the old table
pub record Forgets (old new : Table) (a variable c : ℕ) : Type 0 where
  pub each : (x : Diagram) → ShowsCanonical old a x → IsForgotten new x variable c

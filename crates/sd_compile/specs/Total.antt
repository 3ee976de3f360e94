-- The total size of what all roots hold, with one formula's diagram beside it.
use Rattle.std.specs.Prelude.{◌≡◌, ℕ, ◌≤◌, List, ◌∷◌, Some}
use Rattle.std.specs.FinMap.{get}
use Rattle.sd_model.specs.Tree.{Tree}
use Rattle.sd_model.specs.Diagram.{Diagram}
use Rattle.sd_model.specs.Expression.{Expression}
use Rattle.sd_model.specs.Size.{size_of, IsDiagramOf}
use Rattle.sd_vtree.specs.Numbered.{plain_tree}
use Rattle.sd_laws.proofs.Lists.{IsAmong}
use Rattle.sd_manager.specs.Table.{Table}
use Rattle.sd_manager.specs.Shown.{ShowsCanonical}
use Rattle.sd_sweep.specs.Reached.{AreHeldDiagrams}

-- n is the size of the formula's canonical diagram and of the diagrams that all roots hold, together
pub record HasTotalWith (t : Table) (f : Expression) (n : ℕ) : Type 0 where
  pub held : List Diagram
  pub are_held : AreHeldDiagrams t held
  pub diagram : Diagram
  pub of_formula : IsDiagramOf (plain_tree t.vtree) f diagram
  pub size : size_of (diagram ∷ held) ≡ n

-- this total is within a limit
pub record IsWithinLimit (t : Table) (f : Expression) (limit : ℕ) : Type 0 where
  pub size : ℕ
  pub total : HasTotalWith t f size
  pub within : size ≤ limit

-- n is the size of the diagrams that all roots hold, together
abbrev pub IsTotal : Table → ℕ → Type 0
IsTotal t n = (ds : List Diagram) → AreHeldDiagrams t ds → n ≡ size_of ds

-- this size is within a limit
abbrev pub IsTotalWithin : Table → ℕ → Type 0
IsTotalWithin t limit = (ds : List Diagram) → AreHeldDiagrams t ds → size_of ds ≤ limit

-- a root holds this diagram
pub record IsHeldDiagram (t : Table) (d : Diagram) : Type 0 where
  pub root : ℕ
  pub code : ℕ
  pub held : get t.roots root ≡ Some code
  pub is : ShowsCanonical t code d

-- a root holds the formula's diagram
pub record IsHeldFormula (t : Table) (g : Expression) : Type 0 where
  pub diagram : Diagram
  pub held : IsHeldDiagram t diagram
  pub of_formula : IsDiagramOf (plain_tree t.vtree) g diagram

-- the diagram is that of a formula of the list
pub record IsOfSome (t : Tree) (fs : List Expression) (d : Diagram) : Type 0 where
  pub formula : Expression
  pub among : IsAmong formula fs
  pub is : IsDiagramOf t formula d

-- each formula is held, and each root holds one of them
pub record AreHeldFormulas (t : Table) (fs : List Expression) : Type 0 where
  pub each : (g : Expression) → IsAmong g fs → IsHeldFormula t g
  pub only : (d : Diagram) → IsHeldDiagram t d → IsOfSome (plain_tree t.vtree) fs d

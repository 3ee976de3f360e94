-- The difference of two nodes: what is true where the first is, and the second is not.
use Rattle.std.specs.Prelude.{◌≡◌, ℕ, Bool, not, ◌&&◌, ◌||◌, List, Option, Some, None, ◌/◌, ◌==◌}
use Rattle.std.specs.Prelude.{nat_lt, if◌then◌else◌}
use Rattle.sd_model.specs.Tree.{Tree}
use Rattle.sd_model.specs.Diagram.{Diagram, meaning}
use Rattle.sd_model.specs.Canonical.{IsCanonical}
use Rattle.sd_vtree.specs.Numbered.{plain_tree}
use Rattle.sd_laws.specs.Parts.{IsPart}
use Rattle.sd_manager.specs.Table.{Table}
use Rattle.sd_manager.specs.Shown.{ShowsCanonical}
use Rattle.sd_apply.specs.Answers.{HasAnswer}
use Rattle.sd_apply.specs.Halves.{HasHalves}
use Rattle.sd_apply.specs.Places.{IsNodeUnder}

-- The code shows a canonical diagram that is true where x is and y is not, and that stands below
-- each vtree node below which both x and y stand.
pub record IsDifference (t : Table) (x y : Diagram) (c : ℕ) : Type 0 where
  pub diagram : Diagram
  pub is : ShowsCanonical t c diagram
  pub value : (a : List Bool) → meaning diagram a ≡ (meaning x a && not (meaning y a))
  pub below : (s : Tree) (base : ℕ) → IsPart s base (plain_tree t.vtree) 0 → IsCanonical s base x →
      IsCanonical s base y → IsCanonical s base diagram

-- the difference of two nodes of the old table
pub record Subtracts (old new : Table) (a b c : ℕ) : Type 0 where
  pub each : (x y : Diagram) → ShowsCanonical old a x → ShowsCanonical old b y → IsDifference new x y c

-- ---- for the contracts of private functions

-- the difference of two nodes below v
pub record SubtractsAt (old new : Table) (v a b c : ℕ) : Type 0 where
  pub each : (x y : Diagram) → IsNodeUnder old v a x → IsNodeUnder old v b y →
      HasAnswer new (λ g. meaning x g && not (meaning y g)) c

-- the difference of the halves of two nodes, for each value of the variable
pub record SubtractsHalves (old new : Table) (w : ℕ) (h k r : ℕ × ℕ) : Type 0 where
  pub each : (variable : ℕ) (f g : List Bool → Bool) → HasHalves old w variable h.0 h.1 f →
      HasHalves old w variable k.0 k.1 g → HasHalves new w variable r.0 r.1 (λ a. f a && not (g a))

-- the difference of equal codes, beside a constant, and of the two literals of a variable
abbrev pub known_difference : ℕ → ℕ → Option ℕ
known_difference a b =
    if (a == b) || ((a == 0) || (b == 1)) then Some 0
    else (if b == 0 then Some a
    else (if (a / 2 == b / 2) && nat_lt a 2050 then Some a else None))

-- The lowest node over two nodes.
use Rattle.std.specs.Prelude.{ℕ}
use Rattle.sd_vtree.specs.Numbered.{Numbered, IsUnder}

-- among the nodes at or below n, this is the lowest one under which a and b stand
pub record IsLowest (t : Numbered) (a b n lowest : ℕ) : Type 0 where
  pub within : IsUnder t lowest n
  pub first : IsUnder t a lowest
  pub second : IsUnder t b lowest
  pub rest : (m : ℕ) → IsUnder t m n → IsUnder t a m → IsUnder t b m → IsUnder t lowest m

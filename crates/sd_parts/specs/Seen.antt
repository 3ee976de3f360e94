-- What a part is seen as.
use Rattle.std.specs.Prelude.{ℕ}
use Rattle.sd_model.specs.Tree.{Tree}
use Rattle.sd_formula.specs.Dimacs.{Groups}

-- A part with its number, counted from 0, and how many groups of the whole formula stand before it. It is compiled at
-- the tree, under the limit, in an arena of this bound.
pub record PartWork : Type 0 where
  pub number : ℕ
  pub formula : Groups
  pub first : ℕ
  pub tree : Tree
  pub limit : ℕ
  pub bound : ℕ

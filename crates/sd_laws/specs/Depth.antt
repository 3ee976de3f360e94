-- How deep a diagram is.
use Rattle.std.specs.Prelude.{ℕ, suc, max}
use Rattle.sd_model.specs.Diagram.{Diagram, Bottom, Top, Literal, Decomposition, Elements, End, Pair}

abbrev mutual
  -- the number of decompositions on the longest way down
  pub depth : Diagram → ℕ
  depth Bottom = 0
  depth Top = 0
  depth (Literal position variable positive) = 0
  depth (Decomposition position elements) = suc (depth_of elements)

  -- the greatest depth of the primes and subs
  pub depth_of : Elements → ℕ
  depth_of End = 0
  depth_of (Pair p s rest) = max (depth p) (max (depth s) (depth_of rest))

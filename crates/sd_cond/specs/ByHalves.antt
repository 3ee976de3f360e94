-- A node by its halves, for the contracts of private functions.
use Rattle.std.specs.Prelude.{ℕ}
use Rattle.sd_manager.specs.Table.{Table}
use Rattle.sd_apply.specs.Halves.{Halves, IsSplit}
use Rattle.sd_apply.specs.Places.{IsBelow}
use Rattle.sd_cond.specs.declared.halved.Halved.{Halved}

-- the node a has these halves, at a vtree node whose left child is a leaf
pub record IsHalved (t : Table) (h : Halved) (a : ℕ) : Type 0 where
  pub split : IsSplit t.vtree h.node h.split
  pub below : IsBelow t h.node a
  pub halves : Halves t h.node h.split.right h.split.variable a h.halves

-- The begin of a swap, for the contracts of private functions.
use Rattle.std.specs.Prelude.{◌≡◌, ℕ, List, Some}
use Rattle.sd_model.specs.declared.trees.Move.TheVariants.{Swap}
use Rattle.sd_vtree.specs.Numbered.{Numbered}
use Rattle.sd_vtree.specs.NumberedMoves.{moved_number}
use Rattle.sd_manager.specs.Table.{Table}
use Rattle.sd_manager.specs.Valid.{IsTable}
use Rattle.sd_manager.specs.Moving.{moving_at, with_vtree, KeepsMeanings}
use Rattle.sd_manager.specs.Places.{IsLinkedAt}
use Rattle.sd_move.specs.Moving.{HasBegun}
use Rattle.sd_move.specs.Steps.{AreDetached}

-- A move began at x, the nodes there were detached, those of these numbers, and then the vtree was swapped there.
pub record HasSwapped (old new : Table) (x : ℕ) (numbers : List ℕ) : Type 0 where
  pub between : Table
  pub tree : Numbered
  pub at_begin : IsTable (moving_at old x)
  pub table : IsTable between
  pub begun : HasBegun old between x
  pub detached : AreDetached (moving_at old x) between x numbers
  pub none_left : (n : ℕ) → ¬ IsLinkedAt between x n
  pub moved : moved_number Swap old.vtree x ≡ Some tree
  pub turned : new ≡ with_vtree between tree
  pub meanings : KeepsMeanings between new

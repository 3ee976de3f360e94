-- What never falls in a step, whether it is made or not.
use Rattle.std.proofs.Common.{ℕ, ◌≤◌, IfOk, OnErr}
use Rattle.std.specs.declared.result.Result.{Result}
use Rattle.std.specs.declared.result.Result.TheVariants.{Ok, Err}
use Rattle.sd_model.specs.declared.trees.Move.{Move}
use Rattle.sd_manager.specs.Table.{Table}
use Rattle.sd_sweep.specs.Falling.{NeverFalls}
use Rattle.sd_move.specs.Journal.{Journal}
use Rattle.sd_move.specs.Moves.{IsMoved}
use Rattle.sd_move.proofs.NeverFalling.{never_moved}

-- a move that was made, or refused
pub made_never : {X E : Type 0} (journal : X → Journal) (old new : Table) (kind : Move) (place : ℕ) (r : Result X E)
    → old.epoch ≤ 18446744073709551615 → IfOk r (λ x. IsMoved old new kind place (journal x))
    → OnErr r (NeverFalls old new) → NeverFalls old new
made_never journal old new kind place (Ok x) last moved refused = never_moved old new kind place (journal x) last moved
made_never journal old new kind place (Err e) last moved refused = refused

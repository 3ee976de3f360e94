-- A whole swap: when it can be made, and why it is refused.
use Rattle.std.proofs.Common.{◌≡◌, ℕ, Option, Some, None, option_and_then, refl}
use Rattle.std.specs.Option.{IsSome}
use Rattle.sd_model.specs.declared.trees.Move.{Move}
use Rattle.sd_model.specs.declared.trees.Move.TheVariants.{Swap}
use Rattle.sd_vtree.specs.Numbered.{Numbered, NumberedLeaf, NumberedNode, subtree, child_numbers, children_at}
use Rattle.sd_vtree.specs.Numbered.{IsNumbered}
use Rattle.sd_vtree.proofs.Subtrees.{once_numbered}
use Rattle.sd_vtree.proofs.Put.{put}
use Rattle.sd_manager.specs.Table.{Table}
use Rattle.sd_manager.specs.Valid.{IsTable}
use Rattle.sd_sweep.specs.Reached.{KeepsReached}
use Rattle.sd_move.specs.declared.error.MoveError.{MoveError}
use Rattle.sd_move.specs.declared.error.MoveError.TheVariants.{NotMovable, OverMost, ArenaFull, OutOfMemory}
use Rattle.sd_move.specs.Journal.{Journal, Rollback}
use Rattle.sd_move.specs.Moves.{IsMovable, IsMoved, IsMoveRefusal, IsRefusedOnTheWay}
use Rattle.sd_move.proofs.ThereAndBack.{there_and_back}

-- a swap can be made at each inner node
pub swap_movable : (t : Table) (x : ℕ) → IsNumbered t.vtree → IsSome (children_at t.vtree x) → IsMovable t Swap x
swap_movable t x num some = go (subtree t.vtree x) refl some
  where
    go : (o : Option Numbered) → subtree t.vtree x ≡ o → IsSome (option_and_then child_numbers o) → IsMovable t Swap x
    go None e s = absurd (cc (s))
    go (Some (NumberedLeaf m y)) e s = absurd (cc (s))
    go (Some (NumberedNode m l r)) e s =
        let p =
        put Swap t.vtree x (NumberedNode m l r) (NumberedNode m r l) (once_numbered t.vtree num) e refl refl in
        (p.result, p.is)

-- nothing changed
pub keeps_same : (t : Table) → KeepsReached t t
keeps_same t = record { vtree = refl; nodes = λ n k r e. e; roots = refl; loose = refl }

-- a refusal on the way is one of the move
pub refusal_on_way : (old new : Table) (kind : Move) (place most : ℕ) (e : MoveError) → IsMovable old kind place →
    IsRefusedOnTheWay new e → IsMoveRefusal old new kind place most e
refusal_on_way old new kind place most NotMovable can h = absurd h
refusal_on_way old new kind place most (OverMost size limit) can h = absurd h
refusal_on_way old new kind place most (ArenaFull elements) can h = (can, h)
refusal_on_way old new kind place most OutOfMemory can h = can

-- a move that was made and undone
pub back_again : (old mid new : Table) (kind : Move) (place : ℕ) (j : Journal) → IsTable old → IsTable mid →
    IsMoved old mid kind place j → Rollback j mid new → KeepsReached old new
back_again old mid new kind place j t u m r =
    there_and_back old mid mid new kind place j t.numbered u.numbered m (keeps_same mid) r

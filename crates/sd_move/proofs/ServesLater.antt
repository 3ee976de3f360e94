-- A cache that serves a manager serves it at a later epoch, and when a move ends.
use Rattle.std.proofs.Common.{◌≡◌, ◌⊎◌, inl, inr, ◌≤◌, refl, sym, subst}
use Rattle.sd_cache.specs.Entries.{Answers}
use Rattle.sd_apply.specs.Serving.{Serves, last_epoch}
use Rattle.sd_apply.proofs.Served.{serves_beside, serves_past}
use Rattle.sd_manager.specs.Table.{Table}
use Rattle.sd_manager.specs.Moving.{at_rest, IsLater}
use Rattle.sd_sweep.specs.Reached.{IsSwept, HasUnreached}

-- at a later epoch none of its answers is used
pub serves_later : (c : Answers) (old new : Table) → old.epoch ≤ last_epoch → IsLater old new → Serves c old →
    Serves c new
serves_later c old new last later h = serves_past c old new last later h

-- so after a sweep
pub serves_swept : (c : Answers) (old new : Table) → old.epoch ≤ last_epoch → IsSwept old new → Serves c old →
    Serves c new
serves_swept c old new last s h = go s.changed
  where
    go : (new ≡ old) ⊎ (IsLater old new × HasUnreached old) → Serves c new
    go (inl same) = subst (Serves c) (sym same) h
    go (inr k) = serves_later c old new last k.0 h

-- the end of a move changes no node
pub serves_rest : (c : Answers) (t : Table) → Serves c t → Serves c (at_rest t)
serves_rest c t serves = serves_beside c t (at_rest t) refl refl refl serves

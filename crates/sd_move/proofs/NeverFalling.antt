-- What never falls in a move that is made, undone, settled or refused.
use Rattle.std.proofs.Common.{inl, inr, ℕ, ◌≤◌, Option, List, arith, subst, sym}
use Rattle.sd_model.specs.declared.trees.Move.{Move}
use Rattle.sd_manager.specs.Table.{Table}
use Rattle.sd_manager.specs.Moving.{IsLater}
use Rattle.sd_sweep.specs.Falling.{NeverFalls}
use Rattle.sd_sweep.proofs.NeverFalling.{epoch_later}
use Rattle.sd_move.specs.GoingBack.{ToTable, HasGoneBack}
use Rattle.sd_move.specs.Journal.{Named, Journal, Rollback, IsSettledBy}
use Rattle.sd_move.specs.Moves.{IsMoved}
use Rattle.sd_move.specs.OnTheWay.{IsOnTheWay}
use Rattle.sd_move.proofs.MoveEnd.{later_way}

-- the epoch of a table that is later than a later one
epoch_then : (old mid new : Table) → old.epoch ≤ 18446744073709551615 → IsLater old mid → IsLater mid new →
    old.epoch ≤ new.epoch
epoch_then old mid new last (inl less) (inl more) = omega (arith, less, more)
epoch_then old mid new last (inr is) (inl more) = omega (arith, last, is, more)
epoch_then old mid new last first (inr is) = omega (arith, last, is)

-- a move
pub never_moved : (old new : Table) (kind : Move) (place : ℕ) (j : Journal) → old.epoch ≤ 18446744073709551615 →
    IsMoved old new kind place j → NeverFalls old new
never_moved old new kind place j last m =
    record {
      extent = m.extent;
      records = m.records;
      epoch = epoch_later old new last m.later;
    }

-- a move that is undone
pub never_back_from : (j : Journal) (old new : Table) → old.epoch ≤ 18446744073709551615 → Rollback j old new →
    NeverFalls old new
never_back_from j old new last r =
    record {
      extent = omega (arith, r.extent);
      records = omega (arith, r.records);
      epoch = epoch_later old new last r.later;
    }

-- a move that is settled
pub never_settled : (old new : Table) (j : Journal) → IsSettledBy old new j → NeverFalls old new
never_settled old new j s =
    subst (NeverFalls old) (sym s.same) (record {
      extent = omega arith;
      records = omega arith;
      epoch = omega arith;
    })

-- a move that was made and undone
pub never_undone : (old mid new : Table) (kind : Move) (place : ℕ) (j : Journal) → old.epoch ≤ 18446744073709551615 →
    IsMoved old mid kind place j → Rollback j mid new → NeverFalls old new
never_undone old mid new kind place j last m r =
    record {
      extent = omega (arith, m.extent, r.extent);
      records = omega (arith, m.records, r.records);
      epoch = epoch_then old mid new last m.later r.later;
    }

-- a move that went back
pub never_back : (m0 m new : Table) (kind back : Move) (x : ℕ) (lower : Option ℕ) (named : List Named) →
    m0.epoch ≤ 18446744073709551615 → IsOnTheWay m0 m kind x lower named →
    HasGoneBack (ToTable m0) m new back x lower named → NeverFalls m0 new
never_back m0 m new kind back x lower named last o b =
    record {
      extent = omega (arith, o.extent, b.extent);
      records = omega (arith, o.records, b.records);
      epoch = epoch_then m0 m new last (later_way m0 m kind x lower named o last) b.later;
    }

-- What never falls where nodes are made, a root holds another node or is released, and a sweep follows.
use Rattle.std.proofs.Common.{◌≡◌, inl, inr, ℕ, ◌≤◌, arith, subst, sym}
use Rattle.sd_manager.specs.Table.{Table}
use Rattle.sd_manager.specs.Making.{Extends, with_root, without_root}
use Rattle.sd_manager.specs.Moving.{IsLater}
use Rattle.sd_sweep.specs.Falling.{NeverFalls}
use Rattle.sd_sweep.specs.Reached.{IsSwept}

-- a table that stays
pub never_same : (old new : Table) → new ≡ old → NeverFalls old new
never_same old new same =
    subst (NeverFalls old) (sym same) (record {
      extent = omega arith;
      records = omega arith;
      epoch = omega arith;
    })

-- one step after the other
pub never_both : (a b c : Table) → NeverFalls a b → NeverFalls b c → NeverFalls a c
never_both a b c f s =
    record {
      extent = omega (arith, f.extent, s.extent);
      records = omega (arith, f.records, s.records);
      epoch = omega (arith, f.epoch, s.epoch);
    }

-- nodes were made
pub never_extended : (old new : Table) → Extends old new → NeverFalls old new
never_extended old new x =
    let epoch = x.epoch in
    record {
      extent = x.extent;
      records = x.records;
      epoch = omega (arith, epoch);
    }

-- the root holds a node
pub never_rooted : (old new : Table) (root c : ℕ) → new ≡ with_root old root c → NeverFalls old new
never_rooted old new root c is =
    subst (NeverFalls old) (sym is) (record {
      extent = omega arith;
      records = omega arith;
      epoch = omega arith;
    })

-- a root was released
pub never_released : (old new : Table) (root : ℕ) → new ≡ without_root old root → NeverFalls old new
never_released old new root is =
    subst (NeverFalls old) (sym is) (record {
      extent = omega arith;
      records = omega arith;
      epoch = omega arith;
    })

-- the epoch of a later table
pub epoch_later : (old new : Table) → old.epoch ≤ 18446744073709551615 → IsLater old new → old.epoch ≤ new.epoch
epoch_later old new last (inl less) = omega (arith, less)
epoch_later old new last (inr is) = omega (arith, last, is)

-- a sweep
pub never_swept : (old new : Table) → old.epoch ≤ 18446744073709551615 → IsSwept old new → NeverFalls old new
never_swept old new last s = elim s.changed [
  | inl same ↦ never_same old new same
  | inr h ↦ record {
    extent = omega (arith, s.extent);
    records = omega (arith, s.records);
    epoch = epoch_later old new last h.0;
  }
]

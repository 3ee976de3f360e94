-- A sweep, one node after the other: what is so after each of them, and after the last one.
use Rattle.std.proofs.Common.{◌≡◌, ◌⊎◌, inl, inr, ℕ, ◌+◌, ◌<◌, List, Some, None, refl, sym, ap, subst, ◌∙◌}
use Rattle.std.proofs.Common.{◌≤◌, arith, nat_lt, if◌then◌else◌, Bool, true, false}
use Rattle.std.proofs.lemmas.Bool.{ltb-true, ltb-false}
use Rattle.std.specs.Option.{IsSome}
use Rattle.std.specs.FinMap.{get, remove}
use Rattle.sd_runs.proofs.Maps.{get_remove_same, get_remove_other}
use Rattle.sd_manager.specs.Table.{Table}
use Rattle.sd_manager.specs.Valid.{IsTable}
use Rattle.sd_manager.specs.Moving.{IsLater, next_epoch}
use Rattle.sd_manager.specs.Retiring.{AreRetired, IsIdle, IsRetired, none_retired, one_more, retired}
use Rattle.sd_manager.proofs.Totals.{left_was}
use Rattle.sd_manager.proofs.Unused.{not_in_linked, not_in_run, not_held}
use Rattle.sd_sweep.specs.Reached.{IsReached, IsSwept, HasUnreached}
use Rattle.sd_sweep.proofs.Climbing.{IsUsed, first_use, list_use, HasRemoved, removed_reached, reached_removed}
use Rattle.sd_sweep.proofs.Climbing.{reached_used, used_reached}
use Rattle.sd_sweep.proofs.Used.{entry_count, fewer_entries, used_unless_idle}

-- what is so at each time of a sweep: the nodes that are gone were not reached
pub record IsSweeping (old now : Table) : Type 0 where
  pub vtree : now.vtree ≡ old.vtree
  pub kept : (n : ℕ) (k : ℕ × List (ℕ × ℕ)) → get old.linked n ≡ Some k → IsReached old n → get now.linked n ≡ Some k
  pub only : (n : ℕ) (k : ℕ × List (ℕ × ℕ)) → get now.linked n ≡ Some k → get old.linked n ≡ Some k
  pub reached : (n : ℕ) → IsReached old n → IsReached now n
  pub before : (n : ℕ) → IsReached now n → IsReached old n
  pub marks : (n : ℕ) → IsSome (get now.linked n) → get now.marks n ≡ get old.marks n
  pub detached : now.detached ≡ old.detached
  pub loose : now.loose ≡ old.loose
  pub roots : now.roots ≡ old.roots
  pub bound : now.bound ≡ old.bound
  pub moving : now.moving ≡ old.moving
  pub records : now.records ≡ old.records
  pub extent : now.extent ≡ old.extent
  pub last : now.epoch ≤ 18446744073709551615
  pub changed : (now ≡ old) ⊎ (IsLater old now × HasUnreached old)

-- a node that is not counted is not used
idle_unused : (t : Table) (n : ℕ) → IsIdle t n → ¬ IsUsed t n
idle_unused t n h (first_use (inl k)) = not_held t (2050 + n) h.unused k.0 (2050 + n) k.1 refl
idle_unused t n h (first_use (inr k)) = not_in_run t (2050 + n) h.unused k.0 k.1 k.2 k.3
idle_unused t n h (list_use m p l e s) = not_in_linked t (2050 + n) h.unused m (p, l) e s

-- the next epoch is at most the last one
next_last : (d : ℕ) → d ≤ 18446744073709551615 → next_epoch d ≤ 18446744073709551615
next_last d last = go (nat_lt d 18446744073709551615) refl
  where
    go : (b : Bool) → nat_lt d 18446744073709551615 ≡ b → (if b then d + 1 else d) ≤ 18446744073709551615
    go true below = omega (arith, ltb-true d 18446744073709551615 below)
    go false over = last

-- it is later than all before it, or the last one
next_later : (e d : ℕ) → d ≤ 18446744073709551615 → (e ≤ d) ⊎ (d ≡ 18446744073709551615) →
    (e < next_epoch d) ⊎ (next_epoch d ≡ 18446744073709551615)
next_later e d last h = go (nat_lt d 18446744073709551615) refl h
  where
    go : (b : Bool) → nat_lt d 18446744073709551615 ≡ b → (e ≤ d) ⊎ (d ≡ 18446744073709551615) →
        (e < (if b then d + 1 else d)) ⊎ ((if b then d + 1 else d) ≡ 18446744073709551615)
    go true below (inl k) = inl (omega (arith, k))
    go true below (inr k) = absurd (omega (arith, k, ltb-true d 18446744073709551615 below))
    go false over k = inr (omega (arith, last, ltb-false d 18446744073709551615 over))

module _ (old now : Table) (s : IsSweeping old now) (n p : ℕ) (l : List (ℕ × ℕ)) (idle : IsIdle now n)
    (was : get now.linked n ≡ Some (p, l)) where
  -- one unused node was removed
  one_removed : HasRemoved now (retired now n l) n
  one_removed =
      record {
        unused = idle_unused now n idle;
        kept = λ m k ne e. get_remove_other now.linked n m ne ∙ e;
        only = λ m k e. left_was now.linked n m k e;
        roots = refl;
        loose = refl;
      }

  -- it was not reached at the beginning
  was_unreached : ¬ IsReached old n
  was_unreached r = idle_unused now n idle (reached_used now (s.reached n r))

  other_node : (m : ℕ) → IsSome (get (remove now.linked n) m) → ¬ (m ≡ n)
  other_node m h same =
      let none = subst IsSome (ap (get (remove now.linked n)) same ∙ get_remove_same now.linked n) h in
      absurd (cc (none))

  -- the epoch is a later one
  epoch_later : IsLater old (retired now n l)
  epoch_later = next_later old.epoch now.epoch s.last (go s.changed)
    where
      go : (now ≡ old) ⊎ (IsLater old now × HasUnreached old) →
          (old.epoch ≤ now.epoch) ⊎ (now.epoch ≡ 18446744073709551615)
      go (inl same) = inl (omega (arith, ap (λ (t : Table). t.epoch) same))
      go (inr (inl less, _)) = inl (omega (arith, less))
      go (inr (inr last, _)) = inr last

  -- one node after the others
  one_swept : IsSweeping old (retired now n l)
  one_swept =
      record {
        vtree = s.vtree;
        kept = λ m k e r. get_remove_other now.linked n m (λ same. was_unreached (subst (IsReached old) same r))
            ∙ s.kept m k e r;
        only = λ m k e. s.only m k (left_was now.linked n m k e);
        reached = λ m r. removed_reached now (retired now n l) n one_removed (s.reached m r);
        before = λ m r. s.before m (reached_removed now (retired now n l) n one_removed r);
        marks = λ m h.
            let ne = other_node m h in
            get_remove_other now.marks n m ne
            ∙ s.marks m (subst IsSome (get_remove_other now.linked n m ne) h);
        detached = s.detached;
        loose = s.loose;
        roots = s.roots;
        bound = s.bound;
        moving = s.moving;
        records = s.records;
        extent = s.extent;
        last = next_last now.epoch s.last;
        changed = inr (epoch_later, (n, subst IsSome (sym (s.only n (p, l) was)) refl, was_unreached));
      }

-- a sweep goes on with a node that was idle
pub sweep_on : (old now new : Table) → IsSweeping old now → (n : ℕ) → IsIdle now n → IsRetired now new n →
    IsSweeping old new
sweep_on old now new s n idle r =
    subst (IsSweeping old) (sym r.is) (one_swept old now s n r.place r.list idle r.was)

-- and each node that is taken away is one less
pub sweep_less : (now new : Table) (n : ℕ) → IsRetired now new n → entry_count new.linked < entry_count now.linked
sweep_less now new n r =
    omega (
      arith,
      fewer_entries now.linked n (r.place, r.list) r.was,
      ap (λ (t : Table). entry_count t.linked) r.is,
    )

-- a sweep goes on where some are taken away, one after the other
pub sweep_on_all : (old now new : Table) → IsSweeping old now → AreRetired now new → IsSweeping old new
sweep_on_all old now new s none_retired = s
sweep_on_all old now new s (one_more {t = t} {n = n} before idle last) =
    sweep_on old t new (sweep_on_all old now t s before) n idle last

-- and no more nodes are there then
pub sweep_less_all : (now new : Table) → AreRetired now new → entry_count new.linked ≤ entry_count now.linked
sweep_less_all now new none_retired = omega arith
sweep_less_all now new (one_more {t = t} {n = n} before idle last) =
    omega (arith, sweep_less_all now t before, sweep_less t new n last)

-- where nothing is idle outside a move, each node is reached
pub all_reached : (t : Table) → IsTable t → t.moving ≡ None → ((n : ℕ) → ¬ IsIdle t n) → (n : ℕ) →
    IsSome (get t.linked n) → IsReached t n
all_reached t i still none = used_reached t i still (λ n h. used_unless_idle t i still n h (none n))

-- so a sweep that finds nothing idle is at its end
pub sweep_ended : (old now : Table) → IsSweeping old now → IsTable now → old.moving ≡ None →
    ((n : ℕ) → ¬ IsIdle now n) → IsSwept old now
sweep_ended old now s i still none =
    record {
      vtree = s.vtree;
      kept = s.kept;
      only = λ n k e. (
        s.only n k e,
        s.before n (all_reached now i (s.moving ∙ still) none n (subst IsSome (sym e) refl)),
      );
      marks = s.marks;
      detached = s.detached;
      loose = s.loose;
      roots = s.roots;
      bound = s.bound;
      moving = s.moving;
      records = s.records;
      extent = s.extent;
      changed = s.changed;
    }

-- A move on its way ends, where no node is detached, or goes back.
use Rattle.std.proofs.Common.{◌≡◌, ◌⊎◌, inl, inr, ℕ, ◌+◌, ◌≤◌, ◌<◌, List, Option, Some, None, refl, sym, ◌∙◌, ap}
use Rattle.std.proofs.Common.{subst, Bool, true, false, [], arith}
use Rattle.std.specs.Option.{IsSome}
use Rattle.std.specs.FinMap.{get, empty, get-empty}
use Rattle.sd_model.specs.declared.trees.Move.{Move}
use Rattle.sd_model.specs.Moves.{inverse_move}
use Rattle.sd_runs.specs.declared.error.TakeError.{TakeError}
use Rattle.sd_laws.specs.Turned.{lower_of}
use Rattle.sd_manager.specs.Table.{Table, key_at}
use Rattle.sd_manager.specs.Shown.{IsNodeOf}
use Rattle.sd_manager.specs.Valid.{IsTable}
use Rattle.sd_manager.specs.Making.{KeepsRule, IsPastBound}
use Rattle.sd_manager.specs.Marking.{AreUnmarked}
use Rattle.sd_manager.specs.Moving.{at_rest, IsLater, next_epoch}
use Rattle.sd_manager.proofs.Reading.{linked_key}
use Rattle.sd_sweep.specs.Reached.{KeepsReached}
use Rattle.sd_move.specs.GoingBack.{ToTable, CanGoBack, HasGoneBack}
use Rattle.sd_move.specs.Journal.{Named, Journal}
use Rattle.sd_move.specs.Moves.{IsMoved}
use Rattle.sd_move.specs.OnTheWay.{IsOnTheWay, AreAllReached}
use Rattle.sd_move.specs.Recorded.{AreRecorded}
use Rattle.sd_move.proofs.KnownAtEnd.{may_end}
use Rattle.sd_move.proofs.Recorded.{is_moved}
use Rattle.sd_move.proofs.Refused.{way_to, can_refuse, refused_keeps, refused_past}
use Rattle.std.specs.Prelude.{nat_lt, if◌then◌else◌}
use Rattle.std.proofs.lemmas.Bool.{ltb-true, ltb-false}
use Rattle.std.specs.Ordering.{nat_cmp}
use Rattle.sd_runs.specs.declared.error.TakeError.TheVariants.{ArenaFull, OutOfMemory}
use Rattle.sd_runs.proofs.Maps.{same_at_each}
use Rattle.sd_move.specs.Moving.{Progress}
use Rattle.sd_move.specs.Rewriting.{GoesOn}
use Rattle.sd_laws.specs.Values.{Valuation}

-- the next epoch is a later one
pub next_later : (e : ℕ) → e ≤ 18446744073709551615 → (e < next_epoch e) ⊎ (next_epoch e ≡ 18446744073709551615)
next_later e last = go (nat_lt e 18446744073709551615) refl
  where
    go : (b : Bool) → nat_lt e 18446744073709551615 ≡ b →
        (e < (if b then e + 1 else e)) ⊎ ((if b then e + 1 else e) ≡ 18446744073709551615)
    go true below = inl (omega arith)
    go false over = inr (omega (arith, last, ltb-false e 18446744073709551615 over))

-- and at most the last one
pub next_last : (d : ℕ) → d ≤ 18446744073709551615 → next_epoch d ≤ 18446744073709551615
next_last d last = go (nat_lt d 18446744073709551615) refl
  where
    go : (b : Bool) → nat_lt d 18446744073709551615 ≡ b → (if b then d + 1 else d) ≤ 18446744073709551615
    go true below = omega (arith, ltb-true d 18446744073709551615 below)
    go false over = last

-- a refusal by the arena's rule is one where what is past the bound is so
pub rule_over : (t u : Table) (e : TakeError) → ((elements : ℕ) → IsPastBound t elements → IsPastBound u elements) →
    KeepsRule t e → KeepsRule u e
rule_over t u (ArenaFull elements) f h = f elements h
rule_over t u OutOfMemory f h = h

-- where none waits still, nothing is detached
pub none_waits : (old new last : Table) (x : ℕ) (h : Progress) (v : Valuation) → GoesOn old new last x h v [] →
    last.detached ≡ empty
none_waits old new last x h v on =
    same_at_each last.detached empty (λ n. gone n (get last.detached n) refl ∙ sym (get-empty nat_cmp n))
  where
    gone : (n : ℕ) (o : Option (ℕ × List (ℕ × ℕ))) → get last.detached n ≡ o → get last.detached n ≡ None
    gone n None e = e
    gone n (Some k) e = absurd (on.can.only n (subst IsSome (sym e) refl))

module _ (m0 m : Table) (kind : Move) (x : ℕ) (lower : Option ℕ) (named : List Named)
    (o : IsOnTheWay m0 m kind x lower named) where
  recorded : AreRecorded m0 m x (lower_of kind m0.vtree x) named
  recorded = subst (λ l. AreRecorded m0 m x l named) (sym o.lower_is) o.recorded

  -- the epoch is a later one
  pub later_way : m0.epoch ≤ 18446744073709551615 → IsLater m0 m
  later_way last =
      subst (λ e. (m0.epoch < e) ⊎ (e ≡ 18446744073709551615)) (sym o.epoch) (next_later m0.epoch last)

  pub last_way : m0.epoch ≤ 18446744073709551615 → m.epoch ≤ 18446744073709551615
  last_way last = subst (λ e. e ≤ 18446744073709551615) (sym o.epoch) (next_last m0.epoch last)

  -- no mark is on that was off
  off_now : AreUnmarked m0 → (n q : ℕ) → IsSome (key_at m n) → get m.marks n ≡ Some q → get m.marks n ≡ Some 0
  off_now off n q some e = go (o.marks n q some e)
    where
      go : (IsSome (get m0.linked n) × (get m0.marks n ≡ Some q)) ⊎ (q ≡ 0) → get m.marks n ≡ Some 0
      go (inr z) = e ∙ ap Some z
      go (inl k) = e ∙ sym k.1 ∙ off n k.0

  -- it can go back
  pub can_go_back : CanGoBack (way_to m0 o.progress o.values) m (inverse_move kind) x lower named
  can_go_back =
      subst (λ l. CanGoBack (way_to m0 o.progress o.values) m (inverse_move kind) x l named) o.lower_is
      (can_refuse m0 m kind x named o.progress o.values o.first o.no_move o.going o.kept_all o.moved recorded o.waiting)

  -- where nothing is detached it can end
  pub known_end : m.detached ≡ empty → IsTable m → (n : ℕ) → IsSome (get m.linked n) → IsNodeOf m (2050 + n)
  known_end none t = may_end m0 m x o.progress o.values t o.going none

  -- then the marks are off
  pub unmarked_end : IsTable m → AreUnmarked m0 → AreUnmarked (at_rest m)
  unmarked_end t off n some = go (get m.linked n) refl some
    where
      mark : (k : Option ℕ) → get m.marks n ≡ k → IsSome k → IsSome (key_at m n) → get m.marks n ≡ Some 0
      mark None e known key = absurd (cc (known))
      mark (Some q) e known key = off_now off n q key e

      go : (k : Option (ℕ × List (ℕ × ℕ))) → get m.linked n ≡ k → IsSome k → get m.marks n ≡ Some 0
      go None e known = absurd (cc (known))
      go (Some k) e known =
          let key = linked_key m n k e in
          mark (get m.marks n) refl (t.marked n k key) (subst IsSome (sym key) refl)

  -- and the vtree was moved
  pub moved_end : m.detached ≡ empty → IsTable m → AreAllReached m0 → m0.epoch ≤ 18446744073709551615 → (j : Journal) →
      j.kind ≡ kind → j.upper ≡ x → j.lower ≡ lower → j.named ≡ named → IsMoved m0 (at_rest m) kind x j
  moved_end none t all last j made upper below is =
      is_moved m0 m kind x named o.progress o.values o.first o.no_move t o.going o.kept_all none o.moved recorded j is
      made upper (below ∙ sym o.lower_is) all o.bound o.extent o.records (later_way last)

  -- where it went back, each node is as before
  module _ (new : Table) (b : HasGoneBack (ToTable m0) m new (inverse_move kind) x lower named) where
    back : HasGoneBack (ToTable m0) m new (inverse_move kind) x (lower_of kind m0.vtree x) named
    back =
        subst (λ l. HasGoneBack (ToTable m0) m new (inverse_move kind) x l named) (sym o.lower_is) b

    pub keeps_back : KeepsReached m0 new
    keeps_back =
        refused_keeps m0 m kind x named o.progress o.values o.first o.no_move o.going o.kept_all o.moved recorded new
        back

    -- a full arena is full still
    pub rule_again : (e : TakeError) → KeepsRule m e → KeepsRule new e
    rule_again e h =
        rule_over m new e
        (refused_past m0 m kind x named o.progress o.values o.first o.no_move o.going o.kept_all o.moved recorded new
        back) h

    -- and the marks are off
    pub unmarked_again : IsTable new → AreUnmarked m0 → AreUnmarked new
    unmarked_again valid off n some = go (get new.linked n) refl some
      where
        key : (k : ℕ × List (ℕ × ℕ)) → get new.linked n ≡ Some k → IsSome (key_at m n)
        key k e = elim (b.only n k e) [
          | inl w ↦ o.going.kept n w.0 (o.kept_all n)
          | inr w ↦ subst IsSome (sym (linked_key m n k w.0)) refl
        ]

        mark : (k : Option ℕ) → get new.marks n ≡ k → IsSome k → IsSome (key_at m n) → get new.marks n ≡ Some 0
        mark None e known there = absurd (cc (known))
        mark (Some q) e known there =
            e ∙ sym (b.marks n q e) ∙ off_now off n q there (b.marks n q e)

        go : (k : Option (ℕ × List (ℕ × ℕ))) → get new.linked n ≡ k → IsSome k → get new.marks n ≡ Some 0
        go None e known = absurd (cc (known))
        go (Some k) e known = mark (get new.marks n) refl (valid.marked n k (linked_key new n k e)) (key k e)

-- A number is taken off its stack and settled.
use Rattle.std.proofs.Common.{◌≡◌, ◌≢◌, ℕ, zero, suc, ◌+◌, ◌*◌, ◌<◌, ◌≤◌, Bool, true, false, ◌&&◌, not, cond, List}
use Rattle.std.proofs.Common.{[], ◌∷◌, length, map, get_or}
use Rattle.std.proofs.Common.{refl, sym, ◌∙◌, ap, subst, arith}
use Rattle.std.proofs.Math.ListN.{set}
use Rattle.std.proofs.lemmas.List.{length-set, length-map, map-set}
use Rattle.std.proofs.lemmas.List.Sums.{sum_by-set, count_by-le-length}
use Rattle.sd_counts.specs.declared.count.Count.{Count}
use Rattle.sd_counts.specs.Counts.{live_at}
use Rattle.sd_counts.specs.Queued.{no_number, blank, at, seen, next_of, rises, falls, AreQueued, IsTaken}
use Rattle.sd_counts.specs.Queued.{queued_count, uncounted_count, counted_count, rising_work, falling_work}
use Rattle.sd_counts.proofs.Adding.{field_at, fields_kept}
use Rattle.sd_counts.proofs.OnStack.{not_both, not_true, both_true, stack_same, stack_pop, stack_top}
use Rattle.sd_counts.proofs.Queueing.{at_set, at_other, field_same, rest_set}

-- the first number that may rise is queued and not counted
pub up_top : (counts : List Count) (m falling : ℕ) → AreQueued counts m falling → m ≢ no_number
    → ((at counts m).is_queued ≡ true) × ((at counts m).is_counted ≡ false)
up_top counts m falling q some =
    let both = both_true _ _ (stack_top (next_of counts) no_number m (rises counts) some q.up) in
    (both.0, not_true both.1)

-- the first number that may fall is queued and counted
pub down_top : (counts : List Count) (rising m : ℕ) → AreQueued counts rising m → m ≢ no_number
    → ((at counts m).is_queued ≡ true) × ((at counts m).is_counted ≡ true)
down_top counts rising m q some = both_true _ _ (stack_top (next_of counts) no_number m (falls counts) some q.down)

pub queued_inside : (counts : List Count) (m : ℕ) → (at counts m).is_queued ≡ true → m < length counts
queued_inside [] m on = absurd (not_both refl on)
queued_inside (c ∷ cs) zero on = omega arith
queued_inside (c ∷ cs) (suc m) on = let rest : m < length cs = queued_inside cs m on in omega arith

-- one flag less
flag_less : {X : Type 0} (f : X → Bool) (xs : List X) (m : ℕ) (t d : X) → m < length xs → f (get_or xs m d) ≡ true
    → f t ≡ false → Rattle.std.specs.List.count_by f (set xs m t) + 1 ≡ Rattle.std.specs.List.count_by f xs
flag_less f xs m t d inside on off =
    omega (
      arith,
      sum_by-set (λ x. cond (f x) 1 0) xs m t d inside,
      ap (λ b. cond {A = ℕ} b 1 0) on,
      ap (λ b. cond {A = ℕ} b 1 0) off,
    )

-- what is left to do falls with one queued number less, or with one number less that is to change
pub work_queued : (u u' l l' q q' : ℕ) → u' ≡ u → l' ≡ l → q' + 1 ≡ q → u' * (l' + 1) + q' < u * (l + 1) + q
work_queued u u' l l' q q' eu el less =
    subst (λ k. u' * (l' + 1) + q' < k * (l + 1) + q) eu
    (subst (λ k. u' * (k + 1) + q' < u' * (l + 1) + q) (sym el) (omega (arith, less)))

pub work_changed : (u u' l l' q q' : ℕ) → u' + 1 ≡ u → l' ≡ l → q' ≤ l' → u' * (l' + 1) + q' < u * (l + 1) + q
work_changed u u' l l' q q' eu el most =
    subst (λ k. u' * (l' + 1) + q' < k * (l + 1) + q) eu
    (subst (λ k. u' * (k + 1) + q' < (u' + 1) * (l + 1) + q) (sym el) (omega (arith, most, el)))

module _ (old mid : List Count) (m : ℕ) (k : IsTaken old mid m) (inside : m < length old) where
  pub now_at : at mid m ≡ (k.now)
  now_at = ap (λ l. at l m) k.is ∙ at_set old m k.now inside m refl

  pub taken_size : length mid ≡ length old
  taken_size = ap length k.is ∙ length-set old m k.now

  kept_live : map (λ (c : Count). c.live) mid ≡ map (λ (c : Count). c.live) old
  kept_live =
      ap (map (λ (c : Count). c.live)) k.is ∙ fields_kept (λ (c : Count). c.live) old m k.now k.live

  -- the uses are as before
  pub taken_live : (total n : ℕ) → live_at (seen mid total) n ≡ live_at (seen old total) n
  taken_live total n = ap (λ xs. get_or xs n 0) kept_live

  pub taken_live_size : (total : ℕ) → length (seen mid total).live ≡ length (seen old total).live
  taken_live_size total = ap length kept_live

  -- only that number is counted, or no more
  pub counted_set : (b : Bool) → (k.now).is_counted ≡ b → (seen mid 0).counted ≡ set (seen old 0).counted m b
  counted_set b is =
      ap (map (λ (c : Count). c.is_counted)) k.is ∙ map-set (λ (c : Count). c.is_counted) old m k.now
      ∙ ap (set (map (λ (c : Count). c.is_counted) old) m) is

  -- where it is counted as before, nothing changed that is seen
  pub seen_same : (total : ℕ) → (k.now).is_counted ≡ (at old m).is_counted → seen mid total ≡ seen old total
  seen_same total same =
      let counted : map (λ (c : Count). c.is_counted) mid ≡ map (λ (c : Count). c.is_counted) old =
      ap (map (λ (c : Count). c.is_counted)) k.is ∙ fields_kept (λ (c : Count). c.is_counted) old m k.now same in
      ap (λ xs. record { live = xs; counted = map (λ (c : Count). c.is_counted) mid; total = total }) kept_live
      ∙ ap (λ bs. record { live = map (λ (c : Count). c.live) old; counted = bs; total = total }) counted

  pub queue_less : (at old m).is_queued ≡ true → queued_count mid + 1 ≡ queued_count old
  queue_less on =
      ap (λ l. queued_count l + 1) k.is
      ∙ flag_less (λ (c : Count). c.is_queued) old m k.now blank inside on k.off

  off_both : (b : Bool) → (k.now).is_queued && b ≡ false
  off_both b = ap (λ a. a && b) k.off

  -- the next number is the first that may rise
  pub taken_up : (falling : ℕ) → AreQueued old m falling → m ≢ no_number → AreQueued mid (next_of old m) falling
  taken_up falling q some =
      let top = up_top old m falling q some in
      subst (λ l. AreQueued l (next_of old m) falling) (sym k.is)
      (record {
        fits = omega (arith, q.fits, length-set old m k.now);
        up = stack_pop (next_of old) _ no_number m (rises old) _ some
            (field_same old m k.now inside (λ (c : Count). c.next) k.next)
            (ap (λ (c : Count). c.is_queued && not c.is_counted) (at_set old m k.now inside m refl) ∙ off_both _)
            (λ y ne. ap (λ (c : Count). c.is_queued && not c.is_counted) (at_other old m k.now inside y ne)) q.up;
        down = stack_same (next_of old) _ no_number falling (falls old) _
            (λ y _. field_same old m k.now inside (λ (c : Count). c.next) k.next y)
            (field_same old m k.now inside (λ (c : Count). c.is_queued && c.is_counted)
            (off_both _ ∙ sym (ap (λ a. a && (at old m).is_counted) top.0 ∙ top.1))) q.down;
        rest = rest_set old m k.now inside m falling q (λ _. k.settled);
      })

  -- or the first that may fall
  pub taken_down : (rising : ℕ) → AreQueued old rising m → m ≢ no_number → AreQueued mid rising (next_of old m)
  taken_down rising q some =
      let top = down_top old rising m q some in
      subst (λ l. AreQueued l rising (next_of old m)) (sym k.is)
      (record {
        fits = omega (arith, q.fits, length-set old m k.now);
        up = stack_same (next_of old) _ no_number rising (rises old) _
            (λ y _. field_same old m k.now inside (λ (c : Count). c.next) k.next y)
            (field_same old m k.now inside (λ (c : Count). c.is_queued && not c.is_counted)
            (off_both _ ∙ sym (ap (λ a. a && not (at old m).is_counted) top.0 ∙ ap not top.1))) q.up;
        down = stack_pop (next_of old) _ no_number m (falls old) _ some
            (field_same old m k.now inside (λ (c : Count). c.next) k.next)
            (ap (λ (c : Count). c.is_queued && c.is_counted) (at_set old m k.now inside m refl) ∙ off_both _)
            (λ y ne. ap (λ (c : Count). c.is_queued && c.is_counted) (at_other old m k.now inside y ne)) q.down;
        rest = rest_set old m k.now inside rising m q (λ _. k.settled);
      })

  -- a stale number leaves less to do
  pub rising_stale : (at old m).is_queued ≡ true → (k.now).is_counted ≡ (at old m).is_counted
      → rising_work mid < rising_work old
  rising_stale on same =
      work_queued (uncounted_count (seen old 0).counted) (uncounted_count (seen mid 0).counted)
      (length old) (length mid)
      (queued_count old) (queued_count mid) (ap (λ v. uncounted_count v.counted) (seen_same 0 same)) taken_size
      (queue_less on)

  pub falling_stale : (at old m).is_queued ≡ true → (k.now).is_counted ≡ (at old m).is_counted
      → falling_work mid < falling_work old
  falling_stale on same =
      work_queued (counted_count (seen old 0).counted) (counted_count (seen mid 0).counted) (length old) (length mid)
      (queued_count old) (queued_count mid) (ap (λ v. counted_count v.counted) (seen_same 0 same)) taken_size
      (queue_less on)

  inside_flags : m < length (seen old 0).counted
  inside_flags = omega (arith, inside, length-map old (λ (c : Count). c.is_counted))

  flag_was : get_or (seen old 0).counted m false ≡ (at old m).is_counted
  flag_was = field_at (λ (c : Count). c.is_counted) old m

  -- so does a number that came to be counted, whatever is queued then
  pub rising_fewer : (new : List Count) → (at old m).is_counted ≡ false → (k.now).is_counted ≡ true
      → (seen new 0).counted ≡ (seen mid 0).counted → length new ≡ length mid → rising_work new < rising_work old
  rising_fewer new was is same size =
      work_changed (uncounted_count (seen old 0).counted) (uncounted_count (seen new 0).counted)
      (length old) (length new)
      (queued_count old) (queued_count new)
      (ap (λ bs. uncounted_count bs + 1) (same ∙ counted_set true is)
      ∙ flag_less not (seen old 0).counted m true false inside_flags (ap not (flag_was ∙ was)) refl)
      (size ∙ taken_size) (count_by-le-length (λ (c : Count). c.is_queued) new)

  -- and a number that is counted no more
  pub falling_fewer : (new : List Count) → (at old m).is_counted ≡ true → (k.now).is_counted ≡ false
      → (seen new 0).counted ≡ (seen mid 0).counted → length new ≡ length mid → falling_work new < falling_work old
  falling_fewer new was is same size =
      work_changed (counted_count (seen old 0).counted) (counted_count (seen new 0).counted) (length old) (length new)
      (queued_count old) (queued_count new)
      (ap (λ bs. counted_count bs + 1) (same ∙ counted_set false is)
      ∙ flag_less (λ b. b) (seen old 0).counted m false false inside_flags (flag_was ∙ was) refl)
      (size ∙ taken_size) (count_by-le-length (λ (c : Count). c.is_queued) new)

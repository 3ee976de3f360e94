-- What is kept for all numbers, of which the last ones were not written, and how it is written.
use Rattle.std.proofs.Common.{◌≡◌, ℕ, zero, suc, ◌+◌, ◌-◌, ◌^◌, ◌<◌, ◌≤◌, false, List, [], ◌∷◌, ◌++◌}
use Rattle.std.proofs.Common.{length, take, drop, replicate}
use Rattle.std.proofs.Common.{refl, sym, ◌∙◌, ap, subst, arith}
use Rattle.std.proofs.lemmas.List.{append-nil, append_assoc, length-append, length-replicate, replicate_more}
use Rattle.sd_counts.specs.declared.count.Count.{Count}
use Rattle.sd_counts.specs.Counts.{Counts, Adds, IsRelisted, counted_at}
use Rattle.sd_counts.specs.Queued.{blank, at, seen, with_blanks, AreQueued, AreKept}
use Rattle.sd_counts.specs.Uses.{uses_in}
use Rattle.sd_counts.proofs.Adding.{counted_is}
use Rattle.sd_counts.proofs.Whole.{whole_slice, queued_pushed}

-- there is something for each number
pub filled_size : (written : List Count) (size : ℕ) → length written ≤ size → length (with_blanks written size) ≡ size
filled_size written size inside =
    omega (
      arith,
      inside,
      length-append written (replicate (size - length written) blank),
      length-replicate (size - length written) blank,
    )

-- where all is written nothing is added
filled_full : (written : List Count) (size : ℕ) → length written ≡ size → with_blanks written size ≡ written
filled_full written size full =
    let none : size - length written ≡ 0 = omega (arith, full) in
    ap (λ k. written ++ replicate k blank) none ∙ append-nil written

-- a number more
filled_more : (written : List Count) (size : ℕ) → length written ≤ size
    → with_blanks written (size + 1) ≡ with_blanks written size ++ blank ∷ []
filled_more written size inside =
    let more : size + 1 - length written ≡ size - length written + 1 = omega (arith, inside) in
    ap (λ k. written ++ replicate k blank) more
    ∙ ap (λ l. written ++ l) (sym (replicate_more (size - length written) blank))
    ∙ sym (append_assoc written (replicate (size - length written) blank) (blank ∷ []))

-- what was not written is blank
at_blanks : (k n : ℕ) → at (replicate k blank) n ≡ blank
at_blanks zero n = refl
at_blanks (suc k) zero = refl
at_blanks (suc k) (suc n) = at_blanks k n

at_filled : (written : List Count) (k n : ℕ) → at (written ++ replicate k blank) n ≡ at written n
at_filled [] k n = at_blanks k n
at_filled (c ∷ cs) k zero = refl
at_filled (c ∷ cs) k (suc n) = at_filled cs k n

at_past : (written : List Count) (n : ℕ) → length written ≤ n → at written n ≡ blank
at_past [] n past = refl
at_past (c ∷ cs) zero past = absurd (omega (arith, past))
at_past (c ∷ cs) (suc n) past = at_past cs n (omega (arith, past))

-- a number is not counted whose count was not written
pub not_written : (written : List Count) (size total n : ℕ) → length written ≤ n
    → counted_at (seen (with_blanks written size) total) n ≡ false
not_written written size total n past =
    counted_is (with_blanks written size) total n
    ∙ ap (λ (c : Count). c.is_counted) (at_filled written (size - length written) n ∙ at_past written n past)

-- a number more is kept with no writing
pub kept_grown : (written new : List Count) (size room more rising falling number : ℕ)
    → AreKept written size room rising falling → new ≡ written → number ≡ size → number + 1 < 2 ^ 32 → number < more
    → AreKept new (number + 1) more rising falling
kept_grown written new size room more rising falling number k same last few fits =
    record {
      queued = subst (λ l. AreQueued (with_blanks l (number + 1)) rising falling) (sym same)
          (subst (λ n. AreQueued (with_blanks written (n + 1)) rising falling) (sym last)
          (subst (λ l. AreQueued l rising falling) (sym (filled_more written size k.inside))
          (queued_pushed (with_blanks written size) rising falling
          (omega (arith, filled_size written size k.inside, last, few)) k.queued)));
      inside = omega (arith, k.inside, last, ap length same);
      fits = omega (arith, fits);
    }

-- all is written
pub record AreFull (written : List Count) (size room rising falling : ℕ) : Type 0 where
  pub queued : AreQueued written rising falling
  pub full : length written ≡ size
  pub fits : size ≤ room

-- so it is after `fill`
pub full_filled : (written items : List Count) (size room more rising falling : ℕ)
    → AreKept written size room rising falling → items ≡ with_blanks written size → room ≤ more
    → AreFull items size more rising falling
full_filled written items size room more rising falling k filled bigger =
    record {
      queued = subst (λ l. AreQueued l rising falling) (sym filled) k.queued;
      full = ap length filled ∙ filled_size written size k.inside;
      fits = omega (arith, k.fits, bigger);
    }

-- and after a slice of it was lent
pub full_lent : (items lent new : List Count) (len size room rising falling rising' falling' : ℕ) → lent ≡ items
    → length lent ≡ len → length new ≡ length lent
    → (AreQueued lent rising falling → AreQueued new rising' falling') → AreFull items size room rising falling
    → AreFull (take len (new ++ drop (length new) items)) size room rising' falling'
full_lent items lent new len size room rising falling rising' falling' same whole long step f =
    let slice = whole_slice new items len (long ∙ whole) in
    record {
      queued = subst (λ l. AreQueued l rising' falling') (sym slice)
          (step (subst (λ l. AreQueued l rising falling) (sym same) f.queued));
      full = ap length slice ∙ long ∙ ap length same ∙ f.full;
      fits = f.fits;
    }

pub kept_full : (items : List Count) (size room rising falling : ℕ) → AreFull items size room rising falling
    → AreKept items size room rising falling
kept_full items size room rising falling f =
    record {
      queued = subst (λ l. AreQueued l rising falling) (sym (filled_full items size f.full)) f.queued;
      inside = omega (arith, f.full);
      fits = f.fits;
    }

-- what is seen then is the slice
pub seen_lent : (items lent new : List Count) (len size room total rising falling : ℕ) → lent ≡ items
    → length lent ≡ len → length new ≡ length lent → AreFull items size room rising falling
    → seen (with_blanks (take len (new ++ drop (length new) items)) size) total ≡ seen new total
seen_lent items lent new len size room total rising falling same whole long f =
    ap (λ l. seen (with_blanks l size) total) (whole_slice new items len (long ∙ whole))
    ∙ ap (λ l. seen l total) (filled_full new size (long ∙ ap length same ∙ f.full))

-- uses that were added, where the total plays no part
pub adds_seen : (v w : Counts) (a b : List Count) (total : ℕ) (more : ℕ → ℕ) → seen a total ≡ v → w ≡ seen b total
    → Adds (seen a 0) (seen b 0) more → Adds v w more
adds_seen v w a b total more before after h =
    subst (λ x. Adds x w more) before
    (subst (λ x. Adds (seen a total) x more) (sym after)
    (record { live = h.live; counted = h.counted; size = h.size; total = refl }))

-- uses more, then uses less, and another total
pub relisted_seen : (v w : Counts) (a b d : List Count) (total : ℕ) (old new : List (ℕ × ℕ)) → seen a total ≡ v
    → w ≡ seen d (total - length old + length new) → Adds (seen a 0) (seen b 0) (λ c. uses_in c new)
    → Adds (seen d 0) (seen b 0) (λ c. uses_in c old) → length old ≤ v.total → IsRelisted v w old new
relisted_seen v w a b d total old new before after raised lowered listed =
    subst (λ x. IsRelisted x w old new) before
    (subst (λ x. IsRelisted (seen a total) x old new) (sym after)
    (record {
      live = λ n. sym (lowered.live n) ∙ raised.live n;
      counted = sym lowered.counted ∙ raised.counted;
      size = sym lowered.size ∙ raised.size;
      total = omega (arith, listed, ap (λ x. x.total) before);
    }))

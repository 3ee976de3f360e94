-- One number of the counts changes: it keeps its stack, it is put on one, or it is taken off.
use Rattle.std.proofs.Common.{◌≡◌, ◌≢◌, ℕ, ◌<◌, Bool, true, false, ◌&&◌, not, List, length}
use Rattle.std.proofs.Common.{refl, sym, ◌∙◌, ap, subst, arith}
use Rattle.std.proofs.Math.ListN.{set}
use Rattle.std.proofs.lemmas.Bool.{cases_eq}
use Rattle.std.proofs.lemmas.List.{get_or-set_same, get_or-set_other, length-set}
use Rattle.sd_runs.proofs.Places.{by_cases}
use Rattle.sd_counts.specs.declared.count.Count.{Count}
use Rattle.sd_counts.specs.Queued.{no_number, blank, at, next_of, rises, falls, IsSettledAt, AreQueued}
use Rattle.sd_counts.proofs.OnStack.{not_both, stack_same, stack_push}

module _ (counts : List Count) (m : ℕ) (t : Count) (inside : m < length counts) where
  pub at_set : (y : ℕ) → y ≡ m → at (set counts m t) y ≡ t
  at_set y e = ap (at (set counts m t)) e ∙ get_or-set_same counts m t blank inside

  pub at_other : (y : ℕ) → y ≢ m → at (set counts m t) y ≡ at counts y
  at_other y ne = get_or-set_other counts m y t blank ne

  -- what the new one has as the old one had, each number has as before
  pub field_same : {X : Type 0} (f : Count → X) → f t ≡ f (at counts m) → (y : ℕ)
      → f (at (set counts m t) y) ≡ f (at counts y)
  field_same f e y =
      by_cases
      (λ same. ap f (at_set y same) ∙ e ∙ ap (λ k. f (at counts k)) (sym same))
      (λ ne. ap f (at_other y ne))
      (cases_eq y m)

  pub rest_set : (rising falling : ℕ) → AreQueued counts rising falling → (t.is_queued ≡ false → IsSettledAt t)
      → (y : ℕ) → (at (set counts m t) y).is_queued ≡ false → IsSettledAt (at (set counts m t) y)
  rest_set rising falling q settled y off =
      by_cases
      (λ same. subst IsSettledAt (sym (at_set y same)) (settled (ap (λ c. c.is_queued) (sym (at_set y same)) ∙ off)))
      (λ ne. subst IsSettledAt (sym (at_other y ne)) (q.rest y (ap (λ c. c.is_queued) (sym (at_other y ne)) ∙ off)))
      (cases_eq y m)

  module _ (rising falling : ℕ) (q : AreQueued counts rising falling) where
    -- the number stays where it is
    pub queued_same : t.next ≡ (at counts m).next → t.is_counted ≡ (at counts m).is_counted
        → t.is_queued ≡ (at counts m).is_queued → (t.is_queued ≡ false → IsSettledAt t)
        → AreQueued (set counts m t) rising falling
    queued_same next counted queued settled =
        let both : (b : Bool → Bool) → t.is_queued && b t.is_counted
        ≡ (at counts m).is_queued && b (at counts m).is_counted = λ b. cc in
        record {
          fits = omega (arith, q.fits, length-set counts m t);
          up = stack_same (next_of counts) _ no_number rising (rises counts) _
              (λ y _. field_same (λ (c : Count). c.next) next y)
              (field_same (λ (c : Count). c.is_queued && not c.is_counted) (both not)) q.up;
          down = stack_same (next_of counts) _ no_number falling (falls counts) _
              (λ y _. field_same (λ (c : Count). c.next) next y)
              (field_same (λ (c : Count). c.is_queued && c.is_counted) (both (λ b. b))) q.down;
          rest = rest_set rising falling q settled;
        }

    number_fits : m ≢ no_number
    number_fits e = omega (arith, q.fits)

    module _ (was_off : (at counts m).is_queued ≡ false) (on : t.is_queued ≡ true) where
      links : (f : Count → Bool) → f (at counts m) ≡ false → (y : ℕ) → f (at counts y) ≡ true
          → next_of (set counts m t) y ≡ next_of counts y
      links f off y here =
          ap (λ (c : Count). c.next)
          (at_other y (λ same. not_both (ap (λ k. f (at counts k)) same ∙ off) here))

      off_both : (b : Bool) → (at counts m).is_queued && b ≡ false
      off_both b = ap (λ a. a && b) was_off

      -- the number is put on the stack of those that may rise
      pub queued_up : (at counts m).is_counted ≡ false → t.is_counted ≡ false → t.next ≡ rising
          → AreQueued (set counts m t) m falling
      queued_up was_not not_counted next =
          record {
            fits = omega (arith, q.fits, length-set counts m t);
            up = stack_push (next_of counts) _ no_number rising m (rises counts) _ number_fits (off_both _)
                (ap (λ (c : Count). c.next) (at_set m refl) ∙ next)
                (links (λ c. c.is_queued && not c.is_counted) (off_both _))
                (ap (λ (c : Count). c.is_queued && not c.is_counted) (at_set m refl)
                ∙ ap (λ a. a && not t.is_counted) on ∙ ap not not_counted)
                (λ y ne. ap (λ (c : Count). c.is_queued && not c.is_counted) (at_other y ne)) q.up;
            down = stack_same (next_of counts) _ no_number falling (falls counts) _
                (links (λ c. c.is_queued && c.is_counted) (off_both _))
                (field_same (λ (c : Count). c.is_queued && c.is_counted)
                (ap (λ a. a && t.is_counted) on ∙ not_counted ∙ sym (off_both _))) q.down;
            rest = rest_set rising falling q (λ off. absurd (not_both off on));
          }

      -- or on that of those that may fall
      pub queued_down : (at counts m).is_counted ≡ true → t.is_counted ≡ true → t.next ≡ falling
          → AreQueued (set counts m t) rising m
      queued_down was counted next =
          record {
            fits = omega (arith, q.fits, length-set counts m t);
            up = stack_same (next_of counts) _ no_number rising (rises counts) _
                (links (λ c. c.is_queued && not c.is_counted) (off_both _))
                (field_same (λ (c : Count). c.is_queued && not c.is_counted)
                (ap (λ a. a && not t.is_counted) on ∙ ap not counted ∙ sym (off_both _))) q.up;
            down = stack_push (next_of counts) _ no_number falling m (falls counts) _ number_fits (off_both _)
                (ap (λ (c : Count). c.next) (at_set m refl) ∙ next)
                (links (λ c. c.is_queued && c.is_counted) (off_both _))
                (ap (λ (c : Count). c.is_queued && c.is_counted) (at_set m refl)
                ∙ ap (λ a. a && t.is_counted) on ∙ counted)
                (λ y ne. ap (λ (c : Count). c.is_queued && c.is_counted) (at_other y ne)) q.down;
            rest = rest_set rising falling q (λ off. absurd (not_both off on));
          }

-- The counts as a whole: a slice of them all, a number more, and nothing queued.
use Rattle.std.proofs.Common.{◌≡◌, ℕ, zero, suc, ◌+◌, ◌<◌, ◌^◌, Bool, true, false, ◌&&◌, not, List, [], ◌∷◌, ◌++◌}
use Rattle.std.proofs.Common.{length, take, drop}
use Rattle.std.proofs.Common.{refl, sym, ◌∙◌, ap, subst, arith}
use Rattle.std.proofs.Math.Seq.{take-append_seam}
use Rattle.std.proofs.lemmas.List.{length-append}
use Rattle.sd_counts.specs.declared.count.Count.{Count}
use Rattle.sd_counts.specs.Counts.{IsSettled}
use Rattle.sd_counts.specs.Queued.{no_number, blank, at, seen, next_of, rises, falls, IsSettledAt, AreQueued}
use Rattle.sd_counts.proofs.Adding.{live_is, counted_is}
use Rattle.sd_counts.proofs.OnStack.{stack_same, stack_none}

-- a slice of a whole vector, written back
pub whole_slice : {X : Type 0} (new old : List X) (size : ℕ) → length new ≡ size
    → take size (new ++ drop (length new) old) ≡ new
whole_slice new old size e =
    ap (λ k. take k (new ++ drop (length new) old)) (sym e) ∙ take-append_seam new (drop (length new) old)

-- a number more changes no number
at_pushed : (counts : List Count) (n : ℕ) → at (counts ++ blank ∷ []) n ≡ at counts n
at_pushed [] zero = refl
at_pushed [] (suc n) = refl
at_pushed (c ∷ cs) zero = refl
at_pushed (c ∷ cs) (suc n) = at_pushed cs n

pub queued_pushed : (counts : List Count) (rising falling : ℕ) → length counts + 1 < 2 ^ 32
    → AreQueued counts rising falling → AreQueued (counts ++ blank ∷ []) rising falling
queued_pushed counts rising falling room q =
    record {
      fits = omega (arith, room, length-append counts (blank ∷ []));
      up = stack_same (next_of counts) _ no_number rising (rises counts) _
          (λ y _. ap (λ (c : Count). c.next) (at_pushed counts y))
          (λ y. ap (λ (c : Count). c.is_queued && not c.is_counted) (at_pushed counts y)) q.up;
      down = stack_same (next_of counts) _ no_number falling (falls counts) _
          (λ y _. ap (λ (c : Count). c.next) (at_pushed counts y))
          (λ y. ap (λ (c : Count). c.is_queued && c.is_counted) (at_pushed counts y)) q.down;
      rest = λ n off. subst IsSettledAt (sym (at_pushed counts n))
          (q.rest n (ap (λ (c : Count). c.is_queued) (sym (at_pushed counts n)) ∙ off));
    }

-- where nothing is queued, each number is settled
one_settled : (counts : List Count) (n : ℕ) → AreQueued counts no_number no_number → (queued counted : Bool)
    → (at counts n).is_queued ≡ queued → (at counts n).is_counted ≡ counted → IsSettledAt (at counts n)
one_settled counts n q false counted eq ec = q.rest n eq
one_settled counts n q true true eq ec =
    absurd (stack_none (next_of counts) no_number no_number (falls counts) refl q.down n
    (ap (λ b. b && (at counts n).is_counted) eq ∙ ec))
one_settled counts n q true false eq ec =
    absurd (stack_none (next_of counts) no_number no_number (rises counts) refl q.up n
    (ap (λ b. b && not (at counts n).is_counted) eq ∙ ap not ec))

pub all_settled : (counts : List Count) (total : ℕ) → AreQueued counts no_number no_number
    → IsSettled (seen counts total)
all_settled counts total q =
    record {
      used = λ n on. omega (
        arith,
        live_is counts total n,
        (one_settled counts n q (at counts n).is_queued (at counts n).is_counted refl refl).used
            (sym (counted_is counts total n) ∙ on),
      );
      unused = λ n off. live_is counts total n
          ∙ (one_settled counts n q (at counts n).is_queued (at counts n).is_counted refl refl).unused
          (sym (counted_is counts total n) ∙ off);
    }

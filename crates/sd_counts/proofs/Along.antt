-- The uses of a list of pairs, added or taken away pair by pair.
use Rattle.std.proofs.Common.{◌≡◌, ℕ, zero, suc, ◌+◌, ◌<◌, ◌≤◌, ◌^◌, List, [], ◌∷◌, length, get_or, take}
use Rattle.std.proofs.Common.{refl, sym, ◌∙◌, subst, arith}
use Rattle.std.proofs.lemmas.List.{take_all}
use Rattle.std.proofs.lemmas.List.Sums.{sum_by_more, sum_by_more_le}
use Rattle.sd_counts.specs.declared.count.Count.{Count}
use Rattle.sd_counts.specs.Counts.{Adds, live_at}
use Rattle.sd_counts.specs.Queued.{AreQueued, seen}
use Rattle.sd_counts.specs.Uses.{AreWithin, IsWithin, uses_in, uses_of_pair}
use Rattle.sd_counts.proofs.Adding.{adds_both, adds_none}

-- the uses of the pairs of a list were added
pub record HasRaised (old new : List Count) (top top' : ℕ) (list : List (ℕ × ℕ)) : Type 0 where
  pub queued : (falling : ℕ) → AreQueued old top falling → AreQueued new top' falling
  pub raised : Adds (seen old 0) (seen new 0) (λ c. uses_in c list)
  pub size : length new ≡ length old

pub raised_none : (counts : List Count) (top : ℕ) → HasRaised counts counts top top []
raised_none counts top =
    record { queued = λ falling q. q; raised = adds_none (seen counts 0) (λ _. 0) (λ _. refl); size = refl }

-- what holds of a list holds of the pair at each place
pub pair_within : (size : ℕ) (list : List (ℕ × ℕ)) (i : ℕ) (d : ℕ × ℕ) → i < length list → AreWithin size list →
    IsWithin size (get_or list i d).0 × IsWithin size (get_or list i d).1
pair_within size [] i d h k = absurd (omega arith)
pair_within size (e ∷ list) zero d h k = k.0
pair_within size (e ∷ list) (suc i) d h k = pair_within size list i d (omega arith) k.1

module _ (old new : List Count) (top top' : ℕ) (list : List (ℕ × ℕ)) (i : ℕ) (d : ℕ × ℕ)
    (h : HasRaised old new top top' (take i list)) (inside : i < length list) where
  -- the next pair is within, and there is room for its uses
  pub next_within : AreWithin (length old) list
      → IsWithin (length new) (get_or list i d).0 × IsWithin (length new) (get_or list i d).1
  next_within all =
      subst (λ k. IsWithin k (get_or list i d).0 × IsWithin k (get_or list i d).1) (sym h.size)
      (pair_within (length old) list i d inside all)

  pub next_room : ((n : ℕ) → live_at (seen old 0) n + uses_in (2050 + n) list < 2 ^ 64) → (n : ℕ)
      → live_at (seen new 0) n + uses_of_pair (2050 + n) (get_or list i d) < 2 ^ 64
  next_room room n =
      omega (
        arith,
        room n,
        (h.raised).live n,
        sum_by_more_le (uses_of_pair (2050 + n)) list i d inside,
      )

  -- one pair more
  pub next_raised : (newer : List Count) (top'' : ℕ)
      → ((falling : ℕ) → AreQueued new top' falling → AreQueued newer top'' falling)
      → Adds (seen new 0) (seen newer 0) (λ c. uses_of_pair c (get_or list i d)) → length newer ≡ length new
      → HasRaised old newer top top'' (take (i + 1) list)
  next_raised newer top'' queued more size =
      record {
        queued = λ falling q. queued falling (h.queued falling q);
        raised = adds_both (seen old 0) (seen new 0) (seen newer 0) (λ c. uses_in c (take i list))
            (λ c. uses_of_pair c (get_or list i d)) (λ c. uses_in c (take (i + 1) list)) h.raised more
            (λ c. sum_by_more (uses_of_pair c) list i d inside);
        size = size ∙ h.size;
      }

-- all pairs
pub all_raised : (old new : List Count) (top top' : ℕ) (list : List (ℕ × ℕ)) (i : ℕ)
    → HasRaised old new top top' (take i list) → length list ≤ i → HasRaised old new top top' list
all_raised old new top top' list i h done = subst (HasRaised old new top top') (take_all i list done) h

-- the uses of the pairs of a list were taken away
pub record HasLowered (old new : List Count) (top top' : ℕ) (list : List (ℕ × ℕ)) : Type 0 where
  pub queued : (rising : ℕ) → AreQueued old rising top → AreQueued new rising top'
  pub lowered : Adds (seen new 0) (seen old 0) (λ c. uses_in c list)

pub lowered_none : (counts : List Count) (top : ℕ) → HasLowered counts counts top top []
lowered_none counts top =
    record { queued = λ rising q. q; lowered = adds_none (seen counts 0) (λ _. 0) (λ _. refl) }

module _ (old new : List Count) (top top' : ℕ) (list : List (ℕ × ℕ)) (i : ℕ) (d : ℕ × ℕ)
    (h : HasLowered old new top top' (take i list)) (inside : i < length list) where
  -- the codes of the next pair are used as often as they stand there
  pub next_used : ((n : ℕ) → uses_in (2050 + n) list ≤ live_at (seen old 0) n) → (n : ℕ)
      → uses_of_pair (2050 + n) (get_or list i d) ≤ live_at (seen new 0) n
  next_used used n =
      omega (
        arith,
        used n,
        (h.lowered).live n,
        sum_by_more_le (uses_of_pair (2050 + n)) list i d inside,
      )

  -- one pair more
  pub next_lowered : (newer : List Count) (top'' : ℕ)
      → ((rising : ℕ) → AreQueued new rising top' → AreQueued newer rising top'')
      → Adds (seen newer 0) (seen new 0) (λ c. uses_of_pair c (get_or list i d))
      → HasLowered old newer top top'' (take (i + 1) list)
  next_lowered newer top'' queued more =
      record {
        queued = λ rising q. queued rising (h.queued rising q);
        lowered = adds_both (seen newer 0) (seen new 0) (seen old 0) (λ c. uses_of_pair c (get_or list i d))
            (λ c. uses_in c (take i list)) (λ c. uses_in c (take (i + 1) list)) more h.lowered
            (λ c. omega (arith, sum_by_more (uses_of_pair c) list i d inside));
      }

pub all_lowered : (old new : List Count) (top top' : ℕ) (list : List (ℕ × ℕ)) (i : ℕ)
    → HasLowered old new top top' (take i list) → length list ≤ i → HasLowered old new top top' list
all_lowered old new top top' list i h done = subst (HasLowered old new top top') (take_all i list done) h

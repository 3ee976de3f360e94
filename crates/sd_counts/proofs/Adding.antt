-- Uses that are added to the counts, one after another.
use Rattle.std.proofs.Common.{◌≡◌, ◌≢◌, ℕ, zero, suc, ◌+◌, ◌-◌, ◌<◌, ◌≤◌, Bool, true, false, cond, List, [], ◌∷◌}
use Rattle.std.proofs.Common.{length, map, get_or, ◌==◌}
use Rattle.std.proofs.Common.{refl, sym, ◌∙◌, ap, arith}
use Rattle.std.proofs.Math.ListN.{set}
use Rattle.std.proofs.lemmas.Bool.{cases_eq}
use Rattle.std.proofs.lemmas.List.{length-set, length-map}
use Rattle.sd_runs.proofs.Places.{by_cases, eqb_same, not_equal, number_inside}
use Rattle.sd_counts.specs.declared.count.Count.{Count}
use Rattle.sd_counts.specs.Counts.{Counts, Adds, live_at, counted_at}
use Rattle.sd_counts.specs.Queued.{blank, at, seen, IsSettledAt}
use Rattle.sd_counts.specs.Uses.{counts_one}
use Rattle.sd_counts.proofs.OnStack.{not_both}
use Rattle.sd_counts.proofs.Queueing.{at_set, at_other}

-- a field of what is kept for a number
pub field_at : {X : Type 0} (f : Count → X) (counts : List Count) (n : ℕ)
    → get_or (map f counts) n (f blank) ≡ f (at counts n)
field_at f [] n = refl
field_at f (c ∷ cs) zero = refl
field_at f (c ∷ cs) (suc n) = field_at f cs n

pub live_is : (counts : List Count) (total n : ℕ) → live_at (seen counts total) n ≡ (at counts n).live
live_is counts total n = field_at (λ (c : Count). c.live) counts n

pub counted_is : (counts : List Count) (total n : ℕ) → counted_at (seen counts total) n ≡ (at counts n).is_counted
counted_is counts total n = field_at (λ (c : Count). c.is_counted) counts n

-- a new element with the old field changes no field
pub fields_kept : {X : Type 0} (f : Count → X) (counts : List Count) (m : ℕ) (t : Count) → f t ≡ f (at counts m)
    → map f (set counts m t) ≡ map f counts
fields_kept f [] m t e = refl
fields_kept f (c ∷ cs) zero t e = ap (λ x. x ∷ map f cs) e
fields_kept f (c ∷ cs) (suc m) t e = ap (λ xs. f c ∷ xs) (fields_kept f cs m t e)

-- a code counts once for itself, and not for another
pub counts_same : (c code : ℕ) → code ≡ c → counts_one c code ≡ 1
counts_same c code e = ap (λ b. cond b 1 0) (ap (λ m. m == c) e ∙ eqb_same c)

pub counts_other : (c code : ℕ) → ¬ (code ≡ c) → counts_one c code ≡ 0
counts_other c code differ = ap (λ b. cond b 1 0) (not_equal code c differ)

-- nothing is added by no codes
pub adds_none : (v : Counts) (more : ℕ → ℕ) → ((c : ℕ) → more c ≡ 0) → Adds v v more
adds_none v more h =
    record { live = λ n. omega (arith, h (2050 + n)); counted = refl; size = refl; total = refl }

-- what is added one after another
pub adds_both : (a b d : Counts) (f g more : ℕ → ℕ) → Adds a b f → Adds b d g → ((c : ℕ) → more c ≡ f c + g c)
    → Adds a d more
adds_both a b d f g more h k sum =
    record {
      live = λ n. omega (arith, h.live n, k.live n, sum (2050 + n));
      counted = k.counted ∙ h.counted;
      size = k.size ∙ h.size;
      total = k.total ∙ h.total;
    }

-- what a code that is too small for a number adds
pub adds_small : (v : Counts) (code : ℕ) → code < 2050 → Adds v v (λ c. counts_one c code)
adds_small v code small =
    record {
      live = λ n. omega (arith, counts_other (2050 + n) code (λ e. omega (arith, e)));
      counted = refl;
      size = refl;
      total = refl;
    }

module _ (counts : List Count) (code : ℕ) (t : Count) (least : 2050 ≤ code)
    (inside : code - 2050 < length counts) (counted : t.is_counted ≡ (at counts (code - 2050)).is_counted) where
  same_counted : map (λ (c : Count). c.is_counted) (set counts (code - 2050) t)
      ≡ map (λ (c : Count). c.is_counted) counts
  same_counted = fields_kept (λ (c : Count). c.is_counted) counts (code - 2050) t counted

  same_size : length (map (λ (c : Count). c.live) (set counts (code - 2050) t))
      ≡ length (map (λ (c : Count). c.live) counts)
  same_size = omega (
    arith,
    length-map (set counts (code - 2050) t) (λ (c : Count). c.live),
    length-map counts (λ (c : Count). c.live),
    length-set counts (code - 2050) t,
  )

  at_code : (n : ℕ) → n ≡ code - 2050 → (at (set counts (code - 2050) t) n).live ≡ t.live
  at_code n e = ap (λ (c : Count). c.live) (at_set counts (code - 2050) t inside n e)

  was_code : (n : ℕ) → n ≡ code - 2050 → (at counts n).live ≡ (at counts (code - 2050)).live
  was_code n e = ap (λ k. (at counts k).live) e

  not_code : (n : ℕ) → n ≢ code - 2050 → (at (set counts (code - 2050) t) n).live ≡ (at counts n).live
  not_code n ne = ap (λ (c : Count). c.live) (at_other counts (code - 2050) t inside n ne)

  -- one use more
  pub adds_one : (total : ℕ) → t.live ≡ (at counts (code - 2050)).live + 1
      → Adds (seen counts total) (seen (set counts (code - 2050) t) total) (λ c. counts_one c code)
  adds_one total live =
      record {
        live = λ n. by_cases
            (λ e. omega (
              arith,
              live_is (set counts (code - 2050) t) total n,
              live_is counts total n,
              at_code n e,
              was_code n e,
              live,
              counts_same (2050 + n) code (omega (arith, e, least)),
            ))
            (λ ne. omega (
              arith,
              live_is (set counts (code - 2050) t) total n,
              live_is counts total n,
              not_code n ne,
              counts_other (2050 + n) code (λ e. ne (omega (arith, e))),
            ))
            (cases_eq n (code - 2050));
        counted = same_counted;
        size = same_size;
        total = refl;
      }

  -- one use less
  pub drops_one : (total : ℕ) → t.live + 1 ≡ (at counts (code - 2050)).live
      → Adds (seen (set counts (code - 2050) t) total) (seen counts total) (λ c. counts_one c code)
  drops_one total live =
      record {
        live = λ n. by_cases
            (λ e. omega (
              arith,
              live_is (set counts (code - 2050) t) total n,
              live_is counts total n,
              at_code n e,
              was_code n e,
              live,
              counts_same (2050 + n) code (omega (arith, e, least)),
            ))
            (λ ne. omega (
              arith,
              live_is (set counts (code - 2050) t) total n,
              live_is counts total n,
              not_code n ne,
              counts_other (2050 + n) code (λ e. ne (omega (arith, e))),
            ))
            (cases_eq n (code - 2050));
        counted = sym same_counted;
        size = sym same_size;
        total = refl;
      }

-- a number that is counted and used is settled
pub settled_used : (t : Count) → t.is_counted ≡ true → 0 < t.live → IsSettledAt t
settled_used t counted used = record { used = λ _. used; unused = λ not. absurd (not_both not counted) }

-- a number that was settled and used is counted
pub was_counted : (t : Count) (b : Bool) → t.is_counted ≡ b → IsSettledAt t → 0 < t.live → b ≡ true
was_counted t true e s used = refl
was_counted t false e s used = absurd (omega (arith, s.unused e))

-- A number that was settled and used is settled with one use less, if that is a use or it is not counted.
pub settled_less : (old t : Count) → IsSettledAt old → 0 < old.live → t.is_counted ≡ old.is_counted
    → (t.is_counted ≡ true → 0 < t.live) → IsSettledAt t
settled_less old t s used same still =
    let counted : t.is_counted ≡ true = same ∙ was_counted old old.is_counted refl s used in
    settled_used t counted (still counted)

-- only a number that has a count is used
pub used_inside : (counts : List Count) (total n : ℕ) → 0 < live_at (seen counts total) n → n < length counts
used_inside counts total n used =
    omega (
      arith,
      number_inside (map (λ (c : Count). c.live) counts) n used,
      length-map counts (λ (c : Count). c.live),
    )

-- Further places for lengths, and an arena of no runs.
use Rattle.std.proofs.Common.{◌≡◌, ℕ, suc, zero, ◌<◌, ◌^◌, List, [], ◌∷◌, ◌++◌, get_or}
use Rattle.std.proofs.Common.{length-append, refl, sym, subst, ◌∙◌, arith}
use Rattle.sd_runs.specs.Fields.{no_run}
use Rattle.sd_runs.specs.Padded.{IsPadded}
use Rattle.sd_runs.specs.Stored.{HoldsRuns}

-- what is read past the end stays what it was
read_past : (xs : List ℕ) (n : ℕ) → get_or (xs ++ no_run ∷ []) n no_run ≡ get_or xs n no_run
read_past [] zero = refl
read_past [] (suc n) = refl
read_past (x ∷ xs) zero = refl
read_past (x ∷ xs) (suc n) = read_past xs n

-- nothing behind them is padding too
pub padded_same : (heads : List ℕ) → IsPadded heads heads
padded_same heads = record { same = λ n. refl; longer = omega arith }

-- one more place
pub padded_push : (old new : List ℕ) → IsPadded old new → IsPadded old (new ++ no_run ∷ [])
padded_push old new p =
    record {
      same = λ n. read_past new n ∙ p.same n;
      longer = omega (arith, p.longer, length-append new (no_run ∷ []));
    }

-- with no elements there is an arena
pub kept_nothing : (elements : List (ℕ × ℕ)) (marks heads : List ℕ) (bound : ℕ) → elements ≡ [] → marks ≡ []
    → heads ≡ [] → bound < 2 ^ 31 → HoldsRuns elements marks heads 0 bound
kept_nothing elements marks heads bound p q r fits =
    subst (λ e. HoldsRuns e marks heads 0 bound) (sym p)
    (subst (λ l. HoldsRuns [] l heads 0 bound) (sym q)
    (subst (λ h. HoldsRuns [] [] h 0 bound) (sym r) nothing))
  where
    nothing : HoldsRuns [] [] [] 0 bound
    nothing =
        record {
          stored = record {
            same_length = refl;
            held = λ s h. absurd (omega arith);
            within = λ s h. absurd (omega arith);
            apart = λ s t h k less. absurd (omega arith);
            sized = λ n s h. absurd h;
            at_least_one = λ n s h. absurd h;
            free = λ n s h. absurd h;
            once = λ n. tt;
            uses = refl;
            fills = refl;
            whole = refl;
            covered = omega arith;
            bounded = omega arith;
            bound_fits = fits;
          };
          filled = refl;
          chained = λ n. refl;
          placed = λ s h. absurd (omega arith);
        }

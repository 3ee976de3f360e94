-- The marked starts are chained anew.
use Rattle.std.proofs.Common.{◌≡◌, ◌≢◌, ℕ, suc, zero, ◌<◌, ◌≤◌, ◌⊎◌, List, [], ◌∷◌, length, get_or}
use Rattle.std.proofs.Common.{refl, sym, ap, subst, ◌∙◌, arith, inl, inr}
use Rattle.std.proofs.Math.ListN.{set}
use Rattle.std.proofs.lemmas.Bool.{cases_eq}
use Rattle.std.proofs.lemmas.List.{length-set, get_or-set_same, get_or-set_other}
use Rattle.sd_runs.specs.Arena.{IsMember}
use Rattle.sd_runs.specs.Fields.{no_run}
use Rattle.sd_runs.specs.Ordered.{IsRechained, IsRechainedTo}
use Rattle.sd_runs.specs.Stored.{IsFreeChain}
use Rattle.sd_runs.proofs.Chains.{chain_kept}
use Rattle.sd_runs.proofs.Places.{by_cases}

-- a start with a mark is in the arena
marked_inside : (marks : List ℕ) (s : ℕ) → get_or marks s 0 ≡ 2 → s < length marks
marked_inside [] s is = let no : 0 ≡ 2 = is in absurd (omega (arith, no))
marked_inside (b ∷ bs) zero is = omega arith
marked_inside (b ∷ bs) (suc s) is = omega (arith, marked_inside bs s is)

-- before the first step no start is chained
pub rechained_first : (marks : List ℕ) (elements : List (ℕ × ℕ))
    → IsRechainedTo marks (λ s. s < 0) elements elements no_run
rechained_first marks elements =
    record {
      starts = [];
      chained = refl;
      once = tt;
      only_passed = λ s h. absurd h;
      marked = λ s h. absurd h;
      all = λ s passed is. absurd (omega (arith, passed));
      others = λ s off. refl;
      size = refl;
    }

-- other words for the starts that were passed
pub rechained_same : (marks : List ℕ) (before after : ℕ → Type 0) (old new : List (ℕ × ℕ)) (head : ℕ)
    → ((s : ℕ) → before s → after s) → ((s : ℕ) → after s → before s)
    → IsRechainedTo marks before old new head → IsRechainedTo marks after old new head
rechained_same marks before after old new head there back r =
    record {
      starts = r.starts;
      chained = r.chained;
      once = r.once;
      only_passed = λ s h. there s (r.only_passed s h);
      marked = r.marked;
      all = λ s passed is. r.all s (back s passed) is;
      others = r.others;
      size = r.size;
    }

-- where each start in the arena was passed, all marked ones were
pub rechained_end : (marks : List ℕ) (old new : List (ℕ × ℕ)) (head : ℕ)
    → IsRechainedTo marks (λ s. s < length marks) old new head → IsRechained marks old new head
rechained_end marks old new head r =
    record {
      starts = r.starts;
      chained = r.chained;
      once = r.once;
      only_passed = λ s h. omega arith;
      marked = r.marked;
      all = λ s passed is. r.all s (marked_inside marks s is) is;
      others = r.others;
      size = r.size;
    }

-- with `k` one start more is passed
pub record IsOneMore (before after : ℕ → Type 0) (k : ℕ) : Type 0 where
  pub is_new : ¬ before k
  pub is_passed : after k
  pub kept : (s : ℕ) → before s → after s
  pub others : (s : ℕ) → after s → s ≢ k → before s

-- from the end of a part down
pub one_down : (below above start k : ℕ) → start ≡ suc k → below < start → start ≤ above
    → IsOneMore (λ s. (s < below) ⊎ ((start ≤ s) × (s < above))) (λ s. (s < below) ⊎ ((k ≤ s) × (s < above))) k
one_down below above start k next more inside =
    record {
      is_new = by_cases (λ h. omega (arith, h, next, more)) (λ h. omega (arith, h.0, next));
      is_passed = inr (omega arith, omega (arith, next, inside));
      kept = λ s. by_cases (λ h. inl h) (λ h. inr (omega (arith, h.0, next), h.1));
      others = λ s. by_cases (λ h ne. inl h) (λ h ne. inr (omega (arith, h.0, next, ne), h.1));
    }

module _ (marks : List ℕ) (before after : ℕ → Type 0) (old new : List (ℕ × ℕ)) (head start : ℕ)
    (more : IsOneMore before after start) (r : IsRechainedTo marks before old new head) where
  -- a start that is not marked is left out
  pub rechained_pass : ¬ (get_or marks start 0 ≡ 2) → IsRechainedTo marks after old new head
  rechained_pass off =
      record {
        starts = r.starts;
        chained = r.chained;
        once = r.once;
        only_passed = λ s h. more.kept s (r.only_passed s h);
        marked = r.marked;
        all = λ s passed is. by_cases
            (λ e. absurd (off (ap (λ j. get_or marks j 0) (sym e) ∙ is)))
            (λ ne. r.all s (more.others s passed ne) is)
            (cases_eq s start);
        others = r.others;
        size = r.size;
      }

  -- a marked one comes first
  pub rechained_next : get_or marks start 0 ≡ 2 → start < length new
      → IsRechainedTo marks after old (set new start (head, 0)) start
  rechained_next is_on inside =
      record {
        starts = start ∷ r.starts;
        chained = (
          refl,
          subst (λ (p : ℕ × ℕ). IsFreeChain (set new start (head, 0)) p.0 r.starts)
              (sym (get_or-set_same new start (head, 0) (0, 0) inside))
              (chain_kept new (set new start (head, 0)) head r.starts
              (λ x h. get_or-set_other new start x (head, 0) (0, 0) (later x h)) r.chained),
        );
        once = ((λ h. later start h refl), r.once);
        only_passed = λ s. by_cases
            (λ e. subst after e more.is_passed)
            (λ h. more.kept s (r.only_passed s h));
        marked = λ s. by_cases (λ e. ap (λ j. get_or marks j 0) (sym e) ∙ is_on) (λ h. r.marked s h);
        all = λ s passed is. by_cases
            (λ e. inl (sym e))
            (λ ne. inr (r.all s (more.others s passed ne) is))
            (cases_eq s start);
        others = λ s off. get_or-set_other new start s (head, 0) (0, 0) (unmarked s off) ∙ r.others s off;
        size = length-set new start (head, 0) ∙ r.size;
      }
    where
      later : (x : ℕ) → IsMember x r.starts → ¬ (x ≡ start)
      later x h e = more.is_new (subst before e (r.only_passed x h))

      unmarked : (s : ℕ) → ¬ (get_or marks s 0 ≡ 2) → ¬ (s ≡ start)
      unmarked s off e = off (ap (λ j. get_or marks j 0) e ∙ is_on)

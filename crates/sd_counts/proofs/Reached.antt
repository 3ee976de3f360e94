-- Where the counts are settled, just what is held and what is below it is counted, and the total is that of its lists.
use Rattle.std.proofs.Common.{◌≡◌, ◌↔◌, ℕ, zero, suc, ◌+◌, ◌<◌, Bool, true, false, List, [], ◌∷◌, length, get_or}
use Rattle.std.proofs.Common.{refl, sym, ◌∙◌, ap, subst, arith, inl, inr}
use Rattle.std.proofs.Math.ListN.{set}
use Rattle.std.proofs.lemmas.Bool.{cases_eq}
use Rattle.std.proofs.lemmas.List.{get_or-set_other}
use Rattle.std.proofs.lemmas.List.Sums.{sum_by-cons}
use Rattle.std.specs.List.{sum_by}
use Rattle.sd_runs.proofs.Places.{by_cases}
use Rattle.sd_runs.specs.Arena.{IsMember, HasNoCopies}
use Rattle.sd_counts.specs.Counts.{Counts, live_at, counted_at, IsSettled}
use Rattle.sd_counts.specs.Right.{sum_counted, AreRight, AreRanked, IsReached, reached_held, reached_below}
use Rattle.sd_counts.specs.Uses.{uses_in}
use Rattle.sd_counts.proofs.OnStack.{not_both}
use Rattle.sd_counts.proofs.Sums.{sum_fallen, sum_has, sum_some}

-- a number that is used is counted
used_so_counted : (v : Counts) (n : ℕ) → IsSettled v → (b : Bool) → counted_at v n ≡ b → 0 < live_at v n → b ≡ true
used_so_counted v n s true e used = refl
used_so_counted v n s false e used = absurd (omega (arith, used, s.unused n e))

module _ (lists : ℕ → List (ℕ × ℕ)) (held : ℕ → ℕ) (v : Counts) (right : AreRight lists held v) (s : IsSettled v) where
  is_counted : (n : ℕ) → 0 < live_at v n → counted_at v n ≡ true
  is_counted n used = used_so_counted v n s (counted_at v n) refl used

  -- what is reached is counted
  pub reached_counted : {n : ℕ} → IsReached lists held n → counted_at v n ≡ true
  reached_counted (reached_held {n = n} h) = is_counted n (omega (arith, right.live n, h))
  reached_counted (reached_below {m = m} {n = n} r uses) =
      is_counted n (omega (
        arith,
        right.live n,
        sum_has (λ k. uses_in (2050 + n) (lists k)) v.counted m (reached_counted r),
        uses,
      ))

  -- what is counted is held, or stands in the list of a number that is counted
  climbed : (rank : ℕ → ℕ) → AreRanked lists v rank → (most n : ℕ) → rank n < most → counted_at v n ≡ true
      → IsReached lists held n
  climbed rank ranked zero n below on = absurd (omega (arith, below))
  climbed rank ranked (suc most) n below on =
      by_cases
      (λ none.
      let some = sum_some (λ k. uses_in (2050 + n) (lists k)) v.counted
      (omega (arith, right.live n, s.used n on, none)) in
      reached_below
      (climbed rank ranked most some.0 (omega (arith, below, ranked.users some.0 n some.1 some.2)) some.1) some.2)
      (λ ne. reached_held (omega (arith, ne)))
      (cases_eq (held n) 0)

  pub counted_reached : (rank : ℕ → ℕ) → AreRanked lists v rank → (n : ℕ) → counted_at v n ≡ true
      → IsReached lists held n
  counted_reached rank ranked n on = climbed rank ranked (rank n + 1) n (omega arith) on

-- just the numbers that are reached are counted
pub counted_just_reached : (lists : ℕ → List (ℕ × ℕ)) (held rank : ℕ → ℕ) (v : Counts) → AreRight lists held v
    → IsSettled v → AreRanked lists v rank → (n : ℕ) → (counted_at v n ≡ true) ↔ IsReached lists held n
counted_just_reached lists held rank v right s ranked n =
    ((λ on. counted_reached lists held v right s rank ranked n on), (λ r. reached_counted lists held v right s r))

none_counted : (f : ℕ → ℕ) (bs : List Bool) → ((n : ℕ) → get_or bs n false ≡ true → ⊥) → (k : ℕ) → sum_counted f bs ≡ k
    → k ≡ 0
none_counted f bs none zero e = refl
none_counted f bs none (suc k) e =
    let some = sum_some f bs (omega (arith, e)) in absurd (none some.0 some.1)

-- a number that was taken out is not counted
pub at_off : (bs : List Bool) (m : ℕ) → get_or (set bs m false) m false ≡ false
at_off [] m = refl
at_off (b ∷ bs) zero = refl
at_off (b ∷ bs) (suc m) = at_off bs m

-- the sum over the counted numbers is that over a list of them
sum_listed : (f : ℕ → ℕ) (ns : List ℕ) (bs : List Bool) → HasNoCopies ns
    → ((n : ℕ) → IsMember n ns → get_or bs n false ≡ true) → ((n : ℕ) → get_or bs n false ≡ true → IsMember n ns)
    → sum_counted f bs ≡ sum_by f ns
sum_listed f [] bs once there only = none_counted f bs (λ n on. only n on) (sum_counted f bs) refl
sum_listed f (m ∷ ns) bs once there only =
    let on = there m (inl refl) in
    let rest : sum_counted f (set bs m false) ≡ sum_by f ns =
    sum_listed f ns (set bs m false) once.1
    (λ n k. get_or-set_other bs m n false false (λ same. once.0 (subst (λ z. IsMember z ns) same k)) ∙ there n (inr k))
    (λ n e. by_cases
    (λ same. absurd (not_both (at_off bs m) (ap (λ z. get_or (set bs m false) z false) (sym same) ∙ e)))
    (λ ne. by_cases (λ same. absurd (ne (sym same))) (λ k. k)
    (only n (sym (get_or-set_other bs m n false false ne) ∙ e)))
    (cases_eq n m)) in
    omega (arith, sum_fallen f bs m on, rest, sum_by-cons f m ns)

-- the total is that of the lists of the numbers that are reached
pub total_reached : (lists : ℕ → List (ℕ × ℕ)) (held rank : ℕ → ℕ) (v : Counts) (reached : List ℕ)
    → AreRight lists held v → IsSettled v → AreRanked lists v rank → HasNoCopies reached
    → ((n : ℕ) → IsMember n reached ↔ IsReached lists held n) → v.total ≡ sum_by (λ n. length (lists n)) reached
total_reached lists held rank v reached right s ranked once just =
    right.total
    ∙ sum_listed (λ n. length (lists n)) reached v.counted once
    (λ n k. reached_counted lists held v right s ((just n).0 k))
    (λ n on. (just n).1 (counted_reached lists held v right s rank ranked n on))

-- Where the counts are settled, the total is that of the nodes under the roots.
use Rattle.std.proofs.Common.{◌≡◌, ◌↔◌, inl, inr, ℕ, zero, suc, ◌+◌, ◌<◌, Bool, true, false}
use Rattle.std.proofs.Common.{List, [], ◌∷◌, length, get_or, Option, None, unwrap_or, refl, sym, ap, subst, ◌∙◌}
use Rattle.std.proofs.Common.{arith}
use Rattle.std.proofs.lemmas.List.Sums.{sum_by-cons}
use Rattle.std.specs.List.{sum_by}
use Rattle.std.specs.Option.{option_map}
use Rattle.std.specs.Ordering.{nat_cmp}
use Rattle.std.specs.FinMap.{FinMap, get}
use Rattle.sd_runs.specs.Arena.{IsMember, HasNoCopies}
use Rattle.sd_vtree.specs.Numbered.{Numbered}
use Rattle.sd_unique.specs.Nodes.{Nodes}
use Rattle.sd_counts.specs.Counts.{Counts, IsSettled, counted_at}
use Rattle.sd_counts.specs.Right.{AreOf, IsReached, reached_held, reached_below, list_at}
use Rattle.sd_counts.specs.Uses.{uses_in}
use Rattle.sd_counts.proofs.OnStack.{not_both}
use Rattle.sd_counts.proofs.Reached.{counted_just_reached, total_reached}
use Rattle.sd_manager.specs.Stored.{table_of, held_count, IsStored}
use Rattle.sd_manager.specs.Total.{list_of, IsTotal}
use Rattle.sd_manager.proofs.Ranks.{rank_of, ranked}
use Rattle.sd_manager.proofs.Reading.{key_again}

-- the numbers of the flags that are on, the first flag at this number
abbrev numbers_on : ℕ → List Bool → List ℕ
numbers_on i [] = []
numbers_on i (true ∷ bs) = i ∷ numbers_on (suc i) bs
numbers_on i (false ∷ bs) = numbers_on (suc i) bs

-- each is that of a flag that is on
on_member : (bs : List Bool) (i n : ℕ) → IsMember n (numbers_on i bs) →
    (q : ℕ) × (n ≡ i + q) × (get_or bs q false ≡ true)
on_member [] i n h = absurd h
on_member (true ∷ bs) i n (inl same) = (zero, omega (arith, same), refl)
on_member (true ∷ bs) i n (inr h) = let w = on_member bs (suc i) n h in (suc w.0, omega (arith, w.1), w.2)
on_member (false ∷ bs) i n h = let w = on_member bs (suc i) n h in (suc w.0, omega (arith, w.1), w.2)

-- and each flag that is on has its number there
member_on : (bs : List Bool) (i q n : ℕ) → n ≡ i + q → get_or bs q false ≡ true → IsMember n (numbers_on i bs)
member_on [] i q n e on = absurd (not_both refl on)
member_on (true ∷ bs) i zero n e on = inl (omega (arith, e))
member_on (false ∷ bs) i zero n e on = absurd (not_both refl on)
member_on (true ∷ bs) i (suc q) n e on = inr (member_on bs (suc i) q n (omega (arith, e)) on)
member_on (false ∷ bs) i (suc q) n e on = member_on bs (suc i) q n (omega (arith, e)) on

-- no number is twice there
once_on : (bs : List Bool) (i : ℕ) → HasNoCopies (numbers_on i bs)
once_on [] i = tt
once_on (true ∷ bs) i = (
  λ h. let w = on_member bs (suc i) i h in absurd (omega (arith, w.1)),
  once_on bs (suc i),
)
once_on (false ∷ bs) i = once_on bs (suc i)

-- what is reached by lists is reached by the same lists
reached_same : {lists more : ℕ → List (ℕ × ℕ)} {held : ℕ → ℕ} → ((n : ℕ) → lists n ≡ more n) → {n : ℕ} →
    IsReached lists held n → IsReached more held n
reached_same e (reached_held h) = reached_held h
reached_same e (reached_below {m = m} {n = n} r uses) =
    reached_below (reached_same e r) (subst (λ l. 0 < uses_in (2050 + n) l) (e m) uses)

-- and their lengths are together the same
sums_same : (f g : ℕ → ℕ) (ns : List ℕ) → ((n : ℕ) → f n ≡ g n) → sum_by f ns ≡ sum_by g ns
sums_same f g [] e = refl
sums_same f g (n ∷ ns) e = omega (arith, sum_by-cons f n ns, sum_by-cons g n ns, sums_same f g ns e, e n)

module _ (v : Numbered) (a : Nodes) (m : FinMap nat_cmp ℕ) (e : ℕ) (g : Option ℕ)
    (stored : IsStored a (table_of v a m e g)) (still : g ≡ None) (w : Counts) (of : AreOf a (held_count m) w)
    (settled : IsSettled w) where
  -- the nodes' own word for the list of a node is the table's
  lists : (n : ℕ) → list_at a n ≡ list_of (table_of v a m e g) n
  lists n =
      ap (λ o. unwrap_or (option_map (λ (k : ℕ × List (ℕ × ℕ)). k.1) o) [])
      (key_again (get a.linked n) (get a.detached n))

  -- what is counted has lower ranks than what it uses
  rank : (q n : ℕ) → counted_at w q ≡ true → 0 < uses_in (2050 + n) (list_at a q) →
      rank_of (table_of v a m e g) q < rank_of (table_of v a m e g) n
  rank q n on uses =
      ranked (table_of v a m e g) stored.table still q n
      (subst (λ l. 0 < uses_in (2050 + n) l) (lists q) uses)

  -- just the nodes under roots are counted
  just : (n : ℕ) → IsMember n (numbers_on 0 w.counted) ↔ IsReached (list_at a) (held_count m) n
  just n =
      let law = counted_just_reached (list_at a) (held_count m) (rank_of (table_of v a m e g)) w of.right settled
      (record { users = rank }) n in (
        λ h.
            let q = on_member w.counted 0 n h in
            let same : q.0 ≡ n = omega (arith, q.1) in
            law.0 (subst (λ k. counted_at w k ≡ true) same q.2),
        λ r. member_on w.counted 0 n n (omega arith) (law.1 r),
      )

  -- the total is that of the nodes under roots
  pub total_is : IsTotal (table_of v a m e g) w.total
  total_is = record {
    numbers = numbers_on 0 w.counted;
    once = once_on w.counted 0;
    under = λ n. (
      λ h. reached_same lists ((just n).0 h),
      λ r. (just n).1 (reached_same (λ k. sym (lists k)) r),
    );
    is = total_reached (list_at a) (held_count m) (rank_of (table_of v a m e g)) w (numbers_on 0 w.counted) of.right
        settled (record { users = rank }) (once_on w.counted 0) just
        ∙ sums_same (λ n. length (list_at a n)) (λ n. length (list_of (table_of v a m e g) n))
        (numbers_on 0 w.counted) (λ n. ap length (lists n));
  }

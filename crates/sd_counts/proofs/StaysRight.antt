-- The counts stay right where a root comes or goes, where a list changes, and where there are more numbers.
use Rattle.std.proofs.Common.{◌≡◌, ◌≢◌, ℕ, zero, suc, ◌+◌, ◌-◌, ◌<◌, ◌≤◌, ◌^◌, Bool, true, false, List, [], ◌∷◌, ◌++◌}
use Rattle.std.proofs.Common.{length, get_or}
use Rattle.std.proofs.Common.{refl, sym, ◌∙◌, ap, subst, arith}
use Rattle.std.proofs.Math.ListN.{set}
use Rattle.std.proofs.lemmas.Bool.{cases_eq}
use Rattle.std.proofs.lemmas.List.{length-append}
use Rattle.std.specs.Option.{IsSome}
use Rattle.sd_runs.proofs.Places.{by_cases}
use Rattle.sd_unique.specs.Nodes.{Nodes, key_at, total_length}
use Rattle.sd_counts.specs.Counts.{Counts, live_at, counted_at, Adds, IsGrown, IsRelisted}
use Rattle.sd_counts.specs.Right.{sum_counted, list_at, IsThere, AreOf}
use Rattle.sd_counts.specs.Uses.{uses_in, counts_one}
use Rattle.sd_counts.proofs.OnStack.{not_both}
use Rattle.sd_counts.proofs.Adding.{counts_other}
use Rattle.sd_counts.proofs.Bounds.{lengths_within}
use Rattle.sd_counts.proofs.Sums.{sum_fallen, sum_has, sum_equal, sum_twice, sum_padded, uses_twice}
use Rattle.sd_counts.proofs.Reached.{at_off}

-- a number of a code that is held is that of the code
held_code : (n code : ℕ) → 0 < counts_one (2050 + n) code → code ≡ 2050 + n
held_code n code some =
    by_cases (λ e. e) (λ ne. absurd (omega (arith, some, counts_other (2050 + n) code ne))) (cases_eq code (2050 + n))

-- a root more
pub right_held : (a : Nodes) (held held' : ℕ → ℕ) (v w : Counts) (code : ℕ) → AreOf a held v
    → Adds v w (λ c. counts_one c code) → ((n : ℕ) → held' n ≡ held n + counts_one (2050 + n) code) → IsThere a code
    → ((n : ℕ) → held' n < 2 ^ 32) → AreOf a held' w
right_held a held held' v w code of adds more there few =
    record {
      right = record {
        live = λ n. omega (
          arith,
          adds.live n,
          (of.right).live n,
          more n,
          ap (sum_counted (λ m. uses_in (2050 + n) (list_at a m))) adds.counted,
        );
        total = adds.total ∙ (of.right).total ∙ ap (sum_counted (λ m. length (list_at a m))) (sym adds.counted);
      };
      nodes = λ n on. of.nodes n (ap (λ bs. get_or bs n false) (sym adds.counted) ∙ on);
      held_nodes = λ n some. by_cases
          (λ none.
          let is = held_code n code (omega (arith, some, more n, none)) in
          let back : code - 2050 ≡ n = omega (arith, is) in
          subst (λ k. IsSome (key_at a k)) back (there (omega (arith, is))))
          (λ ne. of.held_nodes n (omega (arith, ne)))
          (cases_eq (held n) 0);
      few = few;
      room = omega (arith, of.room, adds.size);
      within = ap length adds.counted ∙ of.within ∙ sym adds.size;
    }

-- a root less
pub right_released : (a : Nodes) (held held' : ℕ → ℕ) (v w : Counts) (code : ℕ) → AreOf a held v
    → Adds w v (λ c. counts_one c code) → ((n : ℕ) → held n ≡ held' n + counts_one (2050 + n) code) → AreOf a held' w
right_released a held held' v w code of adds less =
    record {
      right = record {
        live = λ n. omega (
          arith,
          adds.live n,
          (of.right).live n,
          less n,
          ap (sum_counted (λ m. uses_in (2050 + n) (list_at a m))) adds.counted,
        );
        total = sym adds.total ∙ (of.right).total ∙ ap (sum_counted (λ m. length (list_at a m))) adds.counted;
      };
      nodes = λ n on. of.nodes n (ap (λ bs. get_or bs n false) adds.counted ∙ on);
      held_nodes = λ n some. of.held_nodes n (omega (arith, some, less n));
      few = λ n. omega (arith, of.few n, less n);
      room = omega (arith, of.room, adds.size);
      within = sym (ap length adds.counted) ∙ of.within ∙ adds.size;
    }

-- other nodes, with the same lists of those that are counted
pub right_among : (a b : Nodes) (held : ℕ → ℕ) (v : Counts) → AreOf a held v
    → ((n : ℕ) → counted_at v n ≡ true → list_at b n ≡ list_at a n)
    → ((n : ℕ) → counted_at v n ≡ true → IsSome (key_at b n)) → ((n : ℕ) → 0 < held n → IsSome (key_at b n))
    → b.records ≤ length v.live → AreOf b held v
right_among a b held v of same nodes held_nodes room =
    record {
      right = record {
        live = λ n. omega (
          arith,
          (of.right).live n,
          sum_equal (λ m. uses_in (2050 + n) (list_at b m)) (λ m. uses_in (2050 + n) (list_at a m)) v.counted
              (λ m on. ap (uses_in (2050 + n)) (same m on)),
        );
        total = (of.right).total
            ∙ sym (sum_equal (λ m. length (list_at b m)) (λ m. length (list_at a m)) v.counted
            (λ m on. ap length (same m on)));
      };
      nodes = nodes;
      held_nodes = held_nodes;
      few = of.few;
      room = room;
      within = of.within;
    }

-- numbers more
padded_live : (xs : List ℕ) (n : ℕ) → get_or (xs ++ 0 ∷ []) n 0 ≡ get_or xs n 0
padded_live [] zero = refl
padded_live [] (suc n) = refl
padded_live (x ∷ xs) zero = refl
padded_live (x ∷ xs) (suc n) = padded_live xs n

padded_flag : (bs : List Bool) (n : ℕ) → get_or (bs ++ false ∷ []) n false ≡ get_or bs n false
padded_flag [] zero = refl
padded_flag [] (suc n) = refl
padded_flag (b ∷ bs) zero = refl
padded_flag (b ∷ bs) (suc n) = padded_flag bs n

pub right_grown : (a : Nodes) (held : ℕ → ℕ) (v w : Counts) → AreOf a held v → IsGrown v w → AreOf a held w
right_grown a held v w of more =
    by_cases
    (λ same. subst (AreOf a held) (sym same) of)
    (λ is. subst (AreOf a held) (sym is) (record {
      right = record {
        live = λ n. padded_live v.live n ∙ (of.right).live n
            ∙ ap (λ k. k + held n) (sym (sum_padded (λ m. uses_in (2050 + n) (list_at a m)) v.counted));
        total = (of.right).total ∙ sym (sum_padded (λ m. length (list_at a m)) v.counted);
      };
      nodes = λ n on. of.nodes n (sym (padded_flag v.counted n) ∙ on);
      held_nodes = of.held_nodes;
      few = of.few;
      room = omega (arith, of.room, length-append v.live (0 ∷ []));
      within = omega (arith, of.within, length-append v.live (0 ∷ []), length-append v.counted (false ∷ []));
    }))
    more.is

-- no number is used more than twice for each element, and by roots; and the total is no more than all elements
pub live_most : (a : Nodes) (held : ℕ → ℕ) (v : Counts) → AreOf a held v → (n : ℕ)
    → live_at v n ≤ total_length a + total_length a + held n
live_most a held v of n =
    omega (
      arith,
      (of.right).live n,
      sum_twice (λ k. uses_in (2050 + n) (list_at a k)) (λ k. length (list_at a k)) v.counted
          (λ k. uses_twice (2050 + n) (list_at a k)),
      lengths_within a v.counted,
    )

-- the uses and the length of the list of a counted number are counted
pub uses_live : (a : Nodes) (held : ℕ → ℕ) (v : Counts) (m : ℕ) → AreOf a held v → counted_at v m ≡ true → (n : ℕ)
    → uses_in (2050 + n) (list_at a m) ≤ live_at v n
uses_live a held v m of on n =
    omega (arith, (of.right).live n, sum_has (λ k. uses_in (2050 + n) (list_at a k)) v.counted m on)

pub length_total : (a : Nodes) (held : ℕ → ℕ) (v : Counts) (m : ℕ) → AreOf a held v → counted_at v m ≡ true
    → length (list_at a m) ≤ v.total
length_total a held v m of on = omega (arith, (of.right).total, sum_has (λ k. length (list_at a k)) v.counted m on)

module _ (a b : Nodes) (held : ℕ → ℕ) (v : Counts) (m : ℕ) (of : AreOf a held v) (on : counted_at v m ≡ true)
    (others : (n : ℕ) → n ≢ m → list_at b n ≡ list_at a n) where
  -- the sum over the other numbers is as before
  rest_same : (f : List (ℕ × ℕ) → ℕ) → sum_counted (λ k. f (list_at b k)) v.counted + f (list_at a m)
      ≡ sum_counted (λ k. f (list_at a k)) v.counted + f (list_at b m)
  rest_same f =
      let rest : sum_counted (λ k. f (list_at b k)) (set v.counted m false)
      ≡ sum_counted (λ k. f (list_at a k)) (set v.counted m false) =
      sum_equal (λ k. f (list_at b k)) (λ k. f (list_at a k)) (set v.counted m false)
      (λ k here. ap f (others k (λ same. not_both (at_off v.counted m)
      (ap (λ z. get_or (set v.counted m false) z false) (sym same) ∙ here)))) in
      omega (
        arith,
        sum_fallen (λ k. f (list_at b k)) v.counted m on,
        sum_fallen (λ k. f (list_at a k)) v.counted m on,
        rest,
      )

  -- there is room for the new list
  pub relisted_fits : v.total + length (list_at b m) ≤ total_length b + length (list_at a m)
  relisted_fits = omega (arith, (of.right).total, rest_same length, lengths_within b v.counted)

  -- another list of a counted number
  pub right_relisted : (w : Counts) → IsRelisted v w (list_at a m) (list_at b m)
      → ((n : ℕ) → IsSome (key_at a n) → IsSome (key_at b n)) → b.records ≤ length v.live → AreOf b held w
  right_relisted w is kept room =
      record {
        right = record {
          live = λ n. omega (
            arith,
            is.live n,
            (of.right).live n,
            rest_same (uses_in (2050 + n)),
            ap (sum_counted (λ k. uses_in (2050 + n) (list_at b k))) is.counted,
          );
          total = omega (
            arith,
            is.total,
            (of.right).total,
            rest_same length,
            ap (sum_counted (λ k. length (list_at b k))) is.counted,
          );
        };
        nodes = λ n here. kept n (of.nodes n (ap (λ bs. get_or bs n false) (sym is.counted) ∙ here));
        held_nodes = λ n some. kept n (of.held_nodes n some);
        few = of.few;
        room = omega (arith, room, is.size);
        within = ap length is.counted ∙ of.within ∙ sym is.size;
      }

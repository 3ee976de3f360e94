-- The elements of different nodes together are no more than the arena's bound: a size is below 2^31.
use Rattle.std.proofs.Common.{◌≡◌, ◌≢◌, ℕ, ◌+◌, ◌-◌, ◌≤◌, Bool, true, false, ltb, cond}
use Rattle.std.proofs.Common.{List, [], ◌∷◌, Option, Some, None, refl, sym, ap, subst, ◌∙◌, arith}
use Rattle.std.proofs.lemmas.Bool.{ltb-false}
use Rattle.std.proofs.lemmas.List.Sums.{sum_by-cons}
use Rattle.std.specs.Prelude.{unwrap_or}
use Rattle.std.specs.List.{AllByRecursion, sum_by}
use Rattle.std.specs.Option.{option_map}
use Rattle.std.specs.Ordering.{nat_cmp}
use Rattle.std.specs.FinMap.{FinMap, get, remove, values}
use Rattle.sd_runs.proofs.Maps.{get_remove_other}
use Rattle.sd_model.specs.Tree.{AreDistinct}
use Rattle.sd_manager.proofs.Totals.{total_without}

module _ {X : Type 0} (f : X → ℕ) where
  -- what a decomposition's code adds to the sum over the values of a map; a smaller code adds nothing
  abbrev pub amount_of : FinMap nat_cmp X → ℕ → ℕ
  amount_of m c = cond (ltb c 2050) 0 (unwrap_or (option_map f (get m (c - 2050))) 0)

  -- a code adds as much where another one is gone
  amount_other : (m : FinMap nat_cmp X) (c d : ℕ) → c ≢ d → ltb c 2050 ≡ false → (b : Bool) → ltb d 2050 ≡ b →
      cond b 0 (unwrap_or (option_map f (get (remove m (c - 2050)) (d - 2050))) 0)
      ≡ cond b 0 (unwrap_or (option_map f (get m (d - 2050))) 0)
  amount_other m c d ne high true e = refl
  amount_other m c d ne high false e =
      ap (λ o. unwrap_or (option_map f o) 0)
      (get_remove_other m (c - 2050) (d - 2050)
      (λ same. ne (omega (arith, same, ltb-false c 2050 high, ltb-false d 2050 e))))

  amounts_without : (m : FinMap nat_cmp X) (c : ℕ) (cs : List ℕ) → ltb c 2050 ≡ false →
      AllByRecursion (λ d. c ≢ d) cs → sum_by (amount_of (remove m (c - 2050))) cs ≡ sum_by (amount_of m) cs
  amounts_without m c [] high h = refl
  amounts_without m c (d ∷ cs) high h =
      sum_by-cons (amount_of (remove m (c - 2050))) d cs
      ∙ ap (λ n. n + sum_by (amount_of (remove m (c - 2050))) cs) (amount_other m c d h.0 high (ltb d 2050) refl)
      ∙ ap (λ n. amount_of m d + n) (amounts_without m c cs high h.1) ∙ sym (sum_by-cons (amount_of m) d cs)

  -- different codes add no more than all
  pub amounts_within : (m : FinMap nat_cmp X) (cs : List ℕ) → AreDistinct cs →
      sum_by (amount_of m) cs ≤ sum_by f (values m)
  amounts_within m [] h = omega arith
  amounts_within m (c ∷ cs) h =
      subst (λ n. n ≤ sum_by f (values m)) (sym (sum_by-cons (amount_of m) c cs))
      (go (amounts_within m cs h.1) (amounts_within (remove m (c - 2050)) cs h.1) (ltb c 2050) refl
      (get m (c - 2050)) refl)
    where
      go : sum_by (amount_of m) cs ≤ sum_by f (values m) →
          sum_by (amount_of (remove m (c - 2050))) cs ≤ sum_by f (values (remove m (c - 2050))) →
          (b : Bool) → ltb c 2050 ≡ b → (o : Option X) → get m (c - 2050) ≡ o →
          amount_of m c + sum_by (amount_of m) cs ≤ sum_by f (values m)
      go all rest true low o e =
          let here : amount_of m c ≡ 0 =
          ap (λ b. cond b 0 (unwrap_or (option_map f (get m (c - 2050))) 0)) low in
          omega (arith, here, all)
      go all rest false high None e =
          let here : amount_of m c ≡ 0 =
          ap (λ b. cond b 0 (unwrap_or (option_map f (get m (c - 2050))) 0)) high
          ∙ ap (λ o. unwrap_or (option_map f o) 0) e in
          omega (arith, here, all)
      go all rest false high (Some v) e =
          let here : amount_of m c ≡ f v =
          ap (λ b. cond b 0 (unwrap_or (option_map f (get m (c - 2050))) 0)) high
          ∙ ap (λ o. unwrap_or (option_map f o) 0) e in
          omega (arith, here, total_without f m (c - 2050) v e, amounts_without m c cs high h.0, rest)

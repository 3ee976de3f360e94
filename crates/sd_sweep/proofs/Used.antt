-- A linked node is used where a use of it is counted.
use Rattle.std.proofs.Common.{◌≡◌, inl, inr, ℕ, zero, suc, ◌+◌, ◌≤◌, cond, eqb, List, [], ◌∷◌, map}
use Rattle.std.proofs.Common.{Some, None, refl, sym, ap, ◌∙◌, arith}
use Rattle.std.proofs.lemmas.Bool.{cases_eq}
use Rattle.std.proofs.lemmas.Option.{none-some}
use Rattle.std.specs.List.{sum_by}
use Rattle.std.specs.Option.{IsSome}
use Rattle.std.specs.Ordering.{nat_cmp}
use Rattle.std.specs.FinMap.{FinMap, get, get-entries, remove, values, entries, find, get-empty}
use Rattle.sd_runs.proofs.Maps.{tied}
use Rattle.sd_manager.specs.Table.{Table, uses_of, uses_in}
use Rattle.sd_manager.specs.Valid.{IsTable}
use Rattle.sd_manager.specs.Retiring.{IsIdle}
use Rattle.sd_manager.proofs.Counted.{counts_other}
use Rattle.sd_manager.proofs.Totals.{total_without, left_was, sum_zero}
use Rattle.sd_manager.proofs.Standing.{uses_stand}
use Rattle.sd_sweep.proofs.Climbing.{IsUsed, first_use, list_use}

-- the number of entries of a map, as a sum over its values
abbrev pub entry_count : {X : Type 0} → FinMap nat_cmp X → ℕ
entry_count m = sum_by (λ _. 1) (values m)

-- one entry less
pub fewer_entries : {X : Type 0} (m : FinMap nat_cmp X) (k : ℕ) (v : X) → get m k ≡ Some v →
    entry_count m ≡ 1 + entry_count (remove m k)
fewer_entries m k v e = total_without (λ _. 1) m k v e

module _ {X : Type 0} (f : X → ℕ) where
  -- some entry of the map adds to the sum over all values
  abbrev AddsToSum : FinMap nat_cmp X → Type 0
  AddsToSum m = (k : ℕ) × (v : X) × (get m k ≡ Some v) × (1 ≤ f v)

  -- the first entry is found
  found_first : (m : FinMap nat_cmp X) (e : ℕ × X) (es : List (ℕ × X)) → entries m ≡ e ∷ es → get m e.0 ≡ Some e.1
  found_first m e es is =
      get-entries m e.0 ∙ ap (find nat_cmp e.0) is
      ∙ ap (λ b. cond b (Some e.1) (find nat_cmp e.0 es)) (tied e.0)

  -- the first entry adds to the sum, or one of the others does
  some_step : (m : FinMap nat_cmp X) (es : List (ℕ × X)) → entries m ≡ es →
      ((k : ℕ) (v : X) → get m k ≡ Some v → 1 ≤ sum_by f (values (remove m k)) → AddsToSum (remove m k)) →
      1 ≤ sum_by f (values m) → AddsToSum m
  some_step m [] is rest h =
      let none : sum_by f (values m) ≡ 0 = ap (λ es. sum_by f (map (λ e. e.1) es)) is in
      absurd (omega (arith, none, h))
  some_step m (e ∷ es) is rest h = go (f e.1) refl
    where
      there : get m e.0 ≡ Some e.1
      there = found_first m e es is

      go : (n : ℕ) → f e.1 ≡ n → AddsToSum m
      go zero z =
          let w = rest e.0 e.1 there (omega (arith, h, z, total_without f m e.0 e.1 there)) in
          (w.0, w.1, left_was m e.0 w.0 w.1 w.2, w.3)
      go (suc n) z = (e.0, e.1, there, omega (arith, z))

  some_within : (n : ℕ) (m : FinMap nat_cmp X) → entry_count m ≤ n → 1 ≤ sum_by f (values m) → AddsToSum m
  some_within zero m few h =
      some_step m (entries m) refl (λ k v there _. absurd (omega (arith, few, fewer_entries m k v there))) h
  some_within (suc n) m few h =
      some_step m (entries m) refl
      (λ k v there more. some_within n (remove m k) (omega (arith, few, fewer_entries m k v there)) more) h

  -- where a sum over the values is not zero, some entry adds to it
  pub sum_some : (m : FinMap nat_cmp X) → 1 ≤ sum_by f (values m) → AddsToSum m
  sum_some m h = some_within (entry_count m) m (omega arith) h

-- a code that counts for another is that one
same_code : (c d : ℕ) → 1 ≤ cond (eqb d c) 1 0 → d ≡ c
same_code c d h = elim (cases_eq d c) [
  | inl same ↦ same
  | inr other ↦ absurd (omega (arith, h, counts_other c d other))
]

module _ (t : Table) (i : IsTable t) (still : t.moving ≡ None) (n : ℕ) where
  -- outside a move no use is that of a detached node
  no_detached : sum_by (λ (k : ℕ × List (ℕ × ℕ)). uses_in (2050 + n) k.1) (values t.detached) ≡ 0
  no_detached =
      sum_zero (λ (k : ℕ × List (ℕ × ℕ)). uses_in (2050 + n) k.1) t.detached
      (λ q x at. absurd (none-some x (sym (ap (λ m. get m q) (i.at_rest still) ∙ get-empty nat_cmp q) ∙ at)))

  -- a count of uses is that of a list of a node, of a loose run or of a root
  use_of : (lists runs held : ℕ)
      → sum_by (λ (k : ℕ × List (ℕ × ℕ)). uses_in (2050 + n) k.1) (values t.linked) ≡ lists
      → sum_by (uses_in (2050 + n)) (values t.loose) ≡ runs
      → sum_by (λ d. cond (eqb d (2050 + n)) 1 0) (values t.roots) ≡ held
      → 1 ≤ uses_of t (2050 + n) → IsUsed t n
  use_of (suc lists) runs held a b c h =
      let w = sum_some (λ (k : ℕ × List (ℕ × ℕ)). uses_in (2050 + n) k.1) t.linked (omega (arith, a)) in
      list_use w.0 w.1.0 w.1.1 w.2 (uses_stand (2050 + n) w.1.1 w.3)
  use_of zero (suc runs) held a b c h =
      let w = sum_some (uses_in (2050 + n)) t.loose (omega (arith, b)) in
      first_use (inr (w.0, w.1, w.2, uses_stand (2050 + n) w.1 w.3))
  use_of zero zero (suc held) a b c h =
      let w = sum_some (λ d. cond (eqb d (2050 + n)) 1 0) t.roots (omega (arith, c)) in
      first_use (inl (w.0, w.2 ∙ ap Some (same_code (2050 + n) w.1 w.3)))
  use_of zero zero zero a b c h = absurd (omega (arith, h, no_detached, a, b, c))

  -- a linked node that is not idle is used
  pub used_unless_idle : IsSome (get t.linked n) → ¬ IsIdle t n → IsUsed t n
  used_unless_idle linked busy = go (uses_of t (2050 + n)) refl
    where
      go : (count : ℕ) → uses_of t (2050 + n) ≡ count → IsUsed t n
      go zero z = absurd (busy (record { linked = linked; unused = z }))
      go (suc count) z = use_of _ _ _ refl refl refl (omega (arith, z))

-- A code that is not there is not used, and one that is not used stands nowhere.
use Rattle.std.proofs.Common.{◌≡◌, ℕ, cond, eqb, List, [], ◌∷◌, Option, Some, None}
use Rattle.std.proofs.Common.{refl, sym, ap, subst, ◌∙◌, arith}
use Rattle.std.proofs.lemmas.List.Sums.{sum_by-cons}
use Rattle.std.specs.FinMap.{get}
use Rattle.sd_vtree.specs.Numbered.{or_else}
use Rattle.sd_laws.specs.Values.{StandsIn}
use Rattle.sd_manager.specs.Table.{Table, key_at, uses_of, uses_in, uses_of_pair}
use Rattle.sd_manager.specs.Shown.{HasNode, AreThere}
use Rattle.sd_manager.specs.Valid.{IsTable}
use Rattle.sd_manager.proofs.Counted.{counts_same, counts_other}
use Rattle.sd_manager.proofs.Totals.{total_without, sum_zero}
use Rattle.sd_manager.proofs.Reading.{linked_key, detached_key}
use Rattle.sd_manager.proofs.Standing.{stands_uses}

-- what is not there

-- a code that is not there is not used in a list of codes that are
none_in : (t : Table) (c : ℕ) → ¬ HasNode t c → (l : List (ℕ × ℕ)) → AreThere t l → uses_in c l ≡ 0
none_in t c none [] h = refl
none_in t c none (pair ∷ l) h =
    omega (
      arith,
      sum_by-cons (uses_of_pair c) pair l,
      counts_other c pair.0 (λ same. none (subst (HasNode t) same h.0.0)),
      counts_other c pair.1 (λ same. none (subst (HasNode t) same h.0.1)),
      none_in t c none l h.1,
    )

-- a code that is not there is not used
pub not_used : (t : Table) → IsTable t → (c : ℕ) → ¬ HasNode t c → uses_of t c ≡ 0
not_used t i c none =
    omega (
      arith,
      sum_zero (λ (k : ℕ × List (ℕ × ℕ)). uses_in c k.1) t.linked
          (λ q k at. none_in t c none k.1 (i.closed q k (linked_key t q k at))),
      sum_zero (λ (k : ℕ × List (ℕ × ℕ)). uses_in c k.1) t.detached
          (λ q k at. none_in t c none k.1 (i.closed q k (detached_key t i q k at))),
      sum_zero (uses_in c) t.loose (λ start l at. none_in t c none l (i.closed_runs start l at)),
      sum_zero (λ held. cond (eqb held c) 1 0) t.roots
          (λ root d at. counts_other c d (λ same. none (subst (HasNode t) same (i.closed_roots root d at)))),
    )

-- what is not used

module _ (t : Table) (c : ℕ) (unused : uses_of t c ≡ 0) where
  -- it stands in the list of no linked node
  pub not_in_linked : (n : ℕ) (k : ℕ × List (ℕ × ℕ)) → get t.linked n ≡ Some k → ¬ StandsIn c k.1
  not_in_linked n k at stands =
      absurd (omega (
        arith,
        unused,
        total_without (λ (k : ℕ × List (ℕ × ℕ)). uses_in c k.1) t.linked n k at,
        stands_uses c k.1 stands,
      ))

  -- and in that of no detached one
  pub not_in_detached : (n : ℕ) (k : ℕ × List (ℕ × ℕ)) → get t.detached n ≡ Some k → ¬ StandsIn c k.1
  not_in_detached n k at stands =
      absurd (omega (
        arith,
        unused,
        total_without (λ (k : ℕ × List (ℕ × ℕ)). uses_in c k.1) t.detached n k at,
        stands_uses c k.1 stands,
      ))

  -- so in that of no node
  pub not_in_node : (n : ℕ) (k : ℕ × List (ℕ × ℕ)) → key_at t n ≡ Some k → ¬ StandsIn c k.1
  not_in_node n k at = go (get t.linked n) refl
    where
      go : (o : Option (ℕ × List (ℕ × ℕ))) → get t.linked n ≡ o → ¬ StandsIn c k.1
      go None none =
          not_in_detached n k (sym (ap (λ o. or_else o (get t.detached n)) none) ∙ at)
      go (Some l) some =
          let both : Some l ≡ Some k = sym (linked_key t n l some) ∙ at in
          not_in_linked n k (some ∙ both)

  -- it stands in no loose run
  pub not_in_run : (start : ℕ) (l : List (ℕ × ℕ)) → get t.loose start ≡ Some l → ¬ StandsIn c l
  not_in_run start l at stands =
      absurd (omega (arith, unused, total_without (uses_in c) t.loose start l at, stands_uses c l stands))

  -- and no root holds it
  pub not_held : (root d : ℕ) → get t.roots root ≡ Some d → ¬ (d ≡ c)
  not_held root d at same =
      absurd (omega (
        arith,
        unused,
        total_without (λ held. cond (eqb held c) 1 0) t.roots root d at,
        counts_same c d same,
      ))

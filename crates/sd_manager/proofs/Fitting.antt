-- A list that fits a place fits it in each order.
use Rattle.std.proofs.Common.{◌≡◌, ℕ, ◌≤◌, List, [], ◌∷◌, map, Option, Some, None, refl, arith}
use Rattle.std.proofs.lemmas.Bool.Decides.{nat_tests}
use Rattle.std.proofs.lemmas.List.Sorted.{IsPermutation-sym, length_permutation}
use Rattle.std.specs.List.Sorted.{IsPermutation}
use Rattle.std.specs.FinMap.{get}
use Rattle.sd_model.specs.Tree.{AreDistinct}
use Rattle.sd_laws.specs.Trimming.{trim_two, trim_of}
use Rattle.sd_laws.proofs.Lists.{all_permuted}
use Rattle.sd_laws.proofs.Made.{subs_differ_permuted}
use Rattle.sd_laws.proofs.Nodes.{partition_permuted}
use Rattle.sd_manager.specs.Table.{Table}
use Rattle.sd_manager.specs.Valid.{IsTable}
use Rattle.sd_manager.specs.Moving.{FitsNode}

-- two pairs that are trimmed have constants as their subs
trimmed_subs : (a b x y c : ℕ) → trim_two (x, a) (y, b) ≡ Some c → (a ≤ 1) × (b ≤ 1)
trimmed_subs a b x y c e = grind (arith, nat_tests)

-- and two pairs of two constants are trimmed
constants_trim : (a b x y : ℕ) → a ≤ 1 → b ≤ 1 → (a ≡ b → ⊥) → trim_two (x, a) (y, b) ≡ None → ⊥
constants_trim a b x y h k n e = grind (arith, nat_tests)

-- whether a list of different subs is trimmed does not hang on its order
pub trim_permuted : (l k : List (ℕ × ℕ)) → IsPermutation l k → AreDistinct (map (λ (e : ℕ × ℕ). e.1) l) →
    trim_of l ≡ None → trim_of k ≡ None
trim_permuted l [] p differ none = refl
trim_permuted [] (e ∷ []) p differ none = absurd (omega (arith, length_permutation [] (e ∷ []) p))
trim_permuted (x ∷ []) (e ∷ []) p differ none = absurd (cc)
trim_permuted (x ∷ y ∷ l) (e ∷ []) p differ none =
    absurd (omega (arith, length_permutation (x ∷ y ∷ l) (e ∷ []) p))
trim_permuted [] (e ∷ f ∷ []) p differ none = absurd (omega (arith, length_permutation [] (e ∷ f ∷ []) p))
trim_permuted (x ∷ []) (e ∷ f ∷ []) p differ none =
    absurd (omega (arith, length_permutation (x ∷ []) (e ∷ f ∷ []) p))
trim_permuted (x ∷ y ∷ []) (e ∷ f ∷ []) p differ none = go (trim_of (e ∷ f ∷ [])) refl
  where
    go : (o : Option ℕ) → trim_of (e ∷ f ∷ []) ≡ o → trim_of (e ∷ f ∷ []) ≡ None
    go None is = is
    go (Some c) is =
        let subs = trimmed_subs e.1 f.1 e.0 f.0 c is in
        let before = all_permuted (λ (d : ℕ × ℕ). d.1 ≤ 1) (e ∷ f ∷ []) (x ∷ y ∷ [])
        (IsPermutation-sym (x ∷ y ∷ []) (e ∷ f ∷ []) p) (subs.0, (subs.1, tt)) in
        absurd (constants_trim x.1 y.1 x.0 y.0 before.0 before.1.0 differ.0.0 none)
trim_permuted (x ∷ y ∷ z ∷ l) (e ∷ f ∷ []) p differ none =
    absurd (omega (arith, length_permutation (x ∷ y ∷ z ∷ l) (e ∷ f ∷ []) p))
trim_permuted l (e ∷ f ∷ g ∷ k) p differ none = refl

-- so what fits a place fits it in each order
pub fits_permuted : (t : Table) → IsTable t → (place : ℕ) (l k : List (ℕ × ℕ)) → FitsNode t place l →
    IsPermutation l k → FitsNode t place k
fits_permuted t i place l k fits p =
    let f = partition_permuted t.vtree (get t.linked) place l k fits.diagrams fits.partition p in
    record {
      diagrams = f.0;
      partition = f.2;
      differ = subs_differ_permuted t.vtree (get t.linked) i.numbered i.keys place l k fits.diagrams fits.partition p
          fits.differ;
      untrimmed = trim_permuted l k p fits.differ fits.untrimmed;
    }

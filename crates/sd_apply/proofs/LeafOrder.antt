-- Literals behind the positions of their leaves, sorted.
use Rattle.std.proofs.Common.{◌≡◌, ℕ, zero, suc, ◌+◌, ◌-◌, ◌≤◌, ◌<◌, ℤ, false, List, [], ◌∷◌, ◌++◌, length, map}
use Rattle.std.proofs.Common.{take, get_or, Some, slice_get, refl, sym, ◌∙◌, ap, subst, arith}
use Rattle.std.specs.List.{AllByRecursion}
use Rattle.std.specs.List.Sorted.{IsPermutation}
use Rattle.std.specs.Ordering.{nat_cmp, ordering_then, is_lt}
use Rattle.std.specs.declared.cmp.Ordering.{Ordering}
use Rattle.std.specs.declared.cmp.Ordering.TheVariants.{Less, Equal, Greater}
use Rattle.std.proofs.lemmas.Option.{same_Some, none-some, slice_get_within, get_or_from_slice_get}
use Rattle.std.proofs.lemmas.Map.Keys.{ge_from_not_lt}
use Rattle.sd_vtree.specs.Numbered.{Numbered}
use Rattle.sd_laws.proofs.Lists.{all_permuted}
use Rattle.sd_manager.specs.Literals.{IsLiteralTo}
use Rattle.sd_apply.specs.Group.{IsPlaced, AreOrdered}

-- one more that is placed
pub placed_push : (t : Numbered) (l : List (ℕ × ℤ)) (e : ℕ × ℤ) → AllByRecursion (IsPlaced t) l → IsPlaced t e →
    AllByRecursion (IsPlaced t) (l ++ e ∷ [])
placed_push t [] e h p = (p, tt)
placed_push t (x ∷ l) e h p = (h.0, placed_push t l e h.1 p)

placed_at : (t : Numbered) (l : List (ℕ × ℤ)) → AllByRecursion (IsPlaced t) l → (i : ℕ) (e : ℕ × ℤ) →
    slice_get l i ≡ Some e → IsPlaced t e
placed_at t [] h i e s = absurd (none-some e s)
placed_at t (x ∷ l) h zero e s = subst (IsPlaced t) (same_Some x e s) h.0
placed_at t (x ∷ l) h (suc i) e s = placed_at t l h.1 i e s

-- a literal of a list of literals
pub literal_in : (n : ℕ) (l : List ℤ) → AllByRecursion (IsLiteralTo n) l → (i : ℕ) (z : ℤ) → slice_get l i ≡ Some z →
    IsLiteralTo n z
literal_in n [] h i z s = absurd (none-some z s)
literal_in n (x ∷ l) h zero z s = subst (IsLiteralTo n) (same_Some x z s) h.0
literal_in n (x ∷ l) h (suc i) z s = literal_in n l h.1 i z s

-- a pair that is not less has a first part that is not less
first_least : (p q : ℕ) (second : Ordering) → is_lt (ordering_then (nat_cmp q p) second) ≡ false → p ≤ q
first_least p q second h = ge_from_not_lt q p (go (nat_cmp q p) h)
  where
    go : (o : Ordering) → is_lt (ordering_then o second) ≡ false → is_lt o ≡ false
    go Less h = h
    go Equal h = refl
    go Greater h = refl

-- what stands before an element of a list
before_at : (l : List (ℕ × ℤ)) (i : ℕ) (e : ℕ × ℤ) → slice_get l (suc i) ≡ Some e →
    (d : ℕ × ℤ) × (slice_get l i ≡ Some d)
before_at [] i e s = absurd (none-some e s)
before_at (x ∷ l) zero e s = (x, refl)
before_at (x ∷ l) (suc i) e s = before_at l i e s

-- no element is before the one before it, so none is before an earlier one
ascending_by : (l : List (ℕ × ℤ)) →
    ((k : ℕ) (d e : ℕ × ℤ) → slice_get l k ≡ Some d → slice_get l (suc k) ≡ Some e → d.0 ≤ e.0) →
    (n i : ℕ) (d e : ℕ × ℤ) → slice_get l i ≡ Some d → slice_get l (n + i) ≡ Some e → d.0 ≤ e.0
ascending_by l next zero i d e s q =
    let here : 0 + i ≡ i = omega arith in
    let same : d ≡ e = same_Some d e (sym s ∙ sym (ap (slice_get l) here) ∙ q) in
    omega (arith, ap (λ (x : ℕ × ℤ). x.0) same)
ascending_by l next (suc n) i d e s q =
    let up : suc n + i ≡ suc (n + i) = omega arith in
    let last : slice_get l (suc (n + i)) ≡ Some e = sym (ap (slice_get l) up) ∙ q in
    let m = before_at l (n + i) e last in
    omega (arith, ascending_by l next n i d m.0 s m.1, next (n + i) m.0 e m.1 last)

-- sorted literals that are placed are in the order of their leaves
pub ordered : (t : Numbered) (l : List (ℕ × ℤ)) → AllByRecursion (IsPlaced t) l →
    ((k : ℕ) (d : ℕ × ℤ) → 0 ≤ k → k + 1 < length l →
    (second : Ordering) × (is_lt (ordering_then (nat_cmp (get_or l (k + 1) d).0 (get_or l k d).0) second) ≡ false)) →
    AreOrdered t l
ordered t l h up = record {
  placed = λ i e s. placed_at t l h i e s;
  ascending = λ i j d e le s q.
      let n = j - i in
      let there : n + i ≡ j = omega (arith, le) in
      ascending_by l next n i d e s (ap (slice_get l) there ∙ q);
}
  where
    next : (k : ℕ) (d e : ℕ × ℤ) → slice_get l k ≡ Some d → slice_get l (suc k) ≡ Some e → d.0 ≤ e.0
    next k d e s q =
        let after : suc k ≡ k + 1 = omega arith in
        let q1 : slice_get l (k + 1) ≡ Some e = sym (ap (slice_get l) after) ∙ q in
        let within = slice_get_within l (k + 1) e q1 in
        let u = up k d (omega arith) within in
        let one = get_or_from_slice_get l k d d s in
        let two = get_or_from_slice_get l (k + 1) e d q1 in
        omega (
          arith,
          first_least (get_or l k d).0 (get_or l (k + 1) d).0 u.0 u.1,
          ap (λ (x : ℕ × ℤ). x.0) one,
          ap (λ (x : ℕ × ℤ). x.0) two,
        )

-- the literals in another order are placed as well
pub placed_permuted : (t : Numbered) (l s : List (ℕ × ℤ)) → IsPermutation l s → AllByRecursion (IsPlaced t) l →
    AllByRecursion (IsPlaced t) s
placed_permuted t l s p h = all_permuted (IsPlaced t) l s p h

-- one literal more
pub taken_next : (xs : List ℤ) (i : ℕ) (l new : List (ℕ × ℤ)) (e : ℕ × ℤ) → map (λ (e : ℕ × ℤ). e.1) l ≡ take i xs →
    slice_get xs i ≡ Some e.1 → new ≡ l ++ e ∷ [] → map (λ (e : ℕ × ℤ). e.1) new ≡ take (i + 1) xs
taken_next xs i l new e h s pushed =
    let next : suc i ≡ i + 1 = omega arith in
    ap (map (λ (e : ℕ × ℤ). e.1)) pushed ∙ map_push l e ∙ ap (λ k. k ++ e.1 ∷ []) h ∙ sym (taken xs i e.1 s)
    ∙ ap (λ k. take k xs) next
  where
    map_push : (l : List (ℕ × ℤ)) (e : ℕ × ℤ) →
        map (λ (e : ℕ × ℤ). e.1) (l ++ e ∷ []) ≡ map (λ (e : ℕ × ℤ). e.1) l ++ e.1 ∷ []
    map_push [] e = refl
    map_push (x ∷ l) e = ap (λ k. x.1 ∷ k) (map_push l e)

    taken : (xs : List ℤ) (i : ℕ) (z : ℤ) → slice_get xs i ≡ Some z → take (suc i) xs ≡ take i xs ++ z ∷ []
    taken [] i z s = absurd (none-some z s)
    taken (x ∷ xs) zero z s = ap (λ y. y ∷ []) (same_Some x z s)
    taken (x ∷ xs) (suc i) z s = ap (λ k. x ∷ k) (taken xs i z s)

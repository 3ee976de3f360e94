-- The pairs turned round and sorted.
use Rattle.std.proofs.Common.{◌≡◌, ℕ, ◌+◌, ◌≤◌, ◌<◌, false, List, ◌++◌, length, take}
use Rattle.std.proofs.Common.{drop, map, get_or, refl, sym, ◌∙◌, ap, subst, arith}
use Rattle.std.specs.Ordering.{nat_cmp, ordering_then, is_lt}
use Rattle.std.specs.List.Sorted.{IsPermutation, IsSorted}
use Rattle.std.specs.declared.cmp.Ordering.{Ordering}
use Rattle.std.specs.declared.cmp.Ordering.TheVariants.{Less, Equal, Greater}
use Rattle.std.proofs.lemmas.List.Sorted.{IsPermutation-map, IsPermutation-refl}
use Rattle.std.proofs.Math.ListN.{get_or-map, length-map}
use Rattle.std.proofs.Math.Seq.{take-append_seam}
use Rattle.std.proofs.lemmas.Map.Keys.{ge_from_not_lt}
use Rattle.sd_laws.proofs.Nodes.{pair_cmp}
use Rattle.sd_apply.specs.Elements.{sub_then_prime, Ascend}

-- what is written back over a list of the same length
pub refilled : (s l : List (ℕ × ℕ)) → length s ≡ length l →
    take (length l) (s ++ drop (length s) l) ≡ s
refilled s l e = ap (λ n. take n (s ++ drop (length s) l)) (sym e)
    ∙ take-append_seam s (drop (length s) l)

-- the sorted list has the pairs, turned round
pub sorted_order : (pairs l s : List (ℕ × ℕ)) → map sub_then_prime l ≡ pairs → IsPermutation l s →
    IsPermutation pairs (map sub_then_prime s)
sorted_order pairs l s e h = subst (λ x. IsPermutation x (map sub_then_prime s)) e (IsPermutation-map
    sub_then_prime l s h)

-- a pair that is not less has a first part that is not less
first_least : (x y : ℕ × ℕ) → is_lt (pair_cmp y x) ≡ false → x.0 ≤ y.0
first_least x y h = ge_from_not_lt y.0 x.0 (go (nat_cmp y.0 x.0) h)
  where
    go : (o : Ordering) → is_lt (ordering_then o (nat_cmp y.1 x.1)) ≡ false → is_lt o ≡ false
    go Less h = h
    go Equal h = refl
    go Greater h = refl

-- and its subs ascend
pub sorted_ascend : (s : List (ℕ × ℕ)) → IsSorted pair_cmp s → Ascend (map sub_then_prime s)
sorted_ascend s up = record {
  next = λ k lt.
      let d : ℕ × ℕ = (0, 0) in
      let one : (get_or (map sub_then_prime s) k (0, 0)).1 ≡ (get_or s k d).0 = ap (λ (e : ℕ × ℕ). e.1)
      (get_or-map sub_then_prime s k d) in
      let two : (get_or (map sub_then_prime s) (k + 1) (0, 0)).1 ≡ (get_or s (k + 1) d).0 =
      ap (λ (e : ℕ × ℕ). e.1) (get_or-map sub_then_prime s (k + 1) d) in
      let long = length-map s sub_then_prime in
      let most = first_least (get_or s k d) (get_or s (k + 1) d) (up k d (omega arith)
      (omega arith)) in
      omega (arith, one, two, most);
}

-- so do those of a list that was walked
pub walked_ascend : (s : List (ℕ × ℕ)) → ((k : ℕ) → k + 1 < length s →
    (get_or s k (0, 0)).0 ≤ (get_or s (k + 1) (0, 0)).0) → Ascend (map sub_then_prime s)
walked_ascend s up = record {
  next = λ k lt.
      let d : ℕ × ℕ = (0, 0) in
      let one : (get_or (map sub_then_prime s) k (0, 0)).1 ≡ (get_or s k d).0 = ap (λ (e : ℕ × ℕ). e.1)
      (get_or-map sub_then_prime s k d) in
      let two : (get_or (map sub_then_prime s) (k + 1) (0, 0)).1 ≡ (get_or s (k + 1) d).0 =
      ap (λ (e : ℕ × ℕ). e.1) (get_or-map sub_then_prime s (k + 1) d) in
      let long = length-map s sub_then_prime in
      let most = up k (omega (arith, lt, long)) in
      omega (arith, one, two, most);
}

-- the pairs in their order
pub same_order : (pairs l : List (ℕ × ℕ)) → map sub_then_prime l ≡ pairs →
    IsPermutation pairs (map sub_then_prime l)
same_order pairs l e = subst (λ x. IsPermutation x (map sub_then_prime l)) e
    (IsPermutation-refl (map sub_then_prime l))

-- a turned pair of the list
pub sub_then_prime_at : (s : List (ℕ × ℕ)) (i : ℕ) → sub_then_prime (get_or s i (0, 0))
    ≡ get_or (map sub_then_prime s) i
    (0, 0)
sub_then_prime_at s i = sym (get_or-map sub_then_prime s i (0, 0))

pub length_sub_then_prime : (s : List (ℕ × ℕ)) → length (map sub_then_prime s) ≡ length s
length_sub_then_prime s = length-map s sub_then_prime

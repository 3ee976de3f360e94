-- Pairs whose primes ascend are sorted.
use Rattle.std.proofs.Common.{◌≡◌, ℕ, ◌+◌, ◌<◌, List, length, get_or, sym, ap, arith}
use Rattle.std.proofs.lemmas.List.{get_or_default}
use Rattle.std.specs.Cmp.{nat_cmp_is}
use Rattle.std.specs.List.Sorted.{IsSorted}
use Rattle.std.specs.Ordering.{nat_cmp, is_lt, ordering_then}
use Rattle.std.specs.declared.cmp.Ordering.TheVariants.{Greater}
use Rattle.sd_laws.proofs.Nodes.{pair_cmp}

-- where each prime is greater than the one before it no pair is less than that
pub ascending_sorted : (l : List (ℕ × ℕ)) →
    ((k : ℕ) → k + 1 < length l → (get_or l k (0, 0)).0 < (get_or l (k + 1) (0, 0)).0) → IsSorted pair_cmp l
ascending_sorted l up k d least most =
    let z : ℕ × ℕ = (0, 0) in
    let x = get_or l k d in
    let y = get_or l (k + 1) d in
    let one : x.0 ≡ (get_or l k z).0 = ap (λ (e : ℕ × ℕ). e.0) (get_or_default l k d z (omega (arith, most))) in
    let two : y.0 ≡ (get_or l (k + 1) z).0 = ap (λ (e : ℕ × ℕ). e.0)
    (get_or_default l (k + 1) d z (omega (arith, most))) in
    let before = up k (omega (arith, most)) in
    let less : x.0 < y.0 = omega (arith, before, one, two) in
    ap (λ o. is_lt (ordering_then o (nat_cmp y.1 x.1))) (sym (nat_cmp_is y.0 x.0 Greater less))

-- What is made of a partition whose pairs of codes were sorted.
use Rattle.std.proofs.Common.{◌≡◌, ℕ, ◌+◌, ◌≤◌, List, map, length, Some, None, arith}
use Rattle.std.specs.List.Sorted.{IsPermutation, IsStrictlySortedBy, IsSorted}
use Rattle.std.specs.Ordering.{nat_cmp}
use Rattle.std.proofs.lemmas.List.Sorted.{IsPermutation-sym}
use Rattle.sd_model.specs.Tree.{AreDistinct}
use Rattle.sd_model.specs.Diagram.{Diagram, meaning}
use Rattle.sd_vtree.specs.Numbered.{Numbered, IsNumbered}
use Rattle.sd_laws.specs.Pairs.{HasValue}
use Rattle.sd_laws.specs.Shown.{Lookup, Shows, AreKeys, Keeps, ShowsCanonical, IsPartitionAt}
use Rattle.sd_laws.specs.Trimming.{trim_of}
use Rattle.sd_laws.proofs.Lists.{zip_length}
use Rattle.sd_laws.proofs.Pairs.{HasValue_permuted, IsCompressed_permuted}
use Rattle.sd_laws.proofs.Nodes.{pair_cmp, partition_permuted, subs_differ, sub_codes_differ, prime_codes_differ}
use Rattle.sd_laws.proofs.Nodes.{codes_ascend, trimmed_node, new_node, untrimmed}

-- the code shows a canonical diagram with the value of the pairs
abbrev pub Makes : Numbered → Lookup → ℕ → List (Diagram × Diagram) → Type 0
Makes t at c ds = (z : Diagram) × ShowsCanonical t at c z × HasValue ds (meaning z)

-- pairs of codes of different subs have different subs in each order
pub subs_differ_permuted : (t : Numbered) (at : Lookup) → IsNumbered t → AreKeys at → (u : ℕ) (l k : List (ℕ × ℕ))
    (ds : List (Diagram × Diagram)) → IsPartitionAt t at u l ds → IsPermutation l k → AreDistinct (map (λ e. e.1) l) →
    AreDistinct (map (λ e. e.1) k)
subs_differ_permuted t at v keys u l k ds h p differ =
    let f = partition_permuted t at u l k ds h p in
    sub_codes_differ t at v k f.0 f.2.shown
    (IsCompressed_permuted ds f.0 f.1 (subs_differ t at keys l ds h.shown differ))

-- the sorted pairs ascend strictly by their primes
pub sorted_codes : (t : Numbered) (at : Lookup) → IsNumbered t → (u : ℕ) (l k : List (ℕ × ℕ))
    (ds : List (Diagram × Diagram)) → IsPartitionAt t at u l ds → IsPermutation l k → IsSorted pair_cmp k →
    IsStrictlySortedBy nat_cmp (map (λ e. e.0) k)
sorted_codes t at v u l k ds h p up =
    let f = partition_permuted t at u l k ds h p in
    codes_ascend k up (prime_codes_differ t at v u k f.0 f.2)

-- the code to which the sorted pairs are trimmed
pub makes_trimmed : (t : Numbered) (at : Lookup) → IsNumbered t → (u : ℕ) (l k : List (ℕ × ℕ))
    (ds : List (Diagram × Diagram)) → IsPartitionAt t at u l ds → IsPermutation l k → (c : ℕ) → trim_of k ≡ Some c →
    Makes t at c ds
makes_trimmed t at v u l k ds h p c e =
    let f = partition_permuted t at u l k ds h p in
    let z = trimmed_node t at v u k f.0 f.2 c e in
    (z.0, z.1, HasValue_permuted f.0 ds (meaning z.0) (IsPermutation-sym ds f.0 f.1) z.2)

-- the node that has the sorted pairs, where they are not trimmed; it may be a new one
pub made_node : (t : Numbered) (old new : Lookup) → IsNumbered t → AreKeys old → (u n : ℕ) (l k : List (ℕ × ℕ))
    (ds : List (Diagram × Diagram)) → IsPartitionAt t old u l ds → IsPermutation l k → AreDistinct (map (λ e. e.1) l) →
    trim_of k ≡ None → Keeps old new → new n ≡ Some (u, k) → Makes t new (2050 + n) ds
made_node t old new v keys u n l k ds h p differ none keeps stored =
    let f = partition_permuted t old u l k ds h p in
    let z = new_node t old new v keys u n k f.0 f.2 (subs_differ_permuted t old v keys u l k ds h p differ) none keeps
    stored in
    (z.0, z.1, HasValue_permuted f.0 ds (meaning z.0) (IsPermutation-sym ds f.0 f.1) z.2)

-- pairs that are not trimmed are at least two
pub made_several : (t : Numbered) (at : Lookup) → IsNumbered t → AreKeys at → (u : ℕ) (l k : List (ℕ × ℕ))
    (ds : List (Diagram × Diagram)) → IsPartitionAt t at u l ds → IsPermutation l k → AreDistinct (map (λ e. e.1) l) →
    trim_of k ≡ None → 2 ≤ length k
made_several t at v keys u l k ds h p differ none =
    let f = partition_permuted t at u l k ds h p in
    let R : ℕ × ℕ → Diagram × Diagram → Type 0 = λ e d. Shows t at e.0 d.0 × Shows t at e.1 d.1 in
    let w = untrimmed t at k f.0 f.2.shown f.2.partition.one_true
    (IsCompressed_permuted ds f.0 f.1 (subs_differ t at keys l ds h.shown differ))
    (subs_differ_permuted t at v keys u l k ds h p differ) none in
    omega (arith, w.0, zip_length R k f.0 f.2.shown)

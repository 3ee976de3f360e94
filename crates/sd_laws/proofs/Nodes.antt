-- Nodes of partitions: what trimming gives, and what a new node shows.
use Rattle.std.proofs.Common.{◌≡◌, ◌≢◌, ◌⊎◌, inl, inr, ℕ, zero, suc, ◌+◌, ◌*◌, ◌≤◌, ◌<◌, Bool, true, false, ◌&&◌}
use Rattle.std.proofs.Common.{List, [], ◌∷◌, length, map, get_or, Some, None, slice_get}
use Rattle.std.proofs.Common.{refl, sym, ◌∙◌, ap, subst, arith}
use Rattle.std.specs.List.{AllByRecursion, AllZip, list_all}
use Rattle.std.specs.List.Sorted.{IsPermutation, IsStrictlySortedBy, IsSorted, IsStrictlyIncreasing}
use Rattle.std.specs.Option.{IsSome}
use Rattle.std.specs.Ordering.{nat_cmp, ordering_then, is_lt}
use Rattle.std.specs.declared.cmp.Ordering.{Ordering}
use Rattle.std.specs.declared.cmp.Ordering.TheVariants.{Less, Equal, Greater}
use Rattle.std.proofs.Math.ListN as std_list
use Rattle.std.proofs.lemmas.Bool.Decides.{nat_tests}
use Rattle.std.proofs.lemmas.List.{length-map}
use Rattle.std.proofs.lemmas.List.Sorted.{IsPermutation-sym}
use Rattle.std.proofs.lemmas.Map.Keys.{ge_from_not_lt, sorted_from_strictly_increasing}
use Rattle.sd_model.specs.Tree.{Tree, Node, leaves, position, AreDistinct}
use Rattle.sd_model.specs.Diagram.{Diagram, Bottom, Top, Literal, Decomposition, Elements, subs, primes, meaning}
use Rattle.sd_model.specs.Diagram.{is_constant, diagram_cmp}
use Rattle.sd_model.specs.Canonical.{IsElement, IsCompressedPartition, IsCanonical, AreDifferent, canonical_in_left}
use Rattle.sd_model.specs.Canonical.{canonical_in_right, canonical_decomposition}
use Rattle.sd_model.proofs.Blend.{IsApart}
use Rattle.sd_model.proofs.OverVtree.{vtree_apart}
use Rattle.sd_model.proofs.Partition.{value_at_chosen}
use Rattle.sd_vtree.specs.Numbered.{Numbered, numbers, plain_tree, IsNumbered}
use Rattle.sd_laws.specs.Pairs.{from_pairs, IsOneTrue, IsCompressed, HasValue, sorted, decomposed}
use Rattle.sd_laws.specs.Shown.{Lookup, HasPairs, Shows, ShowPairs, AreKeys, Keeps, ShowsCanonical, IsPartitionAt}
use Rattle.sd_laws.specs.Trimming.{trim_two, trim_of}
use Rattle.sd_laws.proofs.Lists.{zip_weaker, IsAmong, within_permuted, first_permuted, second_permuted}
use Rattle.std.proofs.lemmas.Option.{some_pair_parts}
use Rattle.sd_laws.proofs.Pairs.{IsPartition_permuted, subs_pairs}
use Rattle.sd_laws.proofs.Joining.{lift_left, lift_right, primes_differ, sorted_ascends, sorted_permutation}
use Rattle.sd_laws.proofs.Joining.{three_trimmed, decomposed_canonical, decomposed_value, single_value}
use Rattle.sd_laws.proofs.Joining.{first_value, second_value}
use Rattle.sd_laws.proofs.Codes.{one_diagram, one_code, literal_range, bottom_from_code, top_from_code}
use Rattle.sd_laws.proofs.Codes.{inner_from_code, element_of_pair, pair_of_element, list_kept, elements_shown}
use Rattle.sd_laws.proofs.Places.{canonical_lifts, part_apart}

-- the pairs of a node that is shown

-- each pair that is stored shows an element
pub element_shown : (t : Numbered) (at : Lookup) (c p : ℕ) (es : Elements) → Shows t at c (Decomposition p es) →
    (n u : ℕ) (l : List (ℕ × ℕ)) → c ≡ 2050 + n → at n ≡ Some (u, l) → (e : ℕ × ℕ) → IsAmong e l →
    (x : Diagram) × (s : Diagram) × IsElement x s es × Shows t at e.0 x × Shows t at e.1 s
element_shown t at c p es h n u l code stored e m =
    let k : HasPairs t at c p h.0 = h.1 in
    let number : k.number ≡ n = omega (arith, k.code) in
    let same : Some (k.place, k.list) ≡ Some (u, l) = sym k.stored ∙ ap at number ∙ stored in
    let list : k.list ≡ l = (some_pair_parts k.place u k.list l same).1 in
    element_of_pair t at h.0 es h.2 e
    (within_permuted h.0 k.list (IsPermutation-sym k.list h.0 k.order) e (subst (IsAmong e) (sym list) m))

-- and each element is shown by a pair that is stored
pub pair_stored : (t : Numbered) (at : Lookup) (c p : ℕ) (es : Elements) → Shows t at c (Decomposition p es) →
    (n u : ℕ) (l : List (ℕ × ℕ)) → c ≡ 2050 + n → at n ≡ Some (u, l) → (x s : Diagram) → IsElement x s es →
    (e : ℕ × ℕ) × IsAmong e l × Shows t at e.0 x × Shows t at e.1 s
pair_stored t at c p es h n u l code stored x s m =
    let k : HasPairs t at c p h.0 = h.1 in
    let number : k.number ≡ n = omega (arith, k.code) in
    let same : Some (k.place, k.list) ≡ Some (u, l) = sym k.stored ∙ ap at number ∙ stored in
    let list : k.list ≡ l = (some_pair_parts k.place u k.list l same).1 in
    let e = pair_of_element t at h.0 es h.2 m in
    (e.0, subst (IsAmong e.0) list (within_permuted k.list h.0 k.order e.0 e.1), e.2, e.3)

-- the place of a decomposition stands at its position
pub place_stored : (t : Numbered) (at : Lookup) (c p : ℕ) (es : Elements) → Shows t at c (Decomposition p es) →
    (n u : ℕ) (l : List (ℕ × ℕ)) → c ≡ 2050 + n → at n ≡ Some (u, l) → slice_get (numbers t) p ≡ Some u
place_stored t at c p es h n u l code stored =
    let k : HasPairs t at c p h.0 = h.1 in
    let number : k.number ≡ n = omega (arith, k.code) in
    let same : Some (k.place, k.list) ≡ Some (u, l) = sym k.stored ∙ ap at number ∙ stored in
    k.position ∙ ap Some (some_pair_parts k.place u k.list l same).0

-- a canonical decomposition has a partition
pub partition_of_canonical : {t : Tree} {b q : ℕ} {es : Elements} → IsCanonical t b (Decomposition q es) →
    IsCompressedPartition es
partition_of_canonical (canonical_in_left e k) = partition_of_canonical k
partition_of_canonical (canonical_in_right e k) = partition_of_canonical k
partition_of_canonical (canonical_decomposition ps ss partition) = partition

-- of canonical primes and subs
pub elements_canonical : {t : Tree} {b q : ℕ} {es : Elements} → IsCanonical t b (Decomposition q es) →
    (p s : Diagram) → IsElement p s es → IsCanonical t b p × IsCanonical t b s
elements_canonical (canonical_in_left {l = l} {r = r} {base = base} e k) p s m =
    let h = elements_canonical k p s m in (lift_left l r base p h.0, lift_left l r base s h.1)
elements_canonical (canonical_in_right {l = l} {r = r} {base = base} e k) p s m =
    let h = elements_canonical k p s m in (lift_right l r base p h.0, lift_right l r base s h.1)
elements_canonical (canonical_decomposition {l = l} {r = r} {base = base} ps ss partition) p s m =
    (lift_left l r base p (ps p s m), lift_right l r base s (ss p s m))

-- a pair whose prime is true has the decomposition's value in its sub
pub chosen_value : (t : Numbered) (at : Lookup) → IsNumbered t → (c p : ℕ) (es : Elements) →
    Shows t at c (Decomposition p es) → IsCompressedPartition es →
    (n u : ℕ) (l : List (ℕ × ℕ)) → c ≡ 2050 + n → at n ≡ Some (u, l) → (e : ℕ × ℕ) → IsAmong e l →
    (prime sub : Diagram) → Shows t at e.0 prime → Shows t at e.1 sub → (a : List Bool) → meaning prime a ≡ true →
    meaning (Decomposition p es) a ≡ meaning sub a
chosen_value t at v c p es h partition n u l code stored e m prime sub hp hs a holds =
    let w = element_shown t at c p es h n u l code stored e m in
    let x : w.0 ≡ prime = one_diagram t at v w.0 e.0 prime w.3 hp in
    let y : w.1 ≡ sub = one_diagram t at v w.1 e.1 sub w.4 hs in
    value_at_chosen w.2 a (partition.one_prime a) (ap (λ d. meaning d a) x ∙ holds) ∙ ap (λ d. meaning d a) y

-- a code that shows something is of a constant, a literal or a node
pub code_of_node : (t : Numbered) (at : Lookup) → IsNumbered t → (c : ℕ) (d : Diagram) → Shows t at c d →
    (c < 2 * leaves (plain_tree t) + 2) ⊎ ((n : ℕ) × (c ≡ 2050 + n) × IsSome (at n))
code_of_node t at v c Bottom h = inl (omega arith)
code_of_node t at v c Top h = inl (omega arith)
code_of_node t at v c (Literal p x s) h = inl (literal_range t at v c p x s h).1
code_of_node t at v c (Decomposition p es) h =
    inr (h.1.number, h.1.code, subst IsSome (sym h.1.stored) refl)

-- orders of codes

-- pairs of codes of a partition, in another order, are a partition in another order
pub partition_permuted : (t : Numbered) (at : Lookup) (u : ℕ) (l k : List (ℕ × ℕ)) (ds : List (Diagram × Diagram)) →
    IsPartitionAt t at u l ds → IsPermutation l k →
    (fs : List (Diagram × Diagram)) × IsPermutation ds fs × IsPartitionAt t at u k fs
partition_permuted t at u l k ds h p =
    let R : ℕ × ℕ → Diagram × Diagram → Type 0 = λ e d. Shows t at e.0 d.0 × Shows t at e.1 d.1 in
    let f = first_permuted R l ds k h.shown p in (
      f.0,
      f.1,
      record {
        left = h.left;
        right = h.right;
        base = h.base;
        inner = h.inner;
        shown = f.2;
        partition = IsPartition_permuted h.left h.right h.base ds f.0 f.1 h.partition;
      },
    )

-- codes of different diagrams differ
codes_differ : (t : Numbered) (at : Lookup) → IsNumbered t → (f : ℕ × ℕ → ℕ) (g : Diagram × Diagram → Diagram) →
    (l : List (ℕ × ℕ)) (ds : List (Diagram × Diagram)) → AllZip (λ e d. Shows t at (f e) (g d)) l ds →
    AreDifferent (map g ds) → AreDistinct (map f l)
codes_differ t at v f g [] ds h k = tt
codes_differ t at v f g (e ∷ l) [] h k = absurd h
codes_differ t at v f g (e ∷ l) (d ∷ ds) h k = (each l ds h.1 k.0, codes_differ t at v f g l ds h.1 k.1)
  where
    each : (l : List (ℕ × ℕ)) (ds : List (Diagram × Diagram)) → AllZip (λ e d. Shows t at (f e) (g d)) l ds →
        AllByRecursion (λ x. g d ≢ x) (map g ds) → AllByRecursion (λ y. f e ≢ y) (map f l)
    each [] ds h k = tt
    each (x ∷ l) [] h k = absurd h
    each (x ∷ l) (y ∷ ds) h' k = (
      λ same. k.0 (one_diagram t at v (g d) (f e) (g y) h.0 (subst (λ c. Shows t at c (g y)) (sym same) h'.0)),
      each l ds h'.1 k.1,
    )

-- diagrams of different codes differ
diagrams_differ : (t : Numbered) (at : Lookup) → AreKeys at → (f : ℕ × ℕ → ℕ) (g : Diagram × Diagram → Diagram) →
    (l : List (ℕ × ℕ)) (ds : List (Diagram × Diagram)) → AllZip (λ e d. Shows t at (f e) (g d)) l ds →
    AreDistinct (map f l) → AreDifferent (map g ds)
diagrams_differ t at keys f g [] [] h k = tt
diagrams_differ t at keys f g [] (d ∷ ds) h k = absurd h
diagrams_differ t at keys f g (e ∷ l) [] h k = tt
diagrams_differ t at keys f g (e ∷ l) (d ∷ ds) h k = (each l ds h.1 k.0, diagrams_differ t at keys f g l ds h.1 k.1)
  where
    each : (l : List (ℕ × ℕ)) (ds : List (Diagram × Diagram)) → AllZip (λ e d. Shows t at (f e) (g d)) l ds →
        AllByRecursion (λ y. f e ≢ y) (map f l) → AllByRecursion (λ x. g d ≢ x) (map g ds)
    each [] [] h k = tt
    each [] (y ∷ ds) h k = absurd h
    each (x ∷ l) [] h k = tt
    each (x ∷ l) (y ∷ ds) h' k = (
      λ same. k.0 (one_code t at keys (g d) (f e) (f x) h.0 (subst (Shows t at (f x)) (sym same) h'.0)),
      each l ds h'.1 k.1,
    )

-- pairs whose subs have different codes are compressed
pub subs_differ : (t : Numbered) (at : Lookup) → AreKeys at → (l : List (ℕ × ℕ)) (ds : List (Diagram × Diagram)) →
    ShowPairs t at l ds → AreDistinct (map (λ e. e.1) l) → IsCompressed ds
subs_differ t at keys l ds h k =
    subst AreDifferent (sym (subs_pairs ds))
    (diagrams_differ t at keys (λ e. e.1) (λ d. d.1) l ds
    (zip_weaker (λ e d. Shows t at e.0 d.0 × Shows t at e.1 d.1) (λ e d. Shows t at e.1 d.1) (λ x y h. h.1) l ds h) k)

-- and compressed pairs have subs of different codes
pub sub_codes_differ : (t : Numbered) (at : Lookup) → IsNumbered t → (l : List (ℕ × ℕ))
    (ds : List (Diagram × Diagram)) → ShowPairs t at l ds → IsCompressed ds → AreDistinct (map (λ e. e.1) l)
sub_codes_differ t at v l ds h k =
    codes_differ t at v (λ e. e.1) (λ d. d.1) l ds
    (zip_weaker (λ e d. Shows t at e.0 d.0 × Shows t at e.1 d.1) (λ e d. Shows t at e.1 d.1) (λ x y h. h.1) l ds h)
    (subst AreDifferent (subs_pairs ds) k)

-- a vtree has no variable on both sides of a node that is split
split_apart : (t : Numbered) (at : Lookup) (u : ℕ) (l : List (ℕ × ℕ)) (ds : List (Diagram × Diagram)) → IsNumbered t →
    (h : IsPartitionAt t at u l ds) → IsApart (leaves (plain_tree t)) (Node h.left h.right)
split_apart t at u l ds v h =
    part_apart (leaves (plain_tree t)) h.inner.part (vtree_apart (plain_tree t) v.vtree)

-- the codes of the primes of a partition differ
pub prime_codes_differ : (t : Numbered) (at : Lookup) → IsNumbered t → (u : ℕ) (l : List (ℕ × ℕ))
    (ds : List (Diagram × Diagram)) → IsPartitionAt t at u l ds → AreDistinct (map (λ e. e.0) l)
prime_codes_differ t at v u l ds h =
    codes_differ t at v (λ e. e.0) (λ d. d.0) l ds
    (zip_weaker (λ e d. Shows t at e.0 d.0 × Shows t at e.1 d.1) (λ e d. Shows t at e.0 d.0) (λ x y h. h.0) l ds
    h.shown)
    (primes_differ (leaves (plain_tree t)) h.left h.right h.base ds (split_apart t at u l ds v h).1 h.partition)

-- neighbours in a list without copies differ
neighbours : (xs : List ℕ) → AreDistinct xs → (k : ℕ) → suc k < length xs → get_or xs k 0 ≢ get_or xs (suc k) 0
neighbours [] h k lt = absurd (omega arith)
neighbours (x ∷ []) h k lt = absurd (omega arith)
neighbours (x ∷ y ∷ xs) h zero lt = h.0.0
neighbours (x ∷ y ∷ xs) h (suc k) lt = neighbours (y ∷ xs) h.1 k (omega arith)

-- the order of pairs of numbers
abbrev pub pair_cmp : ℕ × ℕ → ℕ × ℕ → Ordering
pair_cmp x y = ordering_then (nat_cmp x.0 y.0) (nat_cmp x.1 y.1)

-- a pair that is not less has a first part that is not less
first_not_less : (x y : ℕ × ℕ) → is_lt (pair_cmp y x) ≡ false → x.0 ≤ y.0
first_not_less x y h = ge_from_not_lt y.0 x.0 (go (nat_cmp y.0 x.0) h)
  where
    go : (o : Ordering) → is_lt (ordering_then o (nat_cmp y.1 x.1)) ≡ false → is_lt o ≡ false
    go Less h = h
    go Equal h = refl
    go Greater h = refl

-- a sorted list of pairs with different first parts ascends strictly by them
pub codes_ascend : (l : List (ℕ × ℕ)) → IsSorted pair_cmp l → AreDistinct (map (λ e. e.0) l) →
    IsStrictlySortedBy nat_cmp (map (λ e. e.0) l)
codes_ascend l up h = sorted_from_strictly_increasing (map first l) rises
  where
    first : ℕ × ℕ → ℕ
    first e = e.0

    rises : IsStrictlyIncreasing (map (λ (e : ℕ × ℕ). e.0) l)
    rises k lt =
        let next : k + 1 ≡ suc k = omega arith in
        let long = length-map l (λ (e : ℕ × ℕ). e.0) in
        let d : ℕ × ℕ = (0, 0) in
        let one : get_or (map (λ (e : ℕ × ℕ). e.0) l) k 0 ≡ (get_or l k d).0 =
        std_list.get_or-map (λ (e : ℕ × ℕ). e.0) l k d in
        let two : get_or (map (λ (e : ℕ × ℕ). e.0) l) (k + 1) 0 ≡ (get_or l (k + 1) d).0 =
        std_list.get_or-map (λ (e : ℕ × ℕ). e.0) l (k + 1) d in
        let most : (get_or l k d).0 ≤ (get_or l (k + 1) d).0 =
        first_not_less (get_or l k d) (get_or l (k + 1) d) (up k d (omega arith) (omega arith)) in
        let differ : get_or (map (λ (e : ℕ × ℕ). e.0) l) k 0 ≢ get_or (map (λ (e : ℕ × ℕ). e.0) l) (k + 1) 0 =
        subst (λ j. get_or (map (λ (e : ℕ × ℕ). e.0) l) k 0 ≢ get_or (map (λ (e : ℕ × ℕ). e.0) l) j 0) (sym next)
        (neighbours (map (λ (e : ℕ × ℕ). e.0) l) h k (omega arith)) in
        grind (arith, differ)

-- trimming

-- what the trimming of two pairs says of their subs
trim_cases : (a b x y c : ℕ) → trim_two (x, a) (y, b) ≡ Some c →
    ((a ≡ 1) × (b ≡ 0) × (c ≡ x)) ⊎ ((a ≡ 0) × (b ≡ 1) × (c ≡ y))
trim_cases a b x y c e = grind (arith, nat_tests)

-- and where nothing is trimmed
trim_none : (a b x y : ℕ) → trim_two (x, a) (y, b) ≡ None → (a ≡ b → ⊥) → (2 ≤ a) ⊎ (2 ≤ b)
trim_none a b x y e n = grind (arith, nat_tests)

-- the sub of one pair is a node with its value
trimmed_one : (t : Numbered) (at : Lookup) (u : ℕ) (e : ℕ × ℕ) (d : Diagram × Diagram) →
    IsPartitionAt t at u (e ∷ []) (d ∷ []) → (z : Diagram) × ShowsCanonical t at e.1 z × HasValue (d ∷ []) (meaning z)
trimmed_one t at u e d h = (
  d.1,
  record {
    shows = h.shown.0.1;
    canonical =
        canonical_lifts h.inner.part d.1 (lift_right h.left h.right h.base d.1 h.partition.elements.subs.0);
  },
  single_value d h.partition.one_true,
)

-- a prime of two pairs is a node for the vtree
trimmed_prime : (t : Numbered) (at : Lookup) (u : ℕ) (l : List (ℕ × ℕ)) (ds : List (Diagram × Diagram)) →
    (h : IsPartitionAt t at u l ds) → (c : ℕ) (p : Diagram) → Shows t at c p → IsCanonical h.left h.base p →
    ShowsCanonical t at c p
trimmed_prime t at u l ds h c p shows k =
    record { shows = shows; canonical = canonical_lifts h.inner.part p (lift_left h.left h.right h.base p k) }

-- the code to which pairs are trimmed shows a canonical diagram with their value
pub trimmed_node : (t : Numbered) (at : Lookup) → IsNumbered t → (u : ℕ) (l : List (ℕ × ℕ))
    (ds : List (Diagram × Diagram)) → IsPartitionAt t at u l ds → (c : ℕ) → trim_of l ≡ Some c →
    (z : Diagram) × ShowsCanonical t at c z × HasValue ds (meaning z)
trimmed_node t at v u [] ds h c eq = absurd (cc)
trimmed_node t at v u (e ∷ []) [] h c eq = absurd h.shown
trimmed_node t at v u (e ∷ []) (d ∷ g ∷ ds) h c eq = absurd h.shown.1
trimmed_node t at v u (e ∷ []) (d ∷ []) h c eq =
    let same : e.1 ≡ c = cc in
    subst (λ x. (z : Diagram) × ShowsCanonical t at x z × HasValue (d ∷ []) (meaning z)) same (trimmed_one t at u e d h)
trimmed_node t at v u (e ∷ f ∷ []) [] h c eq = absurd h.shown
trimmed_node t at v u (e ∷ f ∷ []) (d ∷ []) h c eq = absurd h.shown.1
trimmed_node t at v u (e ∷ f ∷ []) (d ∷ g ∷ k ∷ ds) h c eq = absurd h.shown.1.1
trimmed_node t at v u (e ∷ f ∷ []) (d ∷ g ∷ []) h c eq = elim (trim_cases e.1 f.1 e.0 f.0 c eq) [
  | inl w ↦
      let a = top_from_code t at v d.1 (subst (λ x. Shows t at x d.1) w.0 h.shown.0.1) in
      let b = bottom_from_code t at v g.1 (subst (λ x. Shows t at x g.1) w.1 h.shown.1.0.1) in (
        d.0,
        trimmed_prime t at u (e ∷ f ∷ []) (d ∷ g ∷ []) h c d.0 (subst (λ x. Shows t at x d.0) (sym w.2) h.shown.0.0)
            h.partition.elements.primes.0,
        first_value d g a b h.partition.one_true,
      )
  | inr w ↦
      let a = bottom_from_code t at v d.1 (subst (λ x. Shows t at x d.1) w.0 h.shown.0.1) in
      let b = top_from_code t at v g.1 (subst (λ x. Shows t at x g.1) w.1 h.shown.1.0.1) in (
        g.0,
        trimmed_prime t at u (e ∷ f ∷ []) (d ∷ g ∷ []) h c g.0 (subst (λ x. Shows t at x g.0) (sym w.2) h.shown.1.0.0)
            h.partition.elements.primes.1.0,
        second_value d g a b h.partition.one_true,
      )
]
trimmed_node t at v u (e ∷ f ∷ g ∷ l) ds h c eq = absurd (cc)

-- one of two truth values is false
one_false : (b c : Bool) → (b ≡ false) ⊎ (c ≡ false) → (b && (c && true)) ≡ false
one_false b c (inl e) = rw e refl
one_false true c (inr e) = rw e refl
one_false false c (inr e) = refl

-- pairs that are not trimmed are several, and one of their subs is no constant
pub untrimmed : (t : Numbered) (at : Lookup) (l : List (ℕ × ℕ)) (ds : List (Diagram × Diagram)) → ShowPairs t at l ds →
    IsOneTrue ds → IsCompressed ds → AreDistinct (map (λ e. e.1) l) → trim_of l ≡ None →
    (2 ≤ length ds) × (list_all is_constant (subs (from_pairs ds)) ≡ false)
untrimmed t at [] [] h one k differ e = absurd (omega (arith, one []))
untrimmed t at [] (d ∷ ds) h one k differ e = absurd h
untrimmed t at (x ∷ []) ds h one k differ e = absurd (cc)
untrimmed t at (x ∷ y ∷ l) [] h one k differ e = absurd h
untrimmed t at (x ∷ y ∷ l) (d ∷ []) h one k differ e = absurd h.1
untrimmed t at (x ∷ y ∷ []) (d ∷ f ∷ []) h one k differ e =
    (omega arith, one_false (is_constant d.1) (is_constant f.1) (go (trim_none x.1 y.1 x.0 y.0 e differ.0.0)))
  where
    go : (2 ≤ x.1) ⊎ (2 ≤ y.1) → (is_constant d.1 ≡ false) ⊎ (is_constant f.1 ≡ false)
    go (inl w) = inl (inner_from_code t at x.1 d.1 h.0.1 w)
    go (inr w) = inr (inner_from_code t at y.1 f.1 h.1.0.1 w)
untrimmed t at (x ∷ y ∷ []) (d ∷ f ∷ g ∷ ds) h one k differ e = absurd h.1.1
untrimmed t at (x ∷ y ∷ z ∷ l) (d ∷ f ∷ []) h one k differ e = absurd h.1.1
untrimmed t at (x ∷ y ∷ z ∷ l) (d ∷ f ∷ g ∷ ds) h one k differ e =
    (omega arith, three_trimmed (d ∷ f ∷ g ∷ ds) (omega arith) k)

-- a node with the pairs of a partition shows the sorted decomposition
pub shows_joined : (t : Numbered) (at : Lookup) (n u p : ℕ) (l : List (ℕ × ℕ)) (ds : List (Diagram × Diagram)) →
    ShowPairs t at l ds → at n ≡ Some (u, l) → slice_get (numbers t) p ≡ Some u →
    IsStrictlySortedBy diagram_cmp (primes (from_pairs (sorted ds))) → Shows t at (2050 + n) (decomposed p ds)
shows_joined t at n u p l ds h stored position up =
    let R : ℕ × ℕ → Diagram × Diagram → Type 0 = λ e d. Shows t at e.0 d.0 × Shows t at e.1 d.1 in
    let m = second_permuted R l ds (sorted ds) h (sorted_permutation ds) in (
      m.0,
      record { number = n; place = u; list = l; code = refl; stored = stored; position = position; order = m.1 },
      elements_shown t at m.0 (sorted ds) m.2,
      up,
    )

-- where pairs are not trimmed, a node that has them shows a canonical diagram with their value, and they are several
pub new_node : (t : Numbered) (old new : Lookup) → IsNumbered t → AreKeys old → (u n : ℕ) (l : List (ℕ × ℕ))
    (ds : List (Diagram × Diagram)) → IsPartitionAt t old u l ds → AreDistinct (map (λ e. e.1) l) → trim_of l ≡ None →
    Keeps old new → new n ≡ Some (u, l) →
    (z : Diagram) × ShowsCanonical t new (2050 + n) z × HasValue ds (meaning z) × (2 ≤ length ds)
new_node t old new v keys u n l ds h differ none keeps stored =
    let apart = split_apart t old u l ds v h in
    let size = leaves (plain_tree t) in
    let k : IsCompressed ds = subs_differ t old keys l ds h.shown differ in
    let w = untrimmed t old l ds h.shown h.partition.one_true k differ none in
    let p = position (Node h.left h.right) h.base in (
      decomposed p ds,
      record {
        shows = shows_joined t new n u p l ds (list_kept t old new keeps l ds h.shown) stored h.inner.number
            (sorted_ascends size h.left h.right h.base ds apart.1 h.partition);
        canonical = canonical_lifts h.inner.part (decomposed p ds)
            (decomposed_canonical size h.left h.right h.base ds apart.1 h.partition k w.0 w.1);
      },
      decomposed_value p ds h.partition.one_true,
      w.0,
    )

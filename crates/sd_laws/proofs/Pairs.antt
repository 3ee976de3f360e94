-- Partitions as lists of pairs: their elements, what their primes choose, and other orders of them.
use Rattle.std.proofs.Common.{◌≡◌, ◌≢◌, ◌⊎◌, inl, inr, ℕ, suc, ◌+◌, ◌≤◌, Bool, true, false, cond, ◌||◌, ◌&&◌}
use Rattle.std.proofs.Common.{List, [], ◌∷◌, length, map, sum_by, refl, sym, ◌∙◌, ap, subst, arith}
use Rattle.std.specs.List.{AllByRecursion, IsDistinct}
use Rattle.std.specs.List.Sorted.{IsPermutation}
use Rattle.std.proofs.lemmas.List.Sums.{sum_by-cons}
use Rattle.std.proofs.lemmas.List.Sorted.{sum_by-IsPermutation, IsPermutation-map}
use Rattle.std.proofs.lemmas.Map.Keys.{IsDistinct-IsPermutation}
use Rattle.sd_model.specs.Diagram.{Diagram, Elements, End, Pair, primes, subs, count, meaning, some_element}
use Rattle.sd_model.specs.Canonical.{IsElement, first, later, true_primes, AreDifferent}
use Rattle.sd_model.specs.Size.{is_same}
use Rattle.sd_model.specs.Tree.{Tree, right_base}
use Rattle.sd_model.specs.Diagram.{Bottom}
use Rattle.sd_model.specs.Canonical.{IsCanonical}
use Rattle.sd_model.proofs.Adding.{equal_from_same, same_itself}
use Rattle.sd_laws.specs.Pairs.{from_pairs, pairs_of, answers, AreElements, IsPartition, IsCompressed, HasValue}
use Rattle.sd_laws.proofs.Lists.{all_permuted, all_weaker, IsAmong}

-- elements and pairs

-- elements are those of their pairs
pub pairs_back : (es : Elements) → from_pairs (pairs_of es) ≡ es
pairs_back End = refl
pairs_back (Pair p s rest) = ap (Pair p s) (pairs_back rest)

-- the primes are the first parts
pub primes_pairs : (ds : List (Diagram × Diagram)) → primes (from_pairs ds) ≡ map (λ (d : Diagram × Diagram). d.0) ds
primes_pairs [] = refl
primes_pairs (d ∷ ds) = ap (λ l. d.0 ∷ l) (primes_pairs ds)

-- the subs are the second parts
pub subs_pairs : (ds : List (Diagram × Diagram)) → subs (from_pairs ds) ≡ map (λ (d : Diagram × Diagram). d.1) ds
subs_pairs [] = refl
subs_pairs (d ∷ ds) = ap (λ l. d.1 ∷ l) (subs_pairs ds)

-- there are as many elements as pairs
pub count_pairs : (ds : List (Diagram × Diagram)) → count (from_pairs ds) ≡ length ds
count_pairs [] = refl
count_pairs (d ∷ ds) = omega (arith, count_pairs ds)

-- what holds of each pair holds of each element
pub at_element : (P : Diagram × Diagram → Type 0) (ds : List (Diagram × Diagram)) → AllByRecursion P ds →
    {p s : Diagram} → IsElement p s (from_pairs ds) → P (p, s)
at_element P [] a m = elim m [ ]
at_element P (d ∷ ds) a first = a.0
at_element P (d ∷ ds) a (later m) = at_element P ds a.1 m

-- a pair of the list is an element
pub element_among : (ds : List (Diagram × Diagram)) (d : Diagram × Diagram) → IsAmong d ds →
    IsElement d.0 d.1 (from_pairs ds)
element_among [] d m = absurd m
element_among (e ∷ ds) d (inl h) =
    subst (λ (x : Diagram × Diagram). IsElement x.0 x.1 (from_pairs (e ∷ ds))) (sym h) first
element_among (e ∷ ds) d (inr m) = later (element_among ds d m)

-- and an element is a pair of the list
pub among_element : (ds : List (Diagram × Diagram)) (p s : Diagram) → IsElement p s (from_pairs ds) →
    IsAmong {X = Diagram × Diagram} (p, s) ds
among_element [] p s m = elim m [ ]
among_element (d ∷ ds) p s first = inl refl
among_element (d ∷ ds) p s (later m) = inr (among_element ds p s m)

-- what the primes choose

-- as many primes are true as values are chosen
pub true_primes_pairs : (a : List Bool) (ds : List (Diagram × Diagram)) →
    true_primes (from_pairs ds) a ≡ length (answers a ds)
true_primes_pairs a [] = refl
true_primes_pairs a (d ∷ ds) =
    elim (meaning d.0 a)
    as (λ b. cond b (suc (true_primes (from_pairs ds) a)) (true_primes (from_pairs ds) a)
    ≡ length (cond b (meaning d.1 a ∷ answers a ds) (answers a ds))) [
      | true ↦ ap suc (true_primes_pairs a ds)
      | false ↦ true_primes_pairs a ds
    ]

-- some value is true
any_true : List Bool → Bool
any_true [] = false
any_true (b ∷ bs) = b || any_true bs

-- a decomposition is true where a chosen value is
some_element_answers : (a : List Bool) (ds : List (Diagram × Diagram)) →
    some_element (from_pairs ds) a ≡ any_true (answers a ds)
unfolding any_true
some_element_answers a [] = refl
some_element_answers a (d ∷ ds) =
    elim (meaning d.0 a)
    as (λ b. ((b && meaning d.1 a) || some_element (from_pairs ds) a)
    ≡ any_true (cond b (meaning d.1 a ∷ answers a ds) (answers a ds))) [
      | true ↦ ap (λ v. meaning d.1 a || v) (some_element_answers a ds)
      | false ↦ some_element_answers a ds
    ]

-- a list of one value
one_value : (bs : List Bool) → length bs ≡ 1 → bs ≡ any_true bs ∷ []
unfolding any_true
one_value [] e = absurd (omega arith)
one_value (true ∷ []) e = refl
one_value (false ∷ []) e = refl
one_value (b ∷ c ∷ bs) e = absurd (omega arith)

-- where one prime is true, the chosen value is that of the decomposition
pub answers_value : (a : List Bool) (ds : List (Diagram × Diagram)) → length (answers a ds) ≡ 1 →
    answers a ds ≡ some_element (from_pairs ds) a ∷ []
answers_value a ds e = one_value (answers a ds) e ∙ ap (λ b. b ∷ []) (sym (some_element_answers a ds))

-- a true prime chooses a value
pub answers_some : (a : List Bool) (ds : List (Diagram × Diagram)) (d : Diagram × Diagram) → IsAmong d ds →
    meaning d.0 a ≡ true → 1 ≤ length (answers a ds)
answers_some a [] d m e = absurd m
answers_some a (x ∷ ds) d m e = go m (λ k. answers_some a ds d k e) (meaning x.0 a) refl
  where
    go : (d ≡ x) ⊎ IsAmong d ds → (IsAmong d ds → 1 ≤ length (answers a ds)) → (b : Bool) → meaning x.0 a ≡ b →
        1 ≤ length (cond (meaning x.0 a) (meaning x.1 a ∷ answers a ds) (answers a ds))
    go k ih true h = rw h (omega arith)
    go (inl k) ih false h =
        let f : meaning d.0 a ≡ false = ap (λ (v : Diagram × Diagram). meaning v.0 a) k ∙ h in absurd (cc (e, f))
    go (inr k) ih false h = rw h (ih k)

-- where one prime is true, the value of its sub is chosen
pub answers_at : (a : List Bool) (ds : List (Diagram × Diagram)) (d : Diagram × Diagram) → IsAmong d ds →
    meaning d.0 a ≡ true → length (answers a ds) ≡ 1 → answers a ds ≡ meaning d.1 a ∷ []
answers_at a [] d m e h = absurd m
answers_at a (x ∷ ds) d m e h = go m (λ k h'. answers_at a ds d k e h') (meaning x.0 a) refl h
  where
    empty : (bs : List Bool) → length bs ≡ 0 → bs ≡ []
    empty [] e = refl
    empty (b ∷ bs) e = absurd (omega arith)

    go : (d ≡ x) ⊎ IsAmong d ds → (IsAmong d ds → length (answers a ds) ≡ 1 → answers a ds ≡ meaning d.1 a ∷ []) →
        (b : Bool) → meaning x.0 a ≡ b →
        length (cond (meaning x.0 a) (meaning x.1 a ∷ answers a ds) (answers a ds)) ≡ 1 →
        cond (meaning x.0 a) (meaning x.1 a ∷ answers a ds) (answers a ds) ≡ meaning d.1 a ∷ []
    go (inl k) ih true f h =
        let h' : suc (length (answers a ds)) ≡ 1 = rw f at h in
        let z : answers a ds ≡ [] = empty (answers a ds) (omega arith) in
        rw (f, z, ap (λ (v : Diagram × Diagram). meaning v.1 a) k) refl
    go (inr k) ih true f h =
        let h' : suc (length (answers a ds)) ≡ 1 = rw f at h in
        absurd (omega (arith, answers_some a ds d k e))
    go (inl k) ih false f h =
        let g : meaning d.0 a ≡ false = ap (λ (v : Diagram × Diagram). meaning v.0 a) k ∙ f in absurd (cc (e, g))
    go (inr k) ih false f h =
        let h' : length (answers a ds) ≡ 1 = rw f at h in
        rw f (ih k h')

-- another order

-- 1 for a true prime
true_prime : List Bool → Diagram × Diagram → ℕ
true_prime a d = cond (meaning d.0 a) 1 0

-- 1 for a true prime with a true sub
true_pair : List Bool → Diagram × Diagram → ℕ
true_pair a d = cond (meaning d.0 a) (cond (meaning d.1 a) 1 0) 0

-- how many are true
trues : List Bool → ℕ
trues [] = 0
trues (b ∷ bs) = cond b 1 0 + trues bs

-- the number of values as a sum
length_sum : (a : List Bool) (ds : List (Diagram × Diagram)) → length (answers a ds) ≡ sum_by (true_prime a) ds
unfolding true_prime
length_sum a [] = refl
length_sum a (d ∷ ds) =
    let step : length (answers a (d ∷ ds)) ≡ cond (meaning d.0 a) 1 0 + sum_by (true_prime a) ds =
    elim (meaning d.0 a)
    as (λ b. length (cond b (meaning d.1 a ∷ answers a ds) (answers a ds)) ≡ cond b 1 0 + sum_by (true_prime a) ds) [
      | true ↦ omega (arith, length_sum a ds)
      | false ↦ omega (arith, length_sum a ds)
    ] in
    step ∙ sym (sum_by-cons (true_prime a) d ds)

-- the number of true values as a sum
trues_sum : (a : List Bool) (ds : List (Diagram × Diagram)) → trues (answers a ds) ≡ sum_by (true_pair a) ds
unfolding true_pair trues
trues_sum a [] = refl
trues_sum a (d ∷ ds) =
    let step : trues (answers a (d ∷ ds)) ≡ cond (meaning d.0 a) (cond (meaning d.1 a) 1 0) 0
    + sum_by (true_pair a) ds =
    elim (meaning d.0 a)
    as (λ b. trues (cond b (meaning d.1 a ∷ answers a ds) (answers a ds))
    ≡ cond b (cond (meaning d.1 a) 1 0) 0 + sum_by (true_pair a) ds) [
      | true ↦ omega (arith, trues_sum a ds)
      | false ↦ omega (arith, trues_sum a ds)
    ] in
    step ∙ sym (sum_by-cons (true_pair a) d ds)

-- one value is known by how many are true
same_value : (bs : List Bool) (v : Bool) → length bs ≡ 1 → trues bs ≡ trues (v ∷ []) → bs ≡ v ∷ []
unfolding trues
same_value [] v e h = absurd (omega arith)
same_value (true ∷ []) true e h = refl
same_value (true ∷ []) false e h = absurd (omega arith)
same_value (false ∷ []) true e h = absurd (omega arith)
same_value (false ∷ []) false e h = refl
same_value (b ∷ c ∷ bs) v e h = absurd (omega arith)

-- in another order as many primes are true
pub length_permuted : (a : List Bool) (ds fs : List (Diagram × Diagram)) → IsPermutation ds fs →
    length (answers a fs) ≡ length (answers a ds)
length_permuted a ds fs h =
    length_sum a fs ∙ sum_by-IsPermutation (true_prime a) ds fs h ∙ sym (length_sum a ds)

-- and one chosen value is the same
pub answers_permuted : (a : List Bool) (ds fs : List (Diagram × Diagram)) (v : Bool) → IsPermutation ds fs →
    answers a ds ≡ v ∷ [] → answers a fs ≡ v ∷ []
answers_permuted a ds fs v h e =
    same_value (answers a fs) v (length_permuted a ds fs h ∙ ap length e)
    (trues_sum a fs ∙ sum_by-IsPermutation (true_pair a) ds fs h ∙ sym (trues_sum a ds) ∙ ap trues e)

-- a partition in another order has the same value
pub HasValue_permuted : (ds fs : List (Diagram × Diagram)) (f : List Bool → Bool) → IsPermutation ds fs →
    HasValue ds f → HasValue fs f
HasValue_permuted ds fs f h k a = answers_permuted a ds fs (f a) h (k a)

-- the test is the same both ways
same_flip : (d e : Diagram) → is_same d e ≡ is_same e d
same_flip d e = go (is_same d e) (is_same e d) refl refl
  where
    go : (b c : Bool) → is_same d e ≡ b → is_same e d ≡ c → is_same d e ≡ is_same e d
    go true c h k =
        let e' : d ≡ e = equal_from_same d e h in
        h ∙ sym (subst (λ v. is_same v d ≡ true) e' (same_itself d))
    go false true h k =
        let e' : e ≡ d = equal_from_same e d k in
        absurd (cc (h, subst (λ v. is_same v e ≡ true) e' (same_itself e)))
    go false false h k = h ∙ sym k

-- different diagrams have the test false
differ_test : (d e : Diagram) → d ≢ e → is_same d e ≡ false
differ_test d e ne = go (is_same d e) refl
  where
    go : (b : Bool) → is_same d e ≡ b → is_same d e ≡ false
    go true h = absurd (ne (equal_from_same d e h))
    go false h = h

-- and the other way round
test_differ : (d e : Diagram) → is_same d e ≡ false → d ≢ e
test_differ d e h k = absurd (cc (h, subst (λ v. is_same d v ≡ true) k (same_itself d)))

-- diagrams that are different, by the test
distinct_test : (ds : List Diagram) → AreDifferent ds → IsDistinct is_same ds
unfolding IsDistinct
distinct_test [] h = tt
distinct_test (d ∷ ds) h =
    (all_weaker (λ e. d ≢ e) (λ e. is_same d e ≡ false) (differ_test d) ds h.0, distinct_test ds h.1)

-- and back
different_test : (ds : List Diagram) → IsDistinct is_same ds → AreDifferent ds
unfolding IsDistinct
different_test [] h = tt
different_test (d ∷ ds) h =
    (all_weaker (λ e. is_same d e ≡ false) (λ e. d ≢ e) (test_differ d) ds h.0, different_test ds h.1)

-- different diagrams are so in each order
pub different_permuted : (ds es : List Diagram) → IsPermutation ds es → AreDifferent ds → AreDifferent es
different_permuted ds es h k =
    different_test es (IsDistinct-IsPermutation is_same same_flip ds es h (distinct_test ds k))

-- a compressed partition is so in each order
pub IsCompressed_permuted : (ds fs : List (Diagram × Diagram)) → IsPermutation ds fs → IsCompressed ds → IsCompressed fs
IsCompressed_permuted ds fs h k =
    let second : Diagram × Diagram → Diagram = λ d. d.1 in
    subst AreDifferent (sym (subs_pairs fs))
    (different_permuted (map second ds) (map second fs) (IsPermutation-map second ds fs h)
    (subst AreDifferent (subs_pairs ds) k))

-- and elements are elements
pub AreElements_permuted : (left right : Tree) (base : ℕ) (ds fs : List (Diagram × Diagram)) → IsPermutation ds fs →
    AreElements left right base ds → AreElements left right base fs
AreElements_permuted left right base ds fs h k =
    record {
      primes = all_permuted (λ (d : Diagram × Diagram). IsCanonical left base d.0) ds fs h k.primes;
      subs = all_permuted (λ (d : Diagram × Diagram). IsCanonical right (right_base left base) d.1) ds fs h k.subs;
      possible = all_permuted (λ (d : Diagram × Diagram). d.0 ≢ Bottom) ds fs h k.possible;
    }

-- a partition is one in each order
pub IsPartition_permuted : (left right : Tree) (base : ℕ) (ds fs : List (Diagram × Diagram)) → IsPermutation ds fs →
    IsPartition left right base ds → IsPartition left right base fs
IsPartition_permuted left right base ds fs h k =
    record {
      elements = AreElements_permuted left right base ds fs h k.elements;
      one_true = λ a. length_permuted a ds fs h ∙ k.one_true a;
    }

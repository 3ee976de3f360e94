-- Lists of the same different diagrams are one in another order, and the first occurrences are such a list.
use Rattle.std.proofs.Common.{◌≡◌, ◌≢◌, inl, inr, Bool, true, false, not, cond, List, [], ◌∷◌, ◌++◌}
use Rattle.std.proofs.Common.{refl, sym, ap, subst, ◌∙◌}
use Rattle.std.specs.List.{AllByRecursion, filter, flat_map}
use Rattle.std.specs.List.Sorted.{IsPermutation}
use Rattle.std.proofs.lemmas.List.Sorted.{IsPermutation-refl, IsPermutation-sym, IsPermutation-trans}
use Rattle.std.proofs.lemmas.List.Sorted.{IsPermutation-cons, IsPermutation-middle}
use Rattle.sd_model.specs.Diagram.{Diagram, Decomposition}
use Rattle.sd_model.specs.Canonical.{AreDifferent}
use Rattle.sd_model.specs.Size.{is_same, first_occurrences, walk, completed}
use Rattle.sd_model.proofs.Adding.{same_itself, equal_from_same}
use Rattle.sd_laws.proofs.Lists.{IsAmong, IsWithin, within_permuted, all_at, all_from}
use Rattle.sd_laws.proofs.Pairs.{different_permuted}

-- a list that has x, cut at x
record Cut (x : Diagram) (xs : List Diagram) : Type 0 where
  pub front : List Diagram
  pub back : List Diagram
  pub is : xs ≡ front ++ x ∷ back

-- each list that has x can be cut there
cut : (x : Diagram) (xs : List Diagram) → IsAmong x xs → Cut x xs
cut x [] m = absurd m
cut x (y ∷ xs) (inl e) = record { front = []; back = xs; is = ap (λ z. z ∷ xs) (sym e) }
cut x (y ∷ xs) (inr m) =
    let c = cut x xs m in record { front = y ∷ c.front; back = c.back; is = ap (λ l. y ∷ l) c.is }

-- one of the others
another : (x z : Diagram) (xs : List Diagram) → (z ≡ x → ⊥) → IsAmong z (x ∷ xs) → IsAmong z xs
another x z xs ne (inl e) = absurd (ne e)
another x z xs ne (inr m) = m

-- two lists of the same different diagrams
pub same_permutation : (xs ys : List Diagram) → AreDifferent xs → AreDifferent ys → IsWithin xs ys → IsWithin ys xs →
    IsPermutation xs ys
same_permutation [] [] a b there back = IsPermutation-refl []
same_permutation [] (y ∷ ys) a b there back = absurd (back y (inl refl))
same_permutation (x ∷ xs) ys a b there back =
    let k = cut x ys (there x (inl refl)) in
    let rest : List Diagram = k.front ++ k.back in
    let out : IsPermutation ys (x ∷ rest) =
    subst (λ l. IsPermutation l (x ∷ rest)) (sym k.is) (IsPermutation-middle k.front x k.back) in
    let home : IsPermutation (x ∷ rest) ys = IsPermutation-sym ys (x ∷ rest) out in
    let differ : AreDifferent (x ∷ rest) = different_permuted ys (x ∷ rest) out b in
    let to : IsWithin xs rest = λ z m.
    another x z rest (λ e. all_at (λ y. x ≢ y) xs z a.0 m (sym e))
    (within_permuted (x ∷ rest) ys home z (there z (inr m))) in
    let from : IsWithin rest xs = λ z m.
    another x z xs (λ e. all_at (λ y. x ≢ y) rest z differ.0 m (sym e))
    (back z (within_permuted ys (x ∷ rest) out z (inr m))) in
    IsPermutation-trans (x ∷ xs) (x ∷ rest) ys
    (IsPermutation-cons x xs rest (same_permutation xs rest a.1 differ.1 to from)) home

-- what a filter leaves

among_filter : (q : Diagram → Bool) (xs : List Diagram) (x : Diagram) → IsAmong x (filter q xs) →
    IsAmong x xs × (q x ≡ true)
among_filter q [] x m = absurd m
among_filter q (y ∷ xs) x m = go (λ k. among_filter q xs x k) (q y) refl m
  where
    go : (IsAmong x (filter q xs) → IsAmong x xs × (q x ≡ true)) → (b : Bool) → q y ≡ b →
        IsAmong x (cond b (y ∷ filter q xs) (filter q xs)) → IsAmong x (y ∷ xs) × (q x ≡ true)
    go ih true h (inl e) = (inl e, ap q e ∙ h)
    go ih true h (inr k) = let r = ih k in (inr r.0, r.1)
    go ih false h k = let r = ih k in (inr r.0, r.1)

filter_among : (q : Diagram → Bool) (xs : List Diagram) (x : Diagram) → IsAmong x xs → q x ≡ true →
    IsAmong x (filter q xs)
filter_among q [] x m h = absurd m
filter_among q (y ∷ xs) x m h = go (λ k. filter_among q xs x k h) (q y) refl m
  where
    go : (IsAmong x xs → IsAmong x (filter q xs)) → (b : Bool) → q y ≡ b → IsAmong x (y ∷ xs) →
        IsAmong x (cond b (y ∷ filter q xs) (filter q xs))
    go ih true k (inl e) = inl e
    go ih true k (inr n) = inr (ih n)
    go ih false k (inl e) = absurd (cc (h, k, ap q e))
    go ih false k (inr n) = ih n

-- what differs from each differs from what is left
filter_differ : (q : Diagram → Bool) (d : Diagram) (xs : List Diagram) → AllByRecursion (λ e. d ≢ e) xs →
    AllByRecursion (λ e. d ≢ e) (filter q xs)
filter_differ q d xs h =
    all_from (λ e. d ≢ e) (filter q xs) (λ x m. all_at (λ e. d ≢ e) xs x h (among_filter q xs x m).0)

filter_different : (q : Diagram → Bool) (xs : List Diagram) → AreDifferent xs → AreDifferent (filter q xs)
filter_different q [] h = tt
filter_different q (y ∷ xs) h = go (filter_different q xs h.1) (q y)
  where
    go : AreDifferent (filter q xs) → (b : Bool) → AreDifferent (cond b (y ∷ filter q xs) (filter q xs))
    go ih true = (filter_differ q y xs h.0, ih)
    go ih false = ih

-- the first occurrences

-- are of the list
pub occurs_within : (ds : List Diagram) → IsWithin (first_occurrences ds) ds
occurs_within [] x m = absurd m
occurs_within (d ∷ ds) x (inl e) = inl e
occurs_within (d ∷ ds) x (inr m) =
    inr (occurs_within ds x (among_filter (λ e. not (is_same d e)) (first_occurrences ds) x m).0)

-- all of it
pub within_occurs : (ds : List Diagram) → IsWithin ds (first_occurrences ds)
within_occurs [] x m = absurd m
within_occurs (d ∷ ds) x (inl e) = inl e
within_occurs (d ∷ ds) x (inr m) = go (within_occurs ds x m) (is_same d x) refl
  where
    go : IsAmong x (first_occurrences ds) → (b : Bool) → is_same d x ≡ b → IsAmong x (first_occurrences (d ∷ ds))
    go k true h = inl (sym (equal_from_same d x h))
    go k false h = inr (filter_among (λ e. not (is_same d e)) (first_occurrences ds) x k (ap not h))

-- each once
pub occurs_different : (ds : List Diagram) → AreDifferent (first_occurrences ds)
occurs_different [] = tt
occurs_different (d ∷ ds) = (
  all_from (λ e. d ≢ e) (filter (λ e. not (is_same d e)) (first_occurrences ds)) differs,
  filter_different (λ e. not (is_same d e)) (first_occurrences ds) (occurs_different ds),
)
  where
    differs : (x : Diagram) → IsAmong x (filter (λ e. not (is_same d e)) (first_occurrences ds)) → d ≢ x
    differs x m e =
        let k = (among_filter (λ e. not (is_same d e)) (first_occurrences ds) x m).1 in
        let same : is_same d x ≡ true = subst (λ z. is_same d z ≡ true) e (same_itself d) in
        absurd (cc (k, ap not same))

-- a list of different diagrams with those under some diagrams is their list of these in another order
pub completed_permutation : (ds xs : List Diagram) → AreDifferent xs → IsWithin xs (flat_map walk ds) →
    IsWithin (flat_map walk ds) xs → IsPermutation (completed ds) xs
unfolding completed
completed_permutation ds xs h there back =
    same_permutation (first_occurrences (flat_map walk ds)) xs (occurs_different (flat_map walk ds)) h
    (λ x m. back x (occurs_within (flat_map walk ds) x m)) (λ x m. within_occurs (flat_map walk ds) x (there x m))

-- decompositions alone

abbrev pub is_decomposition : Diagram → Bool
is_decomposition (Decomposition p es) = true
is_decomposition _ = false

-- a list of different decompositions that are all of those under some diagrams is what is left of their list when only
-- decompositions are, in another order
pub decompositions_permutation : (ds xs : List Diagram) → AreDifferent xs → IsWithin xs (flat_map walk ds) →
    ((x : Diagram) → IsAmong x xs → is_decomposition x ≡ true) →
    ((x : Diagram) → IsAmong x (flat_map walk ds) → is_decomposition x ≡ true → IsAmong x xs) →
    IsPermutation (filter is_decomposition (completed ds)) xs
unfolding completed
decompositions_permutation ds xs h there each back =
    let all = first_occurrences (flat_map walk ds) in
    same_permutation (filter is_decomposition all) xs
    (filter_different is_decomposition all (occurs_different (flat_map walk ds))) h
    (λ x m. let k = among_filter is_decomposition all x m in back x (occurs_within (flat_map walk ds) x k.0) k.1)
    (λ x m. filter_among is_decomposition all x (within_occurs (flat_map walk ds) x (there x m)) (each x m))

-- The diagrams under a canonical diagram can be read: their numbers are small, and literals are of variables.
use Rattle.std.proofs.Common.{◌≡◌, ◌≢◌, ℕ, ◌+◌, ◌*◌, ◌^◌, ◌<◌, ◌≤◌, Bool, true, false, cond, List, [], ◌∷◌, ◌++◌}
use Rattle.std.proofs.Common.{map, length, slice_index_or, refl, sym, ap, ◌∙◌, subst, arith, length-append}
use Rattle.std.proofs.Common.{append_assoc}
use Rattle.std.specs.List.{AllByRecursion, flat_map}
use Rattle.std.specs.List.Sorted.{IsStrictlySortedBy}
use Rattle.std.specs.declared.cmp.Ordering.TheVariants.{Less}
use Rattle.sd_model.specs.Tree.{Tree, Node, variables, leaves, right_base, position}
use Rattle.sd_model.specs.Diagram.{Diagram, Bottom, Top, Literal, Decomposition, Elements, End, Pair}
use Rattle.sd_model.specs.Diagram.{primes, count, diagram_cmp}
use Rattle.sd_model.specs.Canonical.{IsElement, first, later, AreDifferent, IsCanonical, canonical_bottom}
use Rattle.sd_model.specs.Canonical.{canonical_top}
use Rattle.sd_model.specs.Canonical.{canonical_literal, canonical_in_left, canonical_in_right}
use Rattle.sd_model.specs.Canonical.{canonical_decomposition}
use Rattle.sd_model.specs.Size.{walk, walk_elements, completed}
use Rattle.sd_model.specs.Listing.{is_among, add}
use Rattle.sd_model.specs.Text.{index_of}
use Rattle.sd_model.proofs.Adding.{completed_walks}
use Rattle.sd_model.proofs.ClosedLists.{ChildrenAmong, IsClosed}
use Rattle.sd_model.proofs.Order.{irreflexive}
use Rattle.sd_vtree.proofs.Building.{leaves_positive, leaves_node}
use Rattle.sd_file.proofs.DiagramPlaces.{index_below, value_at_index}
use Rattle.sd_file.proofs.NodeLines.{IsReadable}
use Rattle.sd_file.proofs.Pigeons.{HaveCodes, few_coded}

-- ---- what holds of all

-- of two lists joined
pub all_append : {X : Type 0} (P : X → Type 0) (xs ys : List X) → AllByRecursion P xs → AllByRecursion P ys
    → AllByRecursion P (xs ++ ys)
all_append P [] ys a b = b
all_append P (x ∷ xs) ys a b = (a.0, all_append P xs ys a.1 b)

-- of the first of them
all_front : {X : Type 0} (P : X → Type 0) (xs ys : List X) → AllByRecursion P (xs ++ ys) → AllByRecursion P xs
all_front P [] ys a = tt
all_front P (x ∷ xs) ys a = (a.0, all_front P xs ys a.1)

-- and of the second
all_back : {X : Type 0} (P : X → Type 0) (xs ys : List X) → AllByRecursion P (xs ++ ys) → AllByRecursion P ys
all_back P [] ys a = a
all_back P (x ∷ xs) ys a = all_back P xs ys a.1

-- of a list with others added
pub all_add : (P : Diagram → Type 0) (ds es : List Diagram) → AllByRecursion P ds → AllByRecursion P es
    → AllByRecursion P (add ds es)
all_add P ds [] a b = a
all_add P ds (e ∷ es) a b =
    go (all_add P ds es a b.1) (all_add P (ds ++ e ∷ []) es (all_append P ds (e ∷ []) a (b.0, tt)) b.1)
    (is_among e ds)
  where
    go : AllByRecursion P (add ds es) → AllByRecursion P (add (ds ++ e ∷ []) es) → (b : Bool)
        → AllByRecursion P (add (cond b ds (ds ++ e ∷ [])) es)
    go there new true = there
    go there new false = new

-- ---- under a canonical diagram

-- positions are below n, literals are of the variables 1 to v, and a decomposition has at least two elements, and
-- ascending primes
abbrev IsPlain : ℕ → ℕ → Diagram → Type 0
IsPlain v n (Literal p x positive) = (p < n) × (1 ≤ x) × (x ≤ v)
IsPlain v n (Decomposition p es) = (p < n) × (2 ≤ count es) × IsStrictlySortedBy diagram_cmp (primes es)
IsPlain v n _ = Unit {0}

-- what holds under the primes and subs holds under the elements
elements_all : (P : Diagram → Type 0) (es : Elements)
    → ((p s : Diagram) → IsElement p s es → AllByRecursion P (walk p))
    → ((p s : Diagram) → IsElement p s es → AllByRecursion P (walk s)) → AllByRecursion P (walk_elements es)
elements_all P End a b = tt
elements_all P (Pair p s rest) a b =
    let later_all = elements_all P rest (λ q t m. a q t (later m)) (λ q t m. b q t (later m)) in
    all_append P (walk p ++ walk s) (walk_elements rest)
    (all_append P (walk p) (walk s) (a p s first) (b p s first)) later_all

-- the diagrams under one that is canonical for a tree with such variables
walk_plain : {t : Tree} {base : ℕ} {d : Diagram} → IsCanonical t base d → (v n : ℕ)
    → AllByRecursion (λ x. (1 ≤ x) × (x ≤ v)) (variables t) → base + 2 * leaves t ≤ n
    → AllByRecursion (IsPlain v n) (walk d)
walk_plain canonical_bottom v n range room = (tt, tt)
walk_plain canonical_top v n range room = (tt, tt)
walk_plain (canonical_literal positive) v n range room = ((omega (arith, room), range.0.0, range.0.1), tt)
walk_plain (canonical_in_left {l = l} {r = r} c k) v n range room =
    walk_plain k v n (all_front (λ x. (1 ≤ x) × (x ≤ v)) (variables l) (variables r) range)
    (omega (arith, room, leaves_node l r))
walk_plain (canonical_in_right {l = l} {r = r} c k) v n range room =
    walk_plain k v n (all_back (λ x. (1 ≤ x) × (x ≤ v)) (variables l) (variables r) range)
    (omega (arith, room, leaves_node l r))
walk_plain (canonical_decomposition {l = l} {r = r} {base = base} {elements = es} left right part) v n range room =
    let front = all_front (λ x. (1 ≤ x) × (x ≤ v)) (variables l) (variables r) range in
    let back = all_back (λ x. (1 ≤ x) × (x ≤ v)) (variables l) (variables r) range in
    let both = leaves_node l r in
    let room_l : base + 2 * leaves l ≤ n = omega (arith, room, both) in
    let room_r : right_base l base + 2 * leaves r ≤ n = omega (arith, room, both) in
    let below : position (Node l r) base < n =
    omega (arith, room, both, leaves_positive l, leaves_positive r) in
    all_append (IsPlain v n) (walk_elements es) (Decomposition (position (Node l r) base) es ∷ [])
    (elements_all (IsPlain v n) es (λ p s m. walk_plain (left p s m) v n front room_l)
    (λ p s m. walk_plain (right p s m) v n back room_r))
    ((below, part.several, part.ascending), tt)

-- under roots that are
walks_plain : (t : Tree) (roots : List Diagram) (v n : ℕ) → AllByRecursion (IsCanonical t 0) roots
    → AllByRecursion (λ x. (1 ≤ x) × (x ≤ v)) (variables t) → 2 * leaves t ≤ n
    → AllByRecursion (IsPlain v n) (flat_map walk roots)
walks_plain t [] v n k range room = tt
walks_plain t (d ∷ roots) v n k range room =
    all_append (IsPlain v n) (walk d) (flat_map walk roots) (walk_plain k.0 v n range (omega (arith, room)))
    (walks_plain t roots v n k.1 range room)

-- each of them once
plain_completed : (t : Tree) (roots : List Diagram) (v n : ℕ) → AllByRecursion (IsCanonical t 0) roots
    → AllByRecursion (λ x. (1 ≤ x) × (x ≤ v)) (variables t) → 2 * leaves t ≤ n
    → AllByRecursion (IsPlain v n) (completed roots)
plain_completed t roots v n k range room =
    subst (AllByRecursion (IsPlain v n)) (sym (completed_walks roots))
    (all_add (IsPlain v n) [] (flat_map walk roots) tt (walks_plain t roots v n k range room))

-- ---- the number of elements

-- the index of an earlier diagram
abbrev IsPlaceOf : List Diagram → ℕ → Diagram → Type 0
IsPlaceOf before i d = (index_of d (before ++ []) ≡ i) × (is_among d before ≡ true)

-- two diagrams at one index are equal
one_place : (before : List Diagram) (i : ℕ) (d e : Diagram) → IsPlaceOf before i d → IsPlaceOf before i e → d ≡ e
one_place before i d e is_d is_e =
    let own : Diagram → Diagram = λ x. x in
    sym (value_at_index own Bottom d before [] is_d.1)
    ∙ ap (λ i. slice_index_or (map own before) i Bottom) (is_d.0 ∙ sym is_e.0)
    ∙ value_at_index own Bottom e before [] is_e.1

-- a prime is not one of those that are greater
below_differ : (p : Diagram) (ds : List Diagram) → AllByRecursion (λ d. diagram_cmp p d ≡ Less) ds
    → AllByRecursion (λ d. p ≢ d) ds
below_differ p [] less = tt
below_differ p (d ∷ ds) less =
    (λ e. irreflexive p (subst (λ x. diagram_cmp p x ≡ Less) (sym e) less.0), below_differ p ds less.1)

-- ascending primes are different
ascending_differ : (ds : List Diagram) → IsStrictlySortedBy diagram_cmp ds → AreDifferent ds
unfolding IsStrictlySortedBy
ascending_differ [] sorted = tt
ascending_differ (d ∷ ds) sorted = (below_differ d ds sorted.0, ascending_differ ds sorted.1)

-- they have places among the earlier diagrams
primes_placed : (before : List Diagram) (es : Elements)
    → ((q s : Diagram) → IsElement q s es → (is_among q before ≡ true) × (is_among s before ≡ true))
    → HaveCodes (IsPlaceOf before) (length before) (primes es)
primes_placed before End there = tt
primes_placed before (Pair p s rest) there =
    let is = (there p s first).0 in
    let others = primes_placed before rest (λ q t m. there q t (later m)) in
    ((index_of p (before ++ []), (refl, is), index_below p before [] is), others)

-- as many primes as elements
length_primes : (es : Elements) → length (primes es) ≡ count es
length_primes End = refl
length_primes (Pair p s rest) = omega (arith, length_primes rest)

-- so there are no more elements than earlier diagrams
few_elements : (before : List Diagram) (es : Elements) → IsStrictlySortedBy diagram_cmp (primes es)
    → ((q s : Diagram) → IsElement q s es → (is_among q before ≡ true) × (is_among s before ≡ true))
    → count es ≤ length before
few_elements before es sorted there =
    let within_limit = few_coded (IsPlaceOf before) (length before) (one_place before) (primes es)
    (ascending_differ (primes es) sorted) (primes_placed before es there) in
    omega (arith, within_limit, length_primes es)

-- ---- all of them can be read

-- one behind earlier ones
one_readable : (v n : ℕ) (before : List Diagram) (d : Diagram) → v < 10 ^ 18 → n ≤ 10 ^ 18 → length before < 10 ^ 18
    → ChildrenAmong before d → IsPlain v n d → IsReadable v d
one_readable v n before Bottom small room within_limit there plain = tt
one_readable v n before Top small room within_limit there plain = tt
one_readable v n before (Literal p x positive) small room within_limit there plain =
    (omega (arith, plain.0, room), plain.1, plain.2, omega (arith, plain.2, small))
one_readable v n before (Decomposition p es) small room within_limit there plain = (
  omega (arith, plain.0, room),
  omega (arith, plain.1),
  omega (arith, few_elements before es plain.2 there, within_limit),
)

-- a closed list
all_readable : (v n : ℕ) (before ds : List Diagram) → v < 10 ^ 18 → n ≤ 10 ^ 18 → length (before ++ ds) < 10 ^ 18
    → IsClosed before ds → AllByRecursion (IsPlain v n) ds → AllByRecursion (IsReadable v) ds
all_readable v n before [] small room within_limit closed plain = tt
all_readable v n before (d ∷ ds) small room within_limit closed plain =
    let joined = ap length (append_assoc before (d ∷ []) ds) in (
      one_readable v n before d small room (omega (arith, within_limit, length-append before (d ∷ ds))) closed.0
          plain.0,
      all_readable v n (before ++ d ∷ []) ds small room (omega (arith, joined, within_limit)) closed.1 plain.1,
    )

-- the diagrams under roots that are canonical for a tree of variables from 1 to v
pub readable_completed : (t : Tree) (roots : List Diagram) (v : ℕ) → AllByRecursion (IsCanonical t 0) roots
    → AllByRecursion (λ x. (1 ≤ x) × (x ≤ v)) (variables t) → v < 10 ^ 18 → 2 * leaves t ≤ 10 ^ 18
    → length (completed roots) < 10 ^ 18 → IsClosed [] (completed roots)
    → AllByRecursion (IsReadable v) (completed roots)
readable_completed t roots v k range small room within_limit closed =
    all_readable v (10 ^ 18) [] (completed roots) small (omega arith) within_limit closed
    (plain_completed t roots v (10 ^ 18) k range room)

-- The elements of a file's node as a partition: each rule that is not broken gives its part.
use Rattle.std.proofs.Common.{◌≡◌, ◌≢◌, inl, inr, ℕ, zero, suc, ◌+◌, ◌-◌, ◌<◌, ◌≤◌, Bool, true, false, not}
use Rattle.std.proofs.Common.{◌&&◌, ◌||◌, cond, List, [], ◌∷◌, length, map, Option, Some}
use Rattle.std.proofs.Common.{refl, sym, ◌∙◌, ap, subst, arith}
use Rattle.std.specs.List.{AllByRecursion, list_any, list_all}
use Rattle.std.specs.Option.{option_map_or}
use Rattle.std.proofs.lemmas.Bool.{leb-true, ltb-true}
use Rattle.sd_model.specs.Tree.{Tree, Node, position, right_base}
use Rattle.sd_model.specs.Diagram.{Diagram, Bottom, Top, Literal, Decomposition, meaning, some_element, subs}
use Rattle.sd_model.specs.Diagram.{is_constant}
use Rattle.sd_model.specs.Canonical.{IsCanonical, AreDifferent}
use Rattle.sd_model.specs.Canonical.{canonical_bottom, canonical_top}
use Rattle.sd_model.specs.Expression.{FileConstant, FileLiteral, FileDecomposition}
use Rattle.sd_laws.specs.Pairs.{from_pairs, answers, IsPartition}
use Rattle.sd_laws.specs.Parts.{here, in_left, in_right, HasPosition}
use Rattle.sd_laws.specs.Values.{IsSame}
use Rattle.sd_laws.proofs.Places.{leaves_positive, part_trans, canonical_in}
use Rattle.sd_file.specs.Built.{value_at, pair_value}
use Rattle.sd_file.specs.Reads.{Node as FileNode, File}
use Rattle.sd_check.specs.Rules.{Places, Inner, inner_named, node_at, is_constant_node, is_among}
use Rattle.sd_check.specs.Rules.{stands_among, stands_left, stands_right, primes_true, HasSub, HasEqualSubs}
use Rattle.sd_check.specs.Standing.{IsPlacedAs, RepresentPairs}
use Rattle.sd_check.proofs.Inners.{InnerPart}

-- ---- tests

-- both of two tests
pub both_true : (b c : Bool) → (b && c) ≡ true → (b ≡ true) × (c ≡ true)
both_true true true h = (refl, refl)
both_true true false h = absurd (cc)
both_true false c h = absurd (cc)

-- neither of two tests
pub none_true : (b c : Bool) → (b || c) ≡ false → (b ≡ false) × (c ≡ false)
none_true true c h = absurd (cc)
none_true false c h = (refl, h)

-- what is not false is true
pub not_false : (b : Bool) → not b ≡ false → b ≡ true
not_false true h = refl
not_false false h = absurd (cc)

-- and what can't be true is false
pub false_else : (b : Bool) → (b ≡ true → ⊥) → b ≡ false
false_else true h = absurd (h refl)
false_else false h = refl

-- ---- places

-- a diagram at a position is no constant
pub at_position : (d : Diagram) (p : ℕ) → HasPosition d p → is_constant d ≡ false
at_position Bottom p h = absurd h
at_position Top p h = absurd h
at_position (Literal q x s) p h = refl
at_position (Decomposition q es) p h = refl

-- so it is not false
pub not_bottom : (d : Diagram) (p : ℕ) → HasPosition d p → d ≢ Bottom
not_bottom d p h e = subst (λ x. HasPosition x p) e h

-- a diagram is a constant just where its node is
pub constant_same : (ids : Places) (node : FileNode) (d : Diagram) → IsPlacedAs ids node d →
    is_constant d ≡ is_constant_node node
constant_same ids (vtree, FileConstant value) d h = h
constant_same ids (vtree, FileLiteral z) d h = at_position d h.0 h.2
constant_same ids (vtree, FileDecomposition pairs) d h = at_position d h.0 h.2

-- where a diagram stands whose node stands among positions
record Among (d : Diagram) (first end : ℕ) : Type 0 where
  at : ℕ
  has : HasPosition d at
  low : first ≤ at
  high : at < end

-- the position that passed the test
position_among : (o : Option ℕ) (p first end : ℕ) → o ≡ Some p → option_map_or (is_among first end) o false ≡ true →
    (first ≤ p) × (p < end)
position_among o p first end e h =
    let both = both_true _ _ (sym (ap (λ v. option_map_or (is_among first end) v false) e) ∙ h) in
    (leb-true first p both.0, ltb-true p end both.1)

-- the diagram of a node that stands among positions
stands_at : (ids : Places) (first end : ℕ) (node : FileNode) (d : Diagram) → IsPlacedAs ids node d →
    stands_among ids first end node ≡ true → Among d first end
stands_at ids first end (vtree, FileConstant value) d h e = absurd (cc)
stands_at ids first end (vtree, FileLiteral z) d h e =
    let r = position_among (ids vtree) h.0 first end h.1 e in
    record { at = h.0; has = h.2; low = r.0; high = r.1 }
stands_at ids first end (vtree, FileDecomposition pairs) d h e =
    let r = position_among (ids vtree) h.0 first end h.1 e in
    record { at = h.0; has = h.2; low = r.0; high = r.1 }

-- the diagram of a node that stands below the left child
pub left_canonical : (t : Tree) (ids : Places) (vtree p : ℕ) (i : Inner) (w : InnerPart t 0 p i) →
    inner_named t ids vtree ≡ Some i → (node : FileNode) (d : Diagram) → IsPlacedAs ids node d → IsCanonical t 0 d →
    stands_left t ids vtree node ≡ true → IsCanonical w.left w.from d × (d ≢ Bottom)
left_canonical t ids vtree p i w named node d place k e =
    let stands = sym (ap (λ o. option_map_or (λ j. stands_among ids j.first j.middle node) o false) named) ∙ e in
    let a = stands_at ids i.first i.middle node d place stands in
    let low : i.first ≡ w.from = ap (λ j. j.first) w.is in
    let high : i.middle ≡ position (Node w.left w.right) w.from = ap (λ j. j.middle) w.is in
    let some = leaves_positive w.left in (
      canonical_in (part_trans (in_left here) w.part) k a.has (omega (arith, low, a.low))
          (omega (arith, high, a.high, some)),
      not_bottom d a.at a.has,
    )

-- and of one below the right child
pub right_canonical : (t : Tree) (ids : Places) (vtree p : ℕ) (i : Inner) (w : InnerPart t 0 p i) →
    inner_named t ids vtree ≡ Some i → (node : FileNode) (d : Diagram) → IsPlacedAs ids node d → IsCanonical t 0 d →
    stands_right t ids vtree node ≡ true → IsCanonical w.right (right_base w.left w.from) d
right_canonical t ids vtree p i w named node d place k e =
    let stands = sym (ap (λ o. option_map_or (λ j. stands_among ids (j.middle + 1) j.end node) o false) named) ∙ e in
    let a = stands_at ids (i.middle + 1) i.end node d place stands in
    let low : i.middle ≡ position (Node w.left w.right) w.from = ap (λ j. j.middle) w.is in
    let high : i.end ≡ right_base w.right (right_base w.left w.from) - 1 = ap (λ j. j.end) w.is in
    let some = leaves_positive w.left in
    canonical_in (part_trans (in_right here) w.part) k a.has (omega (arith, low, a.low, some))
    (omega (arith, high, a.high))

-- a constant is canonical everywhere
pub constant_canonical : (t : Tree) (base : ℕ) (d : Diagram) → is_constant d ≡ true → IsCanonical t base d
constant_canonical t base Bottom h = canonical_bottom
constant_canonical t base Top h = canonical_top
constant_canonical t base (Literal p x s) h = absurd (cc)
constant_canonical t base (Decomposition p es) h = absurd (cc)

-- ---- the elements

-- the primes stand below the left child
pub primes_below : (t : Tree) (ids : Places) (f : File) (vtree p : ℕ) (i : Inner) (w : InnerPart t 0 p i) →
    inner_named t ids vtree ≡ Some i → (pairs : List (ℕ × ℕ)) (ds : List (Diagram × Diagram)) →
    RepresentPairs t ids f pairs ds → list_any (λ e. not (stands_left t ids vtree (node_at f e.0))) pairs ≡ false →
    AllByRecursion (λ d. IsCanonical w.left w.from d.0) ds × AllByRecursion (λ d. d.0 ≢ Bottom) ds
primes_below t ids f vtree p i w named [] [] h e = (tt, tt)
primes_below t ids f vtree p i w named [] (d ∷ ds) h e = absurd h
primes_below t ids f vtree p i w named (x ∷ pairs) [] h e = absurd h
primes_below t ids f vtree p i w named (x ∷ pairs) (d ∷ ds) h e =
    let parts = none_true (not (stands_left t ids vtree (node_at f x.0)))
    (list_any (λ e. not (stands_left t ids vtree (node_at f e.0))) pairs) e in
    let own = left_canonical t ids vtree p i w named (node_at f x.0) d.0 h.0.0.place h.0.0.canonical
    (not_false _ parts.0) in
    let rest = primes_below t ids f vtree p i w named pairs ds h.1 parts.1 in ((own.0, rest.0), (own.1, rest.1))

-- a sub is a constant or stands below the right child
sub_below : (t : Tree) (ids : Places) (vtree p : ℕ) (i : Inner) (w : InnerPart t 0 p i) →
    inner_named t ids vtree ≡ Some i → (node : FileNode) (d : Diagram) → IsPlacedAs ids node d → IsCanonical t 0 d →
    (b : Bool) → is_constant_node node ≡ b → (b || stands_right t ids vtree node) ≡ true →
    IsCanonical w.right (right_base w.left w.from) d
sub_below t ids vtree p i w named node d place k true e h =
    constant_canonical w.right (right_base w.left w.from) d (constant_same ids node d place ∙ e)
sub_below t ids vtree p i w named node d place k false e h = right_canonical t ids vtree p i w named node d place k h

-- the subs are so
pub subs_below : (t : Tree) (ids : Places) (f : File) (vtree p : ℕ) (i : Inner) (w : InnerPart t 0 p i) →
    inner_named t ids vtree ≡ Some i → (pairs : List (ℕ × ℕ)) (ds : List (Diagram × Diagram)) →
    RepresentPairs t ids f pairs ds →
    list_any (λ e. not (is_constant_node (node_at f e.1) || stands_right t ids vtree (node_at f e.1))) pairs ≡ false →
    AllByRecursion (λ d. IsCanonical w.right (right_base w.left w.from) d.1) ds
subs_below t ids f vtree p i w named [] [] h e = tt
subs_below t ids f vtree p i w named [] (d ∷ ds) h e = absurd h
subs_below t ids f vtree p i w named (x ∷ pairs) [] h e = absurd h
subs_below t ids f vtree p i w named (x ∷ pairs) (d ∷ ds) h e =
    let parts = none_true
    (not (is_constant_node (node_at f x.1) || stands_right t ids vtree (node_at f x.1)))
    (list_any (λ e. not (is_constant_node (node_at f e.1) || stands_right t ids vtree (node_at f e.1))) pairs) e in (
      sub_below t ids vtree p i w named (node_at f x.1) d.1 h.0.1.place h.0.1.canonical
          (is_constant_node (node_at f x.1)) refl (not_false _ parts.0),
      subs_below t ids f vtree p i w named pairs ds h.1 parts.1,
    )

-- one value more is one more true prime
count_step : (b c v : Bool) (bs : List Bool) (n : ℕ) → b ≡ c → length bs ≡ n →
    length (cond b (v ∷ bs) bs) ≡ cond c (suc n) n
count_step true true v bs n e h = ap suc h
count_step true false v bs n e h = absurd (cc)
count_step false true v bs n e h = absurd (cc)
count_step false false v bs n e h = h

-- as many values are chosen as primes are true
pub count_answers : (t : Tree) (ids : Places) (f : File) (a : List Bool) (pairs : List (ℕ × ℕ))
    (ds : List (Diagram × Diagram)) → RepresentPairs t ids f pairs ds → length (answers a ds) ≡ primes_true f a pairs
count_answers t ids f a [] [] h = refl
count_answers t ids f a [] (d ∷ ds) h = absurd h
count_answers t ids f a (e ∷ pairs) [] h = absurd h
count_answers t ids f a (e ∷ pairs) (d ∷ ds) h =
    count_step (meaning d.0 a) (value_at f e.0 a) (meaning d.1 a) (answers a ds) (primes_true f a pairs) (h.0.0.value a)
    (count_answers t ids f a pairs ds h.1)

-- a sub that is no other is another diagram
sub_apart : (t : Tree) (ids : Places) (f : File) (s : Diagram) (g : List Bool → Bool) → IsSame (meaning s) g →
    (pairs : List (ℕ × ℕ)) (ds : List (Diagram × Diagram)) → RepresentPairs t ids f pairs ds →
    (HasSub f g pairs → ⊥) → AllByRecursion (λ x. s ≢ x) (map (λ d. d.1) ds)
sub_apart t ids f s g same [] [] h k = tt
sub_apart t ids f s g same [] (d ∷ ds) h k = absurd h
sub_apart t ids f s g same (e ∷ pairs) [] h k = absurd h
sub_apart t ids f s g same (e ∷ pairs) (d ∷ ds) h k = (
  λ is. k (inl (λ a. sym (same a) ∙ ap (λ x. meaning x a) is ∙ h.0.1.value a)),
  sub_apart t ids f s g same pairs ds h.1 (λ m. k (inr m)),
)

-- subs that are different functions are different diagrams
pub subs_apart : (t : Tree) (ids : Places) (f : File) (pairs : List (ℕ × ℕ)) (ds : List (Diagram × Diagram)) →
    RepresentPairs t ids f pairs ds → (HasEqualSubs f pairs → ⊥) → AreDifferent (map (λ d. d.1) ds)
subs_apart t ids f [] [] h k = tt
subs_apart t ids f [] (d ∷ ds) h k = absurd h
subs_apart t ids f (e ∷ pairs) [] h k = absurd h
subs_apart t ids f (e ∷ pairs) (d ∷ ds) h k = (
  sub_apart t ids f d.1 (value_at f e.1) h.0.1.value pairs ds h.1 (λ m. k (inl m)),
  subs_apart t ids f pairs ds h.1 (λ m. k (inr m)),
)

-- constant subs are constant for the file
pub constant_subs : (t : Tree) (ids : Places) (f : File) (pairs : List (ℕ × ℕ)) (ds : List (Diagram × Diagram)) →
    RepresentPairs t ids f pairs ds →
    list_all is_constant (subs (from_pairs ds)) ≡ list_all (λ e. is_constant_node (node_at f e.1)) pairs
constant_subs t ids f [] [] h = refl
constant_subs t ids f [] (d ∷ ds) h = absurd h
constant_subs t ids f (e ∷ pairs) [] h = absurd h
constant_subs t ids f (e ∷ pairs) (d ∷ ds) h =
    ap (λ b. b && list_all is_constant (subs (from_pairs ds))) (constant_same ids (node_at f e.1) d.1 h.0.1.place)
    ∙ ap (λ b. is_constant_node (node_at f e.1) && b) (constant_subs t ids f pairs ds h.1)

-- the elements have the value of the pairs
pub elements_value : (t : Tree) (ids : Places) (f : File) (a : List Bool) (pairs : List (ℕ × ℕ))
    (ds : List (Diagram × Diagram)) → RepresentPairs t ids f pairs ds →
    some_element (from_pairs ds) a ≡ list_any (pair_value f a) pairs
elements_value t ids f a [] [] h = refl
elements_value t ids f a [] (d ∷ ds) h = absurd h
elements_value t ids f a (e ∷ pairs) [] h = absurd h
elements_value t ids f a (e ∷ pairs) (d ∷ ds) h =
    ap (λ b. (b && meaning d.1 a) || some_element (from_pairs ds) a) (h.0.0.value a)
    ∙ ap (λ b. (value_at f e.0 a && b) || some_element (from_pairs ds) a) (h.0.1.value a)
    ∙ ap (λ b. pair_value f a e || b) (elements_value t ids f a pairs ds h.1)

-- one number is left where it is neither 0 nor 2 or more
one_left : (n : ℕ) → (2 ≤ n → ⊥) → (n ≡ 0 → ⊥) → n ≡ 1
one_left zero h k = absurd (k refl)
one_left (suc zero) h k = refl
one_left (suc (suc n)) h k = absurd (h (omega arith))

-- so the elements are a partition
pub elements_partition : (t : Tree) (ids : Places) (f : File) (vtree p : ℕ) (i : Inner) (w : InnerPart t 0 p i) →
    inner_named t ids vtree ≡ Some i → (pairs : List (ℕ × ℕ)) (ds : List (Diagram × Diagram)) →
    RepresentPairs t ids f pairs ds → list_any (λ e. not (stands_left t ids vtree (node_at f e.0))) pairs ≡ false →
    list_any (λ e. not (is_constant_node (node_at f e.1) || stands_right t ids vtree (node_at f e.1))) pairs ≡ false →
    ((a : List Bool) → 2 ≤ primes_true f a pairs → ⊥) → ((a : List Bool) → primes_true f a pairs ≡ 0 → ⊥) →
    IsPartition w.left w.right w.from ds
elements_partition t ids f vtree p i w named pairs ds h left right apart covered =
    let primes = primes_below t ids f vtree p i w named pairs ds h left in
    record {
      elements = record {
        primes = primes.0;
        subs = subs_below t ids f vtree p i w named pairs ds h right;
        possible = primes.1;
      };
      one_true = λ a. count_answers t ids f a pairs ds h ∙ one_left (primes_true f a pairs) (apart a) (covered a);
    }

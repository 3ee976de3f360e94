-- A diagram at a node, or below one of its children, as a partition of the node.
use Rattle.std.proofs.Common.{◌≡◌, ◌≢◌, ℕ, ◌+◌, ◌≤◌, Bool, true, false, cond, not}
use Rattle.std.proofs.Common.{List, [], ◌∷◌, length, Some, slice_get, refl, sym, ◌∙◌, ap, subst, arith, length-append}
use Rattle.std.specs.List.Sorted.{IsPermutation}
use Rattle.std.specs.List.{list_all}
use Rattle.std.proofs.lemmas.List.Sorted.{IsPermutation-sym, length_permutation}
use Rattle.sd_model.specs.Tree.{Tree, Node, variables, position, right_base}
use Rattle.sd_model.specs.Diagram.{Diagram, Bottom, Top, Decomposition, Elements, meaning}
use Rattle.sd_model.specs.Diagram.{some_element, is_constant, subs, count}
use Rattle.sd_model.specs.Canonical.{IsElement, IsCanonical, AreDifferent}
use Rattle.sd_model.specs.Canonical.{canonical_bottom, canonical_top, canonical_in_left, canonical_in_right}
use Rattle.sd_model.specs.Canonical.{canonical_decomposition, true_primes}
use Rattle.sd_model.proofs.Blend.{IsApart}
use Rattle.sd_model.proofs.Valued.{Decomposes, parts, top_only, not_bottom, not_top}
use Rattle.sd_vtree.specs.Numbered.{Numbered, numbers, plain_tree, IsNumbered}
use Rattle.std.proofs.lemmas.Option.{some_pair_parts}
use Rattle.sd_vtree.proofs.Times.{one_place}
use Rattle.sd_vtree.proofs.Subtrees.{once_numbered}
use Rattle.sd_laws.specs.Pairs.{from_pairs, pairs_of, IsPartition, IsCompressed, HasValue}
use Rattle.sd_laws.specs.Parts.{IsPart, IsInner, HasPosition}
use Rattle.sd_laws.specs.Shown.{Lookup, HasPairs, Shows, ShowPairs, ShowsCanonical}
use Rattle.sd_laws.proofs.Lists.{all_from, IsAmong, first_permuted}
use Rattle.sd_laws.proofs.Joining.{trimmed_permuted}
use Rattle.sd_laws.proofs.Pairs.{pairs_back, count_pairs, element_among, true_primes_pairs, answers_value}
use Rattle.sd_laws.proofs.Pairs.{HasValue_permuted, IsPartition_permuted, IsCompressed_permuted}
use Rattle.sd_laws.proofs.Codes.{pairs_shown}
use Rattle.sd_laws.proofs.Nodes.{place_stored}
use Rattle.sd_laws.proofs.Places.{canonical_in, position_within, leaves_positive}

-- at the node

-- a decomposition at a node's own position is made of its children's diagrams
pub own_parts : (l r : Tree) (base p : ℕ) (es : Elements) → IsCanonical (Node l r) base (Decomposition p es) →
    p ≡ position (Node l r) base → Decomposes l r base es
own_parts l r base p es (canonical_in_left e k) h =
    absurd (omega (arith, h, (position_within k refl).1, leaves_positive l))
own_parts l r base p es (canonical_in_right e k) h =
    absurd (omega (arith, h, (position_within k refl).0, leaves_positive l))
own_parts l r base p es (canonical_decomposition ps ss partition) h = parts ps ss partition

-- a canonical diagram that stands at a node's own position is canonical for the node
own_canonical : (left right t : Tree) (base p : ℕ) (d : Diagram) → IsPart (Node left right) base t 0 →
    IsCanonical t 0 d → HasPosition d p → p ≡ position (Node left right) base → IsCanonical (Node left right) base d
own_canonical left right t base p d part k stands own =
    let a = leaves_positive left in
    let b = leaves_positive right in
    canonical_in part k stands (omega arith) (omega (arith, length-append (variables left) (variables right)))

-- its pairs are a partition of the node
pub own_partition : (l r : Tree) (base : ℕ) (es : Elements) → Decomposes l r base es
    → IsPartition l r base (pairs_of es)
own_partition l r base es h =
    let ds = pairs_of es in
    let is : from_pairs ds ≡ es = pairs_back es in
    let member : (d : Diagram × Diagram) → IsAmong d ds → IsElement d.0 d.1 es = λ d m.
    subst (IsElement d.0 d.1) is (element_among ds d m) in
    record {
      elements = record {
        primes = all_from (λ (d : Diagram × Diagram). IsCanonical l base d.0) ds (λ d m. h.left d.0 d.1 (member d m));
        subs = all_from (λ (d : Diagram × Diagram). IsCanonical r (right_base l base) d.1) ds
            (λ d m. h.right d.0 d.1 (member d m));
        possible = all_from (λ (d : Diagram × Diagram). d.0 ≢ Bottom) ds
            (λ d m. can_hold d.0 (h.partition.no_false_prime d.0 d.1 (member d m)));
      };
      one_true = λ a. sym (true_primes_pairs a ds) ∙ ap (λ x. true_primes x a) is ∙ h.partition.one_prime a;
    }
  where
    can_hold : (d : Diagram) → (a : List Bool) × (meaning d a ≡ true) → d ≢ Bottom
    can_hold d w e = let f : meaning d w.0 ≡ false = ap (λ x. meaning x w.0) e in cc (f, w.1)

-- with the value of the decomposition
pub own_value : (l r : Tree) (base p : ℕ) (es : Elements) → Decomposes l r base es →
    HasValue (pairs_of es) (meaning (Decomposition p es))
own_value l r base p es h a =
    answers_value a (pairs_of es) ((own_partition l r base es h).one_true a)
    ∙ ap (λ x. some_element x a ∷ []) (pairs_back es)

-- and compressed
pub own_compressed : (l r : Tree) (base : ℕ) (es : Elements) → Decomposes l r base es → IsCompressed (pairs_of es)
own_compressed l r base es h = subst (λ x. AreDifferent (subs x)) (sym (pairs_back es)) h.partition.compressed

-- the pairs of a node as they are stored

-- what the stored pairs of a decomposition show: a compressed partition of its place, with its value
pub record Stored (t : Numbered) (at : Lookup) (u : ℕ) (l : List (ℕ × ℕ)) (left right : Tree) (base : ℕ)
    (d : Diagram) : Type 0 where
  pub pairs : List (Diagram × Diagram)
  pub shown : ShowPairs t at l pairs
  pub partition : IsPartition left right base pairs
  pub value : HasValue pairs (meaning d)
  pub compressed : IsCompressed pairs
  pub several : 2 ≤ length pairs
  pub trimmed : list_all is_constant (subs (from_pairs pairs)) ≡ false

-- the stored pairs of a decomposition at an inner node
pub stored_partition : (t : Numbered) (at : Lookup) → IsNumbered t → (c p : ℕ) (es : Elements) →
    ShowsCanonical t at c (Decomposition p es) → (n u : ℕ) (l : List (ℕ × ℕ)) → c ≡ 2050 + n → at n ≡ Some (u, l) →
    (left right : Tree) (base : ℕ) → IsInner t u left right base →
    Stored t at u l left right base (Decomposition p es)
stored_partition t at v c p es h n u l code stored left right base inner =
    let k : HasPairs t at c p h.shows.0 = h.shows.1 in
    let number : k.number ≡ n = omega (arith, k.code) in
    let same : Some (k.place, k.list) ≡ Some (u, l) = sym k.stored ∙ ap at number ∙ stored in
    let list : k.list ≡ l = (some_pair_parts k.place u k.list l same).1 in
    let at_place : slice_get (numbers t) p ≡ Some u = place_stored t at c p es h.shows n u l code stored in
    let own : p ≡ position (Node left right) base =
    one_place (numbers t) u p (position (Node left right) base) (once_numbered t v u) at_place inner.number in
    let within : IsCanonical (Node left right) base (Decomposition p es) =
    own_canonical left right (plain_tree t) base p (Decomposition p es) inner.part h.canonical refl own in
    let dec : Decomposes left right base es = own_parts left right base p es within own in
    let R : ℕ × ℕ → Diagram × Diagram → Type 0 = λ e d. Shows t at e.0 d.0 × Shows t at e.1 d.1 in
    let order : IsPermutation h.shows.0 l =
    subst (IsPermutation h.shows.0) list (IsPermutation-sym k.list h.shows.0 k.order) in
    let f = first_permuted R h.shows.0 (pairs_of es) l (pairs_shown t at h.shows.0 es h.shows.2) order in
    record {
      pairs = f.0;
      shown = f.2;
      partition = IsPartition_permuted left right base (pairs_of es) f.0 f.1 (own_partition left right base es dec);
      value = HasValue_permuted (pairs_of es) f.0 (meaning (Decomposition p es)) f.1
          (own_value left right base p es dec);
      compressed = IsCompressed_permuted (pairs_of es) f.0 f.1 (own_compressed left right base es dec);
      several = omega (
        arith,
        dec.partition.several,
        count_pairs (pairs_of es),
        ap count (pairs_back es),
        length_permutation (pairs_of es) f.0 f.1,
      );
      trimmed = trimmed_permuted (pairs_of es) f.0 f.1
          (subst (λ x. list_all is_constant (subs x) ≡ false) (sym (pairs_back es)) dec.partition.trimmed);
    }

-- below a child

-- a truth value and its negation as the primes of two pairs
two_values : (b c : Bool) → c ≡ not b →
    cond b (true ∷ cond c (false ∷ []) []) (cond c (false ∷ []) []) ≡ b ∷ []
two_values true true e = absurd (cc)
two_values true false e = refl
two_values false true e = refl
two_values false false e = absurd (cc)

-- a diagram below the left child and its negation are the primes of a partition
pub left_value : (x y : Diagram) → ((a : List Bool) → meaning y a ≡ not (meaning x a)) →
    HasValue ((x, Top) ∷ (y, Bottom) ∷ []) (meaning x)
left_value x y e a = two_values (meaning x a) (meaning y a) (e a)

-- where it is no constant
pub left_partition : (n : ℕ) (l r : Tree) (base : ℕ) (x y : Diagram) → IsApart n l → IsCanonical l base x →
    IsCanonical l base y → is_constant x ≡ false → ((a : List Bool) → meaning y a ≡ not (meaning x a)) →
    IsPartition l r base ((x, Top) ∷ (y, Bottom) ∷ [])
left_partition n l r base x y apart kx ky inner e =
    record {
      elements = record {
        primes = (kx, (ky, tt));
        subs = (canonical_top, (canonical_bottom, tt));
        possible = (not_bottom x inner, (other, tt));
      };
      one_true = λ a. ap length (left_value x y e a);
    }
  where
    other : y ≢ Bottom
    other h =
        not_top x inner
        (top_only n apart kx (λ a. go (meaning x a) (ap (λ d. meaning d a) (sym h) ∙ e a)))
      where
        go : (b : Bool) → false ≡ not b → b ≡ true
        go true k = refl
        go false k = cc

-- a diagram below the right child is the only sub
pub right_value : (x : Diagram) → HasValue ((Top, x) ∷ []) (meaning x)
right_value x a = refl

-- beside the prime true
pub right_partition : (l r : Tree) (base : ℕ) (x : Diagram) → IsCanonical r (right_base l base) x →
    IsPartition l r base ((Top, x) ∷ [])
right_partition l r base x k =
    record {
      elements = record { primes = (canonical_top, tt); subs = (k, tt); possible = ((λ e. cc), tt) };
      one_true = λ a. refl;
    }

-- two diagrams below the two children, joined by an operation: the sub beside a prime is that of the operation with the
-- prime's value
pub apart_value : (op : Bool → Bool → Bool) (x y s z : Diagram) (b : Diagram) →
    ((a : List Bool) → meaning y a ≡ not (meaning x a)) → ((a : List Bool) → meaning s a ≡ op true (meaning b a)) →
    ((a : List Bool) → meaning z a ≡ op false (meaning b a)) →
    HasValue ((x, s) ∷ (y, z) ∷ []) (λ a. op (meaning x a) (meaning b a))
apart_value op x y s z b e hs hz a =
    go (meaning x a) (meaning y a) (meaning s a) (meaning z a) (e a) (hs a) (hz a)
  where
    go : (p q v w : Bool) → q ≡ not p → v ≡ op true (meaning b a) → w ≡ op false (meaning b a) →
        cond p (v ∷ cond q (w ∷ []) []) (cond q (w ∷ []) []) ≡ op p (meaning b a) ∷ []
    go true true v w f hv hw = absurd (cc)
    go true false v w f hv hw = ap (λ c. c ∷ []) hv
    go false true v w f hv hw = ap (λ c. c ∷ []) hw
    go false false v w f hv hw = absurd (cc)

-- A node that is a copy of a canonical diagram breaks no rule.
use Rattle.std.proofs.Common.{◌≡◌, ◌≢◌, inl, inr, ℕ, suc, ◌+◌, ◌-◌, ◌<◌, ◌≤◌, Bool, true, false, not}
use Rattle.std.proofs.Common.{◌&&◌, ◌||◌, List, [], ◌∷◌, length, map, Some, ℤ, pos, negsuc, unsigned_abs}
use Rattle.std.proofs.Common.{refl, sym, ◌∙◌, ap, subst, arith, option_and_then}
use Rattle.std.specs.Prelude.{nat_lt}
use Rattle.std.specs.List.{AllByRecursion, AllZip, list_any, list_all}
use Rattle.std.specs.List.Sorted.{IsPermutation}
use Rattle.std.specs.Option.{option_map_or}
use Rattle.std.proofs.lemmas.Bool.{le-leb, lt-ltb}
use Rattle.std.proofs.lemmas.List.Sorted.{IsPermutation-sym, length_permutation, list_any-IsPermutation}
use Rattle.sd_model.specs.Tree.{Tree, Node, IsVtree, leaves, position, right_base}
use Rattle.sd_model.specs.Diagram.{Diagram, Bottom, Top, Literal, Decomposition, Elements, End, Pair, meaning}
use Rattle.sd_model.specs.Diagram.{some_element, count, is_constant}
use Rattle.sd_model.specs.Diagram.{subs as subs_of}
use Rattle.sd_model.specs.Canonical.{IsCanonical, IsElement, first, later, IsCompressedPartition, AreDifferent}
use Rattle.sd_model.specs.Canonical.{canonical_in_left, canonical_in_right, canonical_decomposition, true_primes}
use Rattle.sd_model.specs.Expression.{FileConstant, FileLiteral, FileDecomposition}
use Rattle.sd_model.proofs.Blend.{IsApart}
use Rattle.sd_model.proofs.OverVtree.{vtree_apart}
use Rattle.sd_model.proofs.Unique.{unique}
use Rattle.sd_laws.specs.Pairs.{from_pairs, pairs_of, answers, IsCompressed}
use Rattle.sd_laws.specs.Parts.{IsPart, here, in_left, in_right, HasPosition, leaf_position}
use Rattle.sd_laws.specs.Values.{IsSame}
use Rattle.sd_laws.proofs.Joining.{trimmed_permuted}
use Rattle.sd_laws.proofs.Lists.{all_permuted, all_weaker, all_from, all_at, IsAmong, zip_length, first_permuted}
use Rattle.sd_laws.proofs.Nodes.{elements_canonical}
use Rattle.sd_laws.proofs.Numbers.{literal_position}
use Rattle.sd_laws.proofs.Pairs.{pairs_back, subs_pairs, count_pairs, true_primes_pairs, answers_some, length_permuted}
use Rattle.sd_laws.proofs.Pairs.{IsCompressed_permuted}
use Rattle.sd_laws.proofs.Places.{leaves_positive, position_within}
use Rattle.sd_file.specs.Built.{value_at, pair_value}
use Rattle.sd_file.specs.Files.{IsEarlier, IsFile}
use Rattle.sd_file.specs.Reads.{Node as NodeLine, File}
use Rattle.sd_check.specs.declared.rules.Rule.{Rule}
use Rattle.sd_check.specs.declared.rules.Rule.TheVariants.{Vtree, Prime, Sub, Count, Overlap, Cover, Subs, Trim}
use Rattle.sd_check.specs.Rules.{Places, inner_of, inner_at, inner_named, node_at, is_constant_node, is_among}
use Rattle.sd_check.specs.Rules.{stands_among, stands_left, stands_right, HasSub, HasEqualSubs}
use Rattle.sd_check.specs.Rules.{ElementsBreak, NodeBreaks, IsBroken}
use Rattle.sd_check.specs.Copies.{IsLiteralOf, IsCopy, AreCopies}
use Rattle.sd_check.specs.Standing.{IsPlacedAs, Represents, RepresentPairs}
use Rattle.sd_check.proofs.Inners.{part_inner}
use Rattle.sd_check.proofs.Elements.{constant_same, count_answers, constant_subs}
use Rattle.sd_check.proofs.Represented.{node_fits, value_of_node, literal_meaning}

-- ---- what a copy stands for

-- both numbers of a pair are those of nodes
abbrev AreNodes : File → ℕ × ℕ → Type 0
AreNodes f e = (e.0 < length f.nodes) × (e.1 < length f.nodes)

-- the elements of a node are nodes
pairs_nodes : (f : File) (i vtree : ℕ) (pairs : List (ℕ × ℕ)) → IsFile f → i < length f.nodes →
    node_at f i ≡ (vtree, FileDecomposition pairs) → AllByRecursion (AreNodes f) pairs
pairs_nodes f i vtree pairs is below e =
    all_weaker (IsEarlier i) (AreNodes f) (λ x h. (omega (arith, h.prime), omega (arith, h.sub))) pairs
    (node_fits f i (vtree, FileDecomposition pairs) is below e).1

mutual
  -- a copy has the diagram's value
  copy_value : (ids : Places) (f : File) → IsFile f → (a : List Bool) (i : ℕ) → i < length f.nodes → (d : Diagram) →
      IsCopy ids f i d → meaning d a ≡ value_at f i a
  copy_value ids f is a i below Bottom h = sym (value_of_node f i (h.0, FileConstant false) a is below h.1)
  copy_value ids f is a i below Top h = sym (value_of_node f i (h.0, FileConstant true) a is below h.1)
  copy_value ids f is a i below (Literal p x s) h =
      literal_meaning p x s h.1 a h.4 ∙ sym (value_of_node f i (h.0, FileLiteral h.1) a is below h.2)
  copy_value ids f is a i below (Decomposition p es) h =
      copies_value ids f is a h.2
      (all_permuted (AreNodes f) h.1 h.2 h.5 (pairs_nodes f i h.0 h.1 is below h.3)) es h.6
      ∙ sym (list_any-IsPermutation (pair_value f a) h.1 h.2 h.5)
      ∙ sym (value_of_node f i (h.0, FileDecomposition h.1) a is below h.3)

  -- and copies have that of the elements
  copies_value : (ids : Places) (f : File) → IsFile f → (a : List Bool) (order : List (ℕ × ℕ)) →
      AllByRecursion (AreNodes f) order → (es : Elements) → AreCopies ids f order es →
      some_element es a ≡ list_any (pair_value f a) order
  copies_value ids f is a [] all End h = refl
  copies_value ids f is a [] all (Pair p s rest) h = absurd h
  copies_value ids f is a (e ∷ order) all End h = absurd h
  copies_value ids f is a (e ∷ order) all (Pair p s rest) h =
      ap (λ b. (b && meaning s a) || some_element rest a) (copy_value ids f is a e.0 all.0.0 p h.0)
      ∙ ap (λ b. (value_at f e.0 a && b) || some_element rest a) (copy_value ids f is a e.1 all.0.1 s h.1)
      ∙ ap (λ b. pair_value f a e || b) (copies_value ids f is a order all.1 rest h.2)

-- a copy stands where its diagram does
copy_place : (ids : Places) (f : File) (i : ℕ) (d : Diagram) → IsCopy ids f i d → IsPlacedAs ids (node_at f i) d
copy_place ids f i Bottom h = subst (λ n. IsPlacedAs ids n Bottom) (sym h.1) refl
copy_place ids f i Top h = subst (λ n. IsPlacedAs ids n Top) (sym h.1) refl
copy_place ids f i (Literal p x s) h =
    subst (λ n. IsPlacedAs ids n (Literal p x s)) (sym h.2) (p, h.3, refl)
copy_place ids f i (Decomposition p es) h =
    subst (λ n. IsPlacedAs ids n (Decomposition p es)) (sym h.3) (p, h.4, refl)

-- so it stands for the diagram
copy_represents : (t : Tree) (ids : Places) (f : File) → IsFile f → (i : ℕ) → i < length f.nodes → (d : Diagram) →
    IsCanonical t 0 d → IsCopy ids f i d → Represents t ids f i d
copy_represents t ids f is i below d k h =
    record {
      canonical = k;
      value = λ a. copy_value ids f is a i below d h;
      place = copy_place ids f i d h;
    }

-- ---- where a canonical decomposition stands

-- the vtree node of a canonical decomposition
record HasNode (t : Tree) (b p : ℕ) (es : Elements) : Type 0 where
  left : Tree
  right : Tree
  from : ℕ
  part : IsPart (Node left right) from t b
  place : position (Node left right) from ≡ p
  primes : (q s : Diagram) → IsElement q s es → IsCanonical left from q
  subs : (q s : Diagram) → IsElement q s es → IsCanonical right (right_base left from) s
  partition : IsCompressedPartition es

has_node : {t : Tree} {b p : ℕ} {es : Elements} → IsCanonical t b (Decomposition p es) → HasNode t b p es
has_node (canonical_in_left e k) =
    let w = has_node k in
    record {
      left = w.left;
      right = w.right;
      from = w.from;
      part = in_left w.part;
      place = w.place;
      primes = w.primes;
      subs = w.subs;
      partition = w.partition;
    }
has_node (canonical_in_right e k) =
    let w = has_node k in
    record {
      left = w.left;
      right = w.right;
      from = w.from;
      part = in_right w.part;
      place = w.place;
      primes = w.primes;
      subs = w.subs;
      partition = w.partition;
    }
has_node (canonical_decomposition {l = l} {r = r} {base = base} ps ss partition) =
    record {
      left = l;
      right = r;
      from = base;
      part = here;
      place = refl;
      primes = ps;
      subs = ss;
      partition = partition;
    }

-- what holds of each element holds of each pair
all_elements : (P : Diagram × Diagram → Type 0) (es : Elements) → ((p s : Diagram) → IsElement p s es → P (p, s)) →
    AllByRecursion P (pairs_of es)
all_elements P End h = tt
all_elements P (Pair p s rest) h = (h p s first, all_elements P rest (λ q t m. h q t (later m)))

-- copies of elements are copies of pairs
pairs_copied : (ids : Places) (f : File) (order : List (ℕ × ℕ)) (es : Elements) → AreCopies ids f order es →
    AllZip (λ e d. IsCopy ids f e.0 d.0 × IsCopy ids f e.1 d.1) order (pairs_of es)
pairs_copied ids f [] End h = tt
pairs_copied ids f [] (Pair p s rest) h = absurd h
pairs_copied ids f (e ∷ order) End h = absurd h
pairs_copied ids f (e ∷ order) (Pair p s rest) h = ((h.0, h.1), pairs_copied ids f order rest h.2)

-- and stand for them
pairs_represent : (t : Tree) (ids : Places) (f : File) → IsFile f → (pairs : List (ℕ × ℕ))
    (ds : List (Diagram × Diagram)) → AllZip (λ e d. IsCopy ids f e.0 d.0 × IsCopy ids f e.1 d.1) pairs ds →
    AllByRecursion (AreNodes f) pairs → AllByRecursion (λ d. IsCanonical t 0 d.0 × IsCanonical t 0 d.1) ds →
    RepresentPairs t ids f pairs ds
pairs_represent t ids f is [] [] h all k = tt
pairs_represent t ids f is [] (d ∷ ds) h all k = absurd h
pairs_represent t ids f is (e ∷ pairs) [] h all k = absurd h
pairs_represent t ids f is (e ∷ pairs) (d ∷ ds) h all k = (
  (copy_represents t ids f is e.0 all.0.0 d.0 k.0.0 h.0.0, copy_represents t ids f is e.1 all.0.1 d.1 k.0.1 h.0.1),
  pairs_represent t ids f is pairs ds h.1 all.1 k.1,
)

-- ---- each rule

-- a diagram among positions has its node there
node_among : (ids : Places) (low end : ℕ) (node : NodeLine) (d : Diagram) → IsPlacedAs ids node d →
    is_constant d ≡ false → ((p : ℕ) → HasPosition d p → (low ≤ p) × (p < end)) →
    stands_among ids low end node ≡ true
node_among ids low end (vtree, FileConstant value) d h k within = absurd (cc (h, k))
node_among ids low end (vtree, FileLiteral z) d h k within =
    let r = within h.0 h.2 in
    ap (λ o. option_map_or (is_among low end) o false) h.1
    ∙ ap (λ b. b && nat_lt h.0 end) (le-leb low h.0 r.0) ∙ lt-ltb h.0 end r.1
node_among ids low end (vtree, FileDecomposition pairs) d h k within =
    let r = within h.0 h.2 in
    ap (λ o. option_map_or (is_among low end) o false) h.1
    ∙ ap (λ b. b && nat_lt h.0 end) (le-leb low h.0 r.0) ∙ lt-ltb h.0 end r.1

-- a prime below the left child
prime_stands : (t : Tree) (ids : Places) (vtree : ℕ) (l r : Tree) (from : ℕ) →
    inner_named t ids vtree ≡ Some (inner_of l r from) → (node : NodeLine) (d : Diagram) → IsPlacedAs ids node d →
    is_constant d ≡ false → IsCanonical l from d → stands_left t ids vtree node ≡ true
prime_stands t ids vtree l r from named node d h k canonical =
    ap (λ o. option_map_or (λ i. stands_among ids i.first i.middle node) o false) named
    ∙ node_among ids from (position (Node l r) from) node d h k
    (λ p at. let w = position_within canonical at in (omega (arith, w.0), omega (arith, w.1)))

-- a sub below the right child
sub_stands : (t : Tree) (ids : Places) (vtree : ℕ) (l r : Tree) (from : ℕ) →
    inner_named t ids vtree ≡ Some (inner_of l r from) → (node : NodeLine) (d : Diagram) → IsPlacedAs ids node d →
    is_constant d ≡ false → IsCanonical r (right_base l from) d → stands_right t ids vtree node ≡ true
sub_stands t ids vtree l r from named node d h k canonical =
    let some = leaves_positive l in
    ap (λ o. option_map_or (λ i. stands_among ids (i.middle + 1) i.end node) o false) named
    ∙ node_among ids (position (Node l r) from + 1) (right_base r (right_base l from) - 1) node d h k
    (λ p at. let w = position_within canonical at in (omega (arith, w.0, some), omega (arith, w.1)))

-- a sub that is a constant, or below the right child
sub_passes : (t : Tree) (ids : Places) (vtree : ℕ) (l r : Tree) (from : ℕ) →
    inner_named t ids vtree ≡ Some (inner_of l r from) → (node : NodeLine) (d : Diagram) → IsPlacedAs ids node d →
    IsCanonical r (right_base l from) d → (b : Bool) → is_constant d ≡ b →
    (is_constant_node node || stands_right t ids vtree node) ≡ true
sub_passes t ids vtree l r from named node d h canonical true k =
    ap (λ b. b || stands_right t ids vtree node) (sym (constant_same ids node d h) ∙ k)
sub_passes t ids vtree l r from named node d h canonical false k =
    ap (λ b. b || stands_right t ids vtree node) (sym (constant_same ids node d h) ∙ k)
    ∙ sub_stands t ids vtree l r from named node d h k canonical

-- all primes are below the left child
primes_stand : (t : Tree) (ids : Places) (f : File) (vtree : ℕ) (l r : Tree) (from : ℕ) →
    inner_named t ids vtree ≡ Some (inner_of l r from) → (pairs : List (ℕ × ℕ)) (ds : List (Diagram × Diagram)) →
    RepresentPairs t ids f pairs ds → AllByRecursion (λ d. IsCanonical l from d.0) ds →
    AllByRecursion (λ d. is_constant d.0 ≡ false) ds →
    list_any (λ e. not (stands_left t ids vtree (node_at f e.0))) pairs ≡ false
primes_stand t ids f vtree l r from named [] [] h k c = refl
primes_stand t ids f vtree l r from named [] (d ∷ ds) h k c = absurd h
primes_stand t ids f vtree l r from named (e ∷ pairs) [] h k c = absurd h
primes_stand t ids f vtree l r from named (e ∷ pairs) (d ∷ ds) h k c =
    ap (λ b. not b || list_any (λ e. not (stands_left t ids vtree (node_at f e.0))) pairs)
    (prime_stands t ids vtree l r from named (node_at f e.0) d.0 h.0.0.place c.0 k.0)
    ∙ primes_stand t ids f vtree l r from named pairs ds h.1 k.1 c.1

-- all subs are constants or below the right child
subs_stand : (t : Tree) (ids : Places) (f : File) (vtree : ℕ) (l r : Tree) (from : ℕ) →
    inner_named t ids vtree ≡ Some (inner_of l r from) → (pairs : List (ℕ × ℕ)) (ds : List (Diagram × Diagram)) →
    RepresentPairs t ids f pairs ds → AllByRecursion (λ d. IsCanonical r (right_base l from) d.1) ds →
    list_any (λ e. not (is_constant_node (node_at f e.1) || stands_right t ids vtree (node_at f e.1))) pairs ≡ false
subs_stand t ids f vtree l r from named [] [] h k = refl
subs_stand t ids f vtree l r from named [] (d ∷ ds) h k = absurd h
subs_stand t ids f vtree l r from named (e ∷ pairs) [] h k = absurd h
subs_stand t ids f vtree l r from named (e ∷ pairs) (d ∷ ds) h k =
    ap (λ b. not b
    || list_any (λ e. not (is_constant_node (node_at f e.1) || stands_right t ids vtree (node_at f e.1))) pairs)
    (sub_passes t ids vtree l r from named (node_at f e.1) d.1 h.0.1.place k.0 (is_constant d.1) refl)
    ∙ subs_stand t ids f vtree l r from named pairs ds h.1 k.1

-- a pair more is one true prime more
one_more : (a : List Bool) (d : Diagram × Diagram) (ds : List (Diagram × Diagram)) → meaning d.0 a ≡ true →
    length (answers a (d ∷ ds)) ≡ suc (length (answers a ds))
one_more a d ds e = rw e refl

-- a prime that is true somewhere
abbrev IsPossible : Diagram × Diagram → Type 0
IsPossible d = (a : List Bool) × (meaning d.0 a ≡ true)

-- of several primes none is always true
no_top : (ds : List (Diagram × Diagram)) → 2 ≤ length ds → AllByRecursion IsPossible ds →
    ((a : List Bool) → length (answers a ds) ≡ 1) → (d : Diagram × Diagram) → IsAmong d ds → d.0 ≢ Top
no_top [] several h one d m top = absurd m
no_top (x ∷ []) several h one d m top = absurd (omega (arith, several))
no_top (x ∷ y ∷ ds) several h one d (inl e) top =
    let a = h.1.0.0 in
    let always : meaning x.0 a ≡ true =
    ap (λ (v : Diagram × Diagram). meaning v.0 a) (sym e) ∙ ap (λ v. meaning v a) top in
    absurd (omega (arith, one a, one_more a x (y ∷ ds) always, answers_some a (y ∷ ds) y (inl refl) h.1.0.1))
no_top (x ∷ y ∷ ds) several h one d (inr m) top =
    let a = h.0.0 in
    absurd (omega (arith, one a, one_more a x (y ∷ ds) h.0.1, answers_some a (y ∷ ds) d m (ap (λ v. meaning v a) top)))

-- nor always false
no_constant : (d : Diagram) → ((a : List Bool) × (meaning d a ≡ true)) → d ≢ Top → is_constant d ≡ false
no_constant Bottom h k = absurd (cc (h.1))
no_constant Top h k = absurd (k refl)
no_constant (Literal p x s) h k = refl
no_constant (Decomposition p es) h k = refl

-- a diagram with the value of a sub is that sub
sub_equal : (n : ℕ) (t : Tree) (ids : Places) (f : File) (s : Diagram) (g : List Bool → Bool) → IsApart n t →
    IsCanonical t 0 s → IsSame (meaning s) g → (pairs : List (ℕ × ℕ)) (ds : List (Diagram × Diagram)) →
    RepresentPairs t ids f pairs ds → AllByRecursion (λ x. s ≢ x) (map (λ d. d.1) ds) → HasSub f g pairs → ⊥
sub_equal n t ids f s g apart k same [] ds h differ m = m
sub_equal n t ids f s g apart k same (e ∷ pairs) [] h differ m = h
sub_equal n t ids f s g apart k same (e ∷ pairs) (d ∷ ds) h differ (inl equal) =
    differ.0 (unique n apart k h.0.1.canonical (λ a. same a ∙ equal a ∙ sym (h.0.1.value a)))
sub_equal n t ids f s g apart k same (e ∷ pairs) (d ∷ ds) h differ (inr m) =
    sub_equal n t ids f s g apart k same pairs ds h.1 differ.1 m

-- so no two subs are one function
subs_differ : (n : ℕ) (t : Tree) (ids : Places) (f : File) → IsApart n t → (pairs : List (ℕ × ℕ))
    (ds : List (Diagram × Diagram)) → RepresentPairs t ids f pairs ds → AreDifferent (map (λ d. d.1) ds) →
    HasEqualSubs f pairs → ⊥
subs_differ n t ids f apart [] ds h differ m = m
subs_differ n t ids f apart (e ∷ pairs) [] h differ m = h
subs_differ n t ids f apart (e ∷ pairs) (d ∷ ds) h differ (inl m) =
    sub_equal n t ids f d.1 (value_at f e.1) apart h.0.1.canonical h.0.1.value pairs ds h.1 differ.0 m
subs_differ n t ids f apart (e ∷ pairs) (d ∷ ds) h differ (inr m) =
    subs_differ n t ids f apart pairs ds h.1 differ.1 m

-- ---- a decomposition

-- the diagrams of a node's elements, in the order of the file, and what makes each rule hold of them
record Holds (t : Tree) (ids : Places) (f : File) (vtree : ℕ) (pairs : List (ℕ × ℕ)) : Type 0 where
  left : Tree
  right : Tree
  from : ℕ
  named : inner_named t ids vtree ≡ Some (inner_of left right from)
  diagrams : List (Diagram × Diagram)
  represent : RepresentPairs t ids f pairs diagrams
  primes : AllByRecursion (λ d. IsCanonical left from d.0) diagrams
  subs : AllByRecursion (λ d. IsCanonical right (right_base left from) d.1) diagrams
  inner : AllByRecursion (λ d. is_constant d.0 ≡ false) diagrams
  several : 2 ≤ length diagrams
  one_true : (a : List Bool) → length (answers a diagrams) ≡ 1
  compressed : IsCompressed diagrams
  trimmed : list_all is_constant (subs_of (from_pairs diagrams)) ≡ false

-- a copy of a canonical decomposition has them
decomposition_holds : (t : Tree) (ids : Places) (f : File) (i vtree p : ℕ) (pairs order : List (ℕ × ℕ))
    (es : Elements) → IsFile f → i < length f.nodes → IsCanonical t 0 (Decomposition p es) →
    node_at f i ≡ (vtree, FileDecomposition pairs) → ids vtree ≡ Some p → IsPermutation pairs order →
    AreCopies ids f order es → Holds t ids f vtree pairs
decomposition_holds t ids f i vtree p pairs order es is below k e has perm copies =
    record {
      left = w.left;
      right = w.right;
      from = w.from;
      named = ap (option_and_then (inner_at t 0)) has ∙ ap (inner_at t 0) (sym w.place)
          ∙ part_inner w.left w.right w.from w.part;
      diagrams = c.0;
      represent = pairs_represent t ids f is pairs c.0 c.2 (pairs_nodes f i vtree pairs is below e)
          (moved (λ d. IsCanonical t 0 d.0 × IsCanonical t 0 d.1) (elements_canonical k));
      primes = moved (λ d. IsCanonical w.left w.from d.0) w.primes;
      subs = moved (λ d. IsCanonical w.right (right_base w.left w.from) d.1) w.subs;
      inner = all_from (λ (d : Diagram × Diagram). is_constant d.0 ≡ false) c.0
          (λ d m. no_constant d.0 (at_one d m) (no_top c.0 several possible one_true d m));
      several = several;
      one_true = one_true;
      compressed = IsCompressed_permuted (pairs_of es) c.0 c.1
          (subst (λ x. AreDifferent (subs_of x)) (sym (pairs_back es)) w.partition.compressed);
      trimmed = trimmed_permuted (pairs_of es) c.0 c.1
          (subst (λ x. list_all is_constant (subs_of x) ≡ false) (sym (pairs_back es)) w.partition.trimmed);
    }
  where
    w : HasNode t 0 p es
    w = has_node k

    c : (vs : List (Diagram × Diagram)) × IsPermutation (pairs_of es) vs
        × AllZip (λ e d. IsCopy ids f e.0 d.0 × IsCopy ids f e.1 d.1) pairs vs
    c = first_permuted (λ e d. IsCopy ids f e.0 d.0 × IsCopy ids f e.1 d.1) order (pairs_of es) pairs
        (pairs_copied ids f order es copies) (IsPermutation-sym pairs order perm)

    moved : (P : Diagram × Diagram → Type 0) → ((q s : Diagram) → IsElement q s es → P (q, s)) → AllByRecursion P c.0
    moved P h = all_permuted P (pairs_of es) c.0 c.1 (all_elements P es h)

    several : 2 ≤ length c.0
    several = omega (
      arith,
      w.partition.several,
      length_permutation (pairs_of es) c.0 c.1,
      sym (count_pairs (pairs_of es)) ∙ ap count (pairs_back es),
    )

    possible : AllByRecursion IsPossible c.0
    possible = moved IsPossible w.partition.no_false_prime

    one_true : (a : List Bool) → length (answers a c.0) ≡ 1
    one_true a =
        length_permuted a (pairs_of es) c.0 c.1 ∙ sym (true_primes_pairs a (pairs_of es))
        ∙ ap (λ x. true_primes x a) (pairs_back es) ∙ w.partition.one_prime a

    at_one : (d : Diagram × Diagram) → IsAmong d c.0 → IsPossible d
    at_one d m = all_at IsPossible c.0 d possible m

-- and they break no rule
holds_unbroken : (t : Tree) (ids : Places) (f : File) (vtree : ℕ) (pairs : List (ℕ × ℕ)) → IsVtree t →
    Holds t ids f vtree pairs → (r : Rule) → ElementsBreak t ids f vtree pairs r → ⊥
holds_unbroken t ids f vtree pairs v h Vtree b = absurd (cc (h.named, b))
holds_unbroken t ids f vtree pairs v h Prime b =
    absurd (cc (
      b,
      primes_stand t ids f vtree h.left h.right h.from h.named pairs h.diagrams h.represent h.primes h.inner,
    ))
holds_unbroken t ids f vtree pairs v h Sub b =
    absurd (cc (b, subs_stand t ids f vtree h.left h.right h.from h.named pairs h.diagrams h.represent h.subs))
holds_unbroken t ids f vtree pairs v h Count b =
    absurd (omega (arith, b, h.several, zip_length _ pairs h.diagrams h.represent))
holds_unbroken t ids f vtree pairs v h Overlap b =
    absurd (omega (arith, b.1, h.one_true b.0, count_answers t ids f b.0 pairs h.diagrams h.represent))
holds_unbroken t ids f vtree pairs v h Cover b =
    absurd (omega (arith, b.1, h.one_true b.0, count_answers t ids f b.0 pairs h.diagrams h.represent))
holds_unbroken t ids f vtree pairs v h Subs b =
    subs_differ (leaves t) t ids f (vtree_apart t v) pairs h.diagrams h.represent
    (subst AreDifferent (subs_pairs h.diagrams) h.compressed) b
holds_unbroken t ids f vtree pairs v h Trim b =
    absurd (cc (h.trimmed, constant_subs t ids f pairs h.diagrams h.represent, b))

-- ---- each node

-- a literal at its leaf breaks no rule
pub literal_unbroken : (t : Tree) (ids : Places) (f : File) (vtree p x : ℕ) (s : Bool) (z : ℤ) → ids vtree ≡ Some p →
    leaf_position t 0 x ≡ Some p → unsigned_abs z ≡ x → (r : Rule) →
    NodeBreaks t ids f (vtree, FileLiteral z) r → ⊥
literal_unbroken t ids f vtree p x s z has leaf same Vtree b = b p has (ap (leaf_position t 0) same ∙ leaf)
literal_unbroken t ids f vtree p x s z has leaf same r b = b

-- the variable of a literal
pub variable_of : (x : ℕ) (s : Bool) (z : ℤ) → IsLiteralOf x s z → unsigned_abs z ≡ x
variable_of x s (pos n) h = h.0
variable_of x s (negsuc i) h = h.0

-- a copy of a canonical diagram breaks no rule
pub copy_unbroken : (t : Tree) (ids : Places) (f : File) (i : ℕ) → IsVtree t → IsFile f → i < length f.nodes →
    (d : Diagram) → IsCanonical t 0 d → IsCopy ids f i d → (r : Rule) → IsBroken t ids f i r → ⊥
copy_unbroken t ids f i v is below Bottom k h r b = subst (λ n. NodeBreaks t ids f n r) h.1 b
copy_unbroken t ids f i v is below Top k h r b = subst (λ n. NodeBreaks t ids f n r) h.1 b
copy_unbroken t ids f i v is below (Literal p x s) k h r b =
    literal_unbroken t ids f h.0 p x s h.1 h.3 (literal_position (leaves t) (vtree_apart t v) k)
    (variable_of x s h.1 h.4) r (subst (λ n. NodeBreaks t ids f n r) h.2 b)
copy_unbroken t ids f i v is below (Decomposition p es) k h r b =
    holds_unbroken t ids f h.0 h.1 v
    (decomposition_holds t ids f i h.0 p h.1 h.2 es is below k h.3 h.4 h.5 h.6) r
    (subst (λ n. NodeBreaks t ids f n r) h.3 b)

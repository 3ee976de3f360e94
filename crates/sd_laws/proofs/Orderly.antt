-- Of a table whose codes show canonical diagrams the values are those of compressed and trimmed partitions.
use Rattle.std.proofs.Common.{◌≡◌, ◌≢◌, inl, inr, ℕ, ◌+◌, ◌*◌, ◌≤◌, ◌<◌, Bool, true, false}
use Rattle.std.proofs.Common.{List, [], ◌∷◌, length, Some, slice_get, refl, sym, ◌∙◌, ap, subst, arith}
use Rattle.std.proofs.Common.{length-append}
use Rattle.std.specs.List.{AllByRecursion, list_all}
use Rattle.sd_model.specs.Tree.{Tree, Leaf, Node, leaves, variables, position, right_base}
use Rattle.sd_model.specs.Diagram.{Diagram, Bottom, Top, Literal, Decomposition, Elements, meaning, subs, is_constant}
use Rattle.sd_model.specs.Canonical.{IsCanonical, AreDifferent, canonical_in_left, canonical_in_right}
use Rattle.sd_model.specs.Canonical.{canonical_decomposition}
use Rattle.sd_model.proofs.Blend.{IsApart, depends}
use Rattle.sd_model.proofs.OverVtree.{vtree_apart}
use Rattle.sd_model.proofs.Unique.{unique}
use Rattle.sd_model.proofs.Valued.{IsTrueSomewhere, true_somewhere, false_somewhere, not_bottom, not_top}
use Rattle.sd_vtree.specs.Numbered.{Numbered, NumberedLeaf, NumberedNode, number_of, plain_tree, numbers, subtree}
use Rattle.sd_vtree.specs.Numbered.{IsNumbered}
use Rattle.sd_vtree.proofs.Times.{one_place, times_slice_get}
use Rattle.sd_vtree.proofs.Subtrees.{once_numbered, subtree_some, subtree_number}
use Rattle.sd_laws.specs.Depends.{DependsOn}
use Rattle.sd_laws.specs.Pairs.{from_pairs, answers}
use Rattle.sd_laws.specs.Parts.{IsPart, here, in_left, in_right, IsInner}
use Rattle.sd_laws.specs.Shown.{Lookup, Shows, ShowPairs, ShowsCanonical}
use Rattle.sd_laws.specs.Values.{Valuation, IsSame, pairs_value, chosen, Takes, SubsDiffer, HasInnerSub, IsWhole}
use Rattle.sd_laws.specs.Values.{IsPlaced, ShowsValue}
use Rattle.sd_laws.proofs.Lists.{zip_length}
use Rattle.sd_laws.proofs.Nodes.{place_stored}
use Rattle.sd_laws.proofs.Choosing.{chosen_value}
use Rattle.sd_laws.proofs.Places.{part_apart, part_range, leaves_positive}
use Rattle.sd_laws.proofs.Numbers.{PartAt, part_of_subtree, part_number}
use Rattle.sd_laws.proofs.Codes.{one_diagram, literal_range}
use Rattle.sd_laws.proofs.Expanded.{Stored, stored_partition}

-- a value that is chosen alone
abbrev only_one : List Bool → Bool
only_one [] = false
only_one (b ∷ bs) = b

-- where a subtree stands

-- a subtree's own position is among the tree's
pub part_position : {s t : Tree} {c b : ℕ} → IsPart s c t b → (b ≤ position s c) × (position s c + 1 < b + 2 * leaves t)
part_position {s} {t} {c = c} {b = b} p =
    let r = part_range p in
    let k = own_position s c in
    (omega (arith, r.0, k.0), omega (arith, r.1, k.1))
  where
    own_position : (s : Tree) (c : ℕ) → (c ≤ position s c) × (position s c + 1 < c + 2 * leaves s)
    own_position (Leaf x) c = (omega arith, omega arith)
    own_position (Node l r) c =
        let a = leaves_positive l in
        let b = leaves_positive r in
        (omega (arith, a), omega (arith, a, b, length-append (variables l) (variables r)))

-- two subtrees whose roots stand at one position are one
same_part : {s r t : Tree} {c e b : ℕ} → IsPart s c t b → IsPart r e t b → position s c ≡ position r e →
    (s ≡ r) × (c ≡ e)
same_part here here h = (refl, refl)
same_part here (in_left {l = l} q) h = absurd (omega (arith, h, (part_position q).1, leaves_positive l))
same_part here (in_right {l = l} q) h = absurd (omega (arith, h, (part_position q).0, leaves_positive l))
same_part (in_left {l = l} p) here h = absurd (omega (arith, h, (part_position p).1, leaves_positive l))
same_part (in_right {l = l} p) here h = absurd (omega (arith, h, (part_position p).0, leaves_positive l))
same_part (in_left p) (in_left q) h = same_part p q h
same_part (in_right p) (in_right q) h = same_part p q h
same_part (in_left p) (in_right q) h = absurd (omega (arith, h, (part_position p).1, (part_position q).0))
same_part (in_right p) (in_left q) h = absurd (omega (arith, h, (part_position p).0, (part_position q).1))

-- the node of a canonical decomposition
record OwnNode (t : Tree) (b p : ℕ) : Type 0 where
  pub left : Tree
  pub right : Tree
  pub base : ℕ
  pub part : IsPart (Node left right) base t b
  pub stands : p ≡ position (Node left right) base

-- is a part of the vtree
own_node : (t : Tree) (b p : ℕ) (es : Elements) → IsCanonical t b (Decomposition p es) → OwnNode t b p
own_node (Leaf x) b p es k = elim k [ ]
own_node (Node l r) b p es (canonical_in_left e k) =
    let i : OwnNode l b p = own_node l b p es k in
    record { left = i.left; right = i.right; base = i.base; part = in_left i.part; stands = i.stands }
own_node (Node l r) b p es (canonical_in_right e k) =
    let i : OwnNode r (right_base l b) p = own_node r (right_base l b) p es k in
    record { left = i.left; right = i.right; base = i.base; part = in_right i.part; stands = i.stands }
own_node (Node l r) b p es (canonical_decomposition ps ss partition) =
    record { left = l; right = r; base = b; part = here; stands = refl }

-- the inner node with a number, as a numbered tree
record InnerNode (t : Numbered) (u : ℕ) (l r : Tree) : Type 0 where
  pub left : Numbered
  pub right : Numbered
  pub at : subtree t u ≡ Some (NumberedNode u left right)
  pub left_is : plain_tree left ≡ l
  pub right_is : plain_tree right ≡ r

-- the children of a plain tree
abbrev left_of : Tree → Tree
left_of (Leaf x) = Leaf x
left_of (Node a b) = a

abbrev right_of : Tree → Tree
right_of (Leaf x) = Leaf x
right_of (Node a b) = b

-- an inner node is there with its number
inner_node : (t : Numbered) → IsNumbered t → (u : ℕ) (l r : Tree) (base : ℕ) → IsInner t u l r base → InnerNode t u l r
inner_node t v u l r base i =
    let there = subtree_some t u (times_slice_get (numbers t) (position (Node l r) base) u i.number) in
    let s = there.0 in
    let h : PartAt t u s 0 = part_of_subtree t u s 0 there.1 in
    let number : number_of s ≡ u = subtree_number t u s there.1 in
    let at : slice_get (numbers t) (position (plain_tree s) (0 + h.skip)) ≡ Some u = part_number t u s h
    ∙ ap Some number in
    let e = same_part h.part i.part
    (one_place (numbers t) u (position (plain_tree s) (0 + h.skip)) (position (Node l r) base) (once_numbered t v u) at
    i.number) in
    go s there.1 number e.0
  where
    go : (s : Numbered) → subtree t u ≡ Some s → number_of s ≡ u → plain_tree s ≡ Node l r → InnerNode t u l r
    go (NumberedLeaf m x) f n e = absurd (cc)
    go (NumberedNode m a b) f n e =
        record {
          left = a;
          right = b;
          at = f ∙ ap (λ k. Some (NumberedNode k a b)) n;
          left_is = ap left_of e;
          right_is = ap right_of e;
        }

-- lists

-- each code of a list shows its value
abbrev ShowValues : Numbered → Lookup → Valuation → List (ℕ × ℕ) → Type 0
ShowValues t at v l = AllByRecursion (λ (e : ℕ × ℕ). ShowsValue t at v e.0 × ShowsValue t at v e.1) l

-- what a code shows has its value
value_shown : (t : Numbered) → IsNumbered t → (at : Lookup) (v : Valuation) (c : ℕ) (d : Diagram) →
    ShowsValue t at v c → Shows t at c d → IsSame (meaning d) (v c)
value_shown t n at v c d h k a =
    ap (λ z. meaning z a) (one_diagram t at n d c h.diagram k h.is.shows) ∙ h.value a

-- what the diagrams choose the values choose
chosen_answers : (t : Numbered) → IsNumbered t → (at : Lookup) (v : Valuation) (l : List (ℕ × ℕ))
    (ds : List (Diagram × Diagram)) → ShowPairs t at l ds → ShowValues t at v l → (a : List Bool) →
    chosen v l a ≡ answers a ds
chosen_answers t n at v [] [] h k a = refl
chosen_answers t n at v [] (d ∷ ds) h k a = absurd h
chosen_answers t n at v (e ∷ l) [] h k a = absurd h
chosen_answers t n at v (e ∷ l) (d ∷ ds) h k a =
    rw (
      sym (value_shown t n at v e.0 d.0 k.0.0 h.0.0 a),
      sym (value_shown t n at v e.1 d.1 k.0.1 h.0.1 a),
      chosen_answers t n at v l ds h.1 k.1 a,
    ) refl

-- the primes look at the left child and take the value true, and the subs look at the right child
record Sides (v : Valuation) (left right : Tree) (l : List (ℕ × ℕ)) : Type 0 where
  pub primes : AllByRecursion (λ (e : ℕ × ℕ). DependsOn left (v e.0)) l
  pub subs : AllByRecursion (λ (e : ℕ × ℕ). DependsOn right (v e.1)) l
  pub possible : AllByRecursion (λ (e : ℕ × ℕ). Takes v e.0 true) l

-- what looks where a diagram does
depends_shown : (s : Tree) (b : ℕ) (d : Diagram) (f : List Bool → Bool) → IsCanonical s b d → IsSame (meaning d) f →
    DependsOn s f
depends_shown s b d f k same x y agree = sym (same x) ∙ depends k x y agree ∙ same y

-- so it is with the pairs of a partition
sides : (m : ℕ) (t : Numbered) → IsNumbered t → (at : Lookup) (v : Valuation) (left right : Tree) (base : ℕ) →
    IsApart m left → (l : List (ℕ × ℕ)) (ds : List (Diagram × Diagram)) → ShowPairs t at l ds → ShowValues t at v l →
    AllByRecursion (λ (d : Diagram × Diagram). IsCanonical left base d.0) ds →
    AllByRecursion (λ (d : Diagram × Diagram). IsCanonical right (right_base left base) d.1) ds →
    AllByRecursion (λ (d : Diagram × Diagram). d.0 ≢ Bottom) ds → Sides v left right l
sides m t n at v left right base apart [] [] h k ps ss can = record { primes = tt; subs = tt; possible = tt }
sides m t n at v left right base apart [] (d ∷ ds) h k ps ss can = absurd h
sides m t n at v left right base apart (e ∷ l) [] h k ps ss can = absurd h
sides m t n at v left right base apart (e ∷ l) (d ∷ ds) h k ps ss can =
    let i : Sides v left right l = sides m t n at v left right base apart l ds h.1 k.1 ps.1 ss.1 can.1 in
    let p : IsSame (meaning d.0) (v e.0) = value_shown t n at v e.0 d.0 k.0.0 h.0.0 in
    let s : IsSame (meaning d.1) (v e.1) = value_shown t n at v e.1 d.1 k.0.1 h.0.1 in
    let w : IsTrueSomewhere d.0 true = true_somewhere m apart ps.0 can.0 in
    record {
      primes = (depends_shown left base d.0 (v e.0) ps.0 p, i.primes);
      subs = (depends_shown right (right_base left base) d.1 (v e.1) ss.0 s, i.subs);
      possible = ((w.assignment, sym (p w.assignment) ∙ w.value), i.possible);
    }

-- different subs are different functions
subs_differ : (m : ℕ) (t : Numbered) → IsNumbered t → (at : Lookup) (v : Valuation) (right : Tree) (base : ℕ) →
    IsApart m right → (l : List (ℕ × ℕ)) (ds : List (Diagram × Diagram)) → ShowPairs t at l ds → ShowValues t at v l →
    AllByRecursion (λ (d : Diagram × Diagram). IsCanonical right base d.1) ds → AreDifferent (subs (from_pairs ds)) →
    SubsDiffer v l
subs_differ m t n at v right base apart [] [] h k ss differ = tt
subs_differ m t n at v right base apart [] (d ∷ ds) h k ss differ = absurd h
subs_differ m t n at v right base apart (e ∷ l) [] h k ss differ = absurd h
subs_differ m t n at v right base apart (e ∷ l) (d ∷ ds) h k ss differ =
    (each l ds h.1 k.1 ss.1 differ.0, subs_differ m t n at v right base apart l ds h.1 k.1 ss.1 differ.1)
  where
    each : (l : List (ℕ × ℕ)) (ds : List (Diagram × Diagram)) → ShowPairs t at l ds → ShowValues t at v l →
        AllByRecursion (λ (g : Diagram × Diagram). IsCanonical right base g.1) ds →
        AllByRecursion (λ g. d.1 ≢ g) (subs (from_pairs ds)) →
        AllByRecursion (λ (f : ℕ × ℕ). ¬ IsSame (v e.1) (v f.1)) l
    each [] [] h' k' ss' ne = tt
    each [] (g ∷ gs) h' k' ss' ne = absurd h'
    each (f ∷ fs) [] h' k' ss' ne = absurd h'
    each (f ∷ fs) (g ∷ gs) h' k' ss' ne = (
      λ same. ne.0 (unique m apart ss.0 ss'.0
          (λ a. value_shown t n at v e.1 d.1 k.0.1 h.0.1 a ∙ same a
          ∙ sym (value_shown t n at v f.1 g.1 k'.0.1 h'.0.1 a))),
      each fs gs h'.1 k'.1 ss'.1 ne.1,
    )

-- a sub that is no constant takes both values
inner_sub : (m : ℕ) (t : Numbered) → IsNumbered t → (at : Lookup) (v : Valuation) (right : Tree) (base : ℕ) →
    IsApart m right → (l : List (ℕ × ℕ)) (ds : List (Diagram × Diagram)) → ShowPairs t at l ds → ShowValues t at v l →
    AllByRecursion (λ (d : Diagram × Diagram). IsCanonical right base d.1) ds →
    list_all is_constant (subs (from_pairs ds)) ≡ false → HasInnerSub v l
inner_sub m t n at v right base apart [] [] h k ss e = absurd (cc)
inner_sub m t n at v right base apart [] (d ∷ ds) h k ss e = absurd h
inner_sub m t n at v right base apart (x ∷ l) [] h k ss e = absurd h
inner_sub m t n at v right base apart (x ∷ l) (d ∷ ds) h k ss e =
    go (inner_sub m t n at v right base apart l ds h.1 k.1 ss.1) (is_constant d.1) refl
  where
    go : (list_all is_constant (subs (from_pairs ds)) ≡ false → HasInnerSub v l) → (b : Bool) → is_constant d.1 ≡ b →
        HasInnerSub v (x ∷ l)
    go more true f =
        let g : list_all is_constant (subs (from_pairs ds)) ≡ false = rw f at e in
        inr (more g)
    go more false f =
        let s : IsSame (meaning d.1) (v x.1) = value_shown t n at v x.1 d.1 k.0.1 h.0.1 in
        let yes : IsTrueSomewhere d.1 true = true_somewhere m apart ss.0 (not_bottom d.1 f) in
        let no : IsTrueSomewhere d.1 false = false_somewhere m apart ss.0 (not_top d.1 f) in
        inl (
          (yes.assignment, sym (s yes.assignment) ∙ yes.value),
          (no.assignment, sym (s no.assignment) ∙ no.value),
        )

-- nodes

-- what a node's list is by values
pub record IsOrderly (t : Numbered) (v : Valuation) (n u : ℕ) (l : List (ℕ × ℕ)) : Type 0 where
  pub value : IsSame (v (2050 + n)) (pairs_value v l)
  pub whole : IsWhole v l
  pub placed : IsPlaced t v u l

-- A node's list has the values of a compressed and trimmed partition of its place. What it shows is a decomposition at
-- its own place, and each field is that one's, carried from the shown diagrams to the values of their codes; unequal
-- subs and subs that are no constants differ by values, since canonical diagrams are unique.
pub node_orderly : (t : Numbered) → IsNumbered t → (at : Lookup) (v : Valuation) (n u : ℕ) (l : List (ℕ × ℕ)) →
    at n ≡ Some (u, l) → ShowsValue t at v (2050 + n) → ShowValues t at v l → IsOrderly t v n u l
node_orderly t num at v n u l stored h k = go h.diagram h.is h.value
  where
    decomposition : (p : ℕ) (es : Elements) → ShowsCanonical t at (2050 + n) (Decomposition p es) →
        IsSame (meaning (Decomposition p es)) (v (2050 + n)) → IsOrderly t v n u l
    decomposition p es is same =
        let m = leaves (plain_tree t) in
        let whole_apart : IsApart m (plain_tree t) = vtree_apart (plain_tree t) num.vtree in
        let o : OwnNode (plain_tree t) 0 p = own_node (plain_tree t) 0 p es is.canonical in
        let place : slice_get (numbers t) p ≡ Some u =
        place_stored t at (2050 + n) p es is.shows n u l refl stored in
        let inner : IsInner t u o.left o.right o.base =
        record { part = o.part; number = ap (slice_get (numbers t)) (sym o.stands) ∙ place } in
        let i : InnerNode t u o.left o.right = inner_node t num u o.left o.right o.base inner in
        let s : Stored t at u l o.left o.right o.base (Decomposition p es) =
        stored_partition t at num (2050 + n) p es is n u l refl stored o.left o.right o.base inner in
        let apart : IsApart m (Node o.left o.right) = part_apart m o.part whole_apart in
        let both : Sides v o.left o.right l =
        sides m t num at v o.left o.right o.base apart.1 l s.pairs s.shown k s.partition.elements.primes
        s.partition.elements.subs
        s.partition.elements.possible in
        let one : (a : List Bool) → length (chosen v l a) ≡ 1 =
        λ a. ap length (chosen_answers t num at v l s.pairs s.shown k a) ∙ s.partition.one_true a in
        let R : ℕ × ℕ → Diagram × Diagram → Type 0 = λ e d. Shows t at e.0 d.0 × Shows t at e.1 d.1 in
        record {
          value = λ a.
              let x : pairs_value v l a ∷ [] ≡ meaning (Decomposition p es) a ∷ [] =
              sym (chosen_value v l a (one a)) ∙ chosen_answers t num at v l s.pairs s.shown k a ∙ s.value a in
              sym (ap only_one x ∙ same a);
          whole = record {
            several = omega (arith, s.several, zip_length R l s.pairs s.shown);
            one_true = one;
            possible = both.possible;
            differ = subs_differ m t num at v o.right (right_base o.left o.base) apart.2 l s.pairs s.shown k
                s.partition.elements.subs s.compressed;
            inner = inner_sub m t num at v o.right (right_base o.left o.base) apart.2 l s.pairs s.shown k
                s.partition.elements.subs s.trimmed;
          };
          placed = record {
            left = i.left;
            right = i.right;
            at = i.at;
            primes = subst (λ x. AllByRecursion (λ (e : ℕ × ℕ). DependsOn x (v e.0)) l) (sym i.left_is) both.primes;
            subs = subst (λ x. AllByRecursion (λ (e : ℕ × ℕ). DependsOn x (v e.1)) l) (sym i.right_is) both.subs;
          };
        }

    go : (d : Diagram) → ShowsCanonical t at (2050 + n) d → IsSame (meaning d) (v (2050 + n)) → IsOrderly t v n u l
    go Bottom is same = absurd (omega (arith, is.shows))
    go Top is same = absurd (omega (arith, is.shows))
    go (Literal p x s) is same = absurd (omega (arith, (literal_range t at num (2050 + n) p x s is.shows).2))
    go (Decomposition p es) is same = decomposition p es is same

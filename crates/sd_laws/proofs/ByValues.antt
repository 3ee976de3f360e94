-- A table whose nodes are compressed and trimmed partitions by their values shows canonical diagrams.
use Rattle.std.proofs.Common.{◌≡◌, ◌≢◌, ◌⊎◌, inl, inr, ℕ, ◌+◌, ◌*◌, ◌/◌, ◌%◌, ◌≤◌, ◌<◌, Bool, true, false}
use Rattle.std.proofs.Common.{◌&&◌, List, [], ◌∷◌, map, length, Option, Some, None, refl, sym, ◌∙◌, ap, subst, arith}
use Rattle.std.proofs.Common.{◌==◌, ne_eqb}
use Rattle.std.specs.List.{AllByRecursion, AllZip}
use Rattle.std.specs.Option.{IsSome}
use Rattle.std.proofs.lemmas.Bool.{cases_lt}
use Rattle.sd_model.specs.Tree.{Tree, Leaf, Node, leaves, right_base, AreDistinct}
use Rattle.sd_model.specs.Diagram.{Diagram, Bottom, Top, Literal, meaning}
use Rattle.sd_model.specs.Canonical.{IsCanonical, canonical_bottom, canonical_top}
use Rattle.sd_model.proofs.Blend.{IsApart}
use Rattle.sd_model.proofs.OverVtree.{vtree_apart}
use Rattle.sd_vtree.specs.Numbered.{Numbered, NumberedNode, plain_tree, IsNumbered}
use Rattle.sd_laws.specs.Depends.{DependsOn}
use Rattle.sd_laws.specs.Pairs.{answers, AreElements, HasValue}
use Rattle.sd_laws.specs.Parts.{IsPart, here, in_left, in_right}
use Rattle.sd_laws.specs.Shown.{Lookup, literal_code, ShowPairs, AreKeys, ShowsCanonical, IsPartitionAt}
use Rattle.sd_laws.specs.Trimming.{trim_of}
use Rattle.sd_laws.specs.Values.{Valuation, IsSame, pairs_value, chosen, Takes, SubsDiffer, HasInnerSub, IsWhole}
use Rattle.sd_laws.specs.Values.{IsPlaced, GivesLiterals, IsCodeOf, AreOrderly, ShowsValue}
use Rattle.sd_laws.proofs.Places.{narrowed, part_apart, part_trans}
use Rattle.sd_laws.proofs.Numbers.{PartAt, part_of_subtree, inner_at, leaf_of_vtree}
use Rattle.sd_laws.proofs.Leaves.{literal_node}
use Rattle.sd_laws.proofs.Nodes.{new_node}
use Rattle.sd_laws.proofs.Choosing.{chosen_value, two_sided, depends_both, depends_same}
use Rattle.sd_laws.proofs.Meeting.{Meeting, Within, Over, Beside, meeting, constant_beside, depends_above, below_node}
use Rattle.sd_laws.proofs.Meeting.{no_node_below_leaf}

-- constants and literals

-- a code of a literal is that of its variable
halves : (c : ℕ) → ((s : Bool) × (c ≡ literal_code (c / 2) s))
halves c = elim (cases_lt (c % 2) 1) [
  | inl h ↦ (true, (let e : c ≡ 2 * (c / 2) = omega arith in e))
  | inr h ↦ (false, (let e : c ≡ 2 * (c / 2) + 1 = omega arith in e))
]

-- a constant shows its value
constant_shown : (t : Numbered) (at : Lookup) (v : Valuation) → GivesLiterals v → (c : ℕ) → c < 2 →
    ShowsValue t at v c
constant_shown t at v g c lt = elim (cases_lt c 1) [
  | inl h ↦
      let e : c ≡ 0 = omega (arith, h) in
      record {
        diagram = Bottom;
        is = record { shows = e; canonical = canonical_bottom };
        value = λ a. sym (g.bottom a) ∙ ap (λ k. v k a) (sym e);
      }
  | inr h ↦
      let e : c ≡ 1 = omega (arith, h, lt) in
      record {
        diagram = Top;
        is = record { shows = e; canonical = canonical_top };
        value = λ a. sym (g.top a) ∙ ap (λ k. v k a) (sym e);
      }
]

-- and so does a literal
literal_shown : (t : Numbered) → IsNumbered t → (at : Lookup) (v : Valuation) → GivesLiterals v → (c : ℕ) → 2 ≤ c →
    c < 2 * leaves (plain_tree t) + 2 → ShowsValue t at v c
literal_shown t n at v g c low high =
    let within_limit = n.within_limit in
    let h = halves c in
    let p = leaf_of_vtree (plain_tree t) n.vtree (c / 2) (omega arith) (omega arith) in
    let k : ShowsCanonical t at (literal_code (c / 2) h.0) (Literal p.0 (c / 2) h.0) =
    literal_node t at (c / 2) p.0 h.0 p.1 in
    record {
      diagram = Literal p.0 (c / 2) h.0;
      is = subst (λ d. ShowsCanonical t at d (Literal p.0 (c / 2) h.0)) (sym h.1) k;
      value = λ a. sym (g.literal p.0 (c / 2) h.0 (omega arith) (omega arith) a) ∙ ap (λ d. v d a) (sym h.1);
    }

-- lists of pairs

-- a pair of codes shows two diagrams with the values of the codes
record ShowsBoth (t : Numbered) (at : Lookup) (v : Valuation) (e : ℕ × ℕ) (d : Diagram × Diagram) : Type 0 where
  pub prime : ShowsCanonical t at e.0 d.0
  pub sub : ShowsCanonical t at e.1 d.1
  pub prime_value : IsSame (meaning d.0) (v e.0)
  pub sub_value : IsSame (meaning d.1) (v e.1)

-- a list of pairs shows such diagrams
record ShowsList (t : Numbered) (at : Lookup) (v : Valuation) (l : List (ℕ × ℕ)) : Type 0 where
  pub diagrams : List (Diagram × Diagram)
  pub each : AllZip (ShowsBoth t at v) l diagrams

-- where each code of a list shows its value
list_shown : (t : Numbered) (at : Lookup) (v : Valuation) (l : List (ℕ × ℕ)) →
    AllByRecursion (λ (e : ℕ × ℕ). ShowsValue t at v e.0 × ShowsValue t at v e.1) l → ShowsList t at v l
list_shown t at v [] h = record { diagrams = []; each = tt }
list_shown t at v (e ∷ l) h =
    let k : ShowsList t at v l = list_shown t at v l h.1 in
    let p : ShowsValue t at v e.0 = h.0.0 in
    let s : ShowsValue t at v e.1 = h.0.1 in
    record {
      diagrams = (p.diagram, s.diagram) ∷ k.diagrams;
      each = (
        record { prime = p.is; sub = s.is; prime_value = p.value; sub_value = s.value },
        k.each,
      );
    }

-- the diagrams are shown
pairs_shown : (t : Numbered) (at : Lookup) (v : Valuation) (l : List (ℕ × ℕ)) (ds : List (Diagram × Diagram)) →
    AllZip (ShowsBoth t at v) l ds → ShowPairs t at l ds
pairs_shown t at v [] [] h = tt
pairs_shown t at v [] (d ∷ ds) h = h
pairs_shown t at v (e ∷ l) [] h = h
pairs_shown t at v (e ∷ l) (d ∷ ds) h = ((h.0.prime.shows, h.0.sub.shows), pairs_shown t at v l ds h.1)

-- and choose what the codes choose
answers_chosen : (t : Numbered) (at : Lookup) (v : Valuation) (l : List (ℕ × ℕ)) (ds : List (Diagram × Diagram)) →
    AllZip (ShowsBoth t at v) l ds → (a : List Bool) → answers a ds ≡ chosen v l a
answers_chosen t at v [] [] h a = refl
answers_chosen t at v [] (d ∷ ds) h a = absurd h
answers_chosen t at v (e ∷ l) [] h a = absurd h
answers_chosen t at v (e ∷ l) (d ∷ ds) h a =
    rw (h.0.prime_value a, h.0.sub_value a, answers_chosen t at v l ds h.1 a) refl

-- the primes are canonical for the left child, the subs for the right one, and no prime is false
elements_below : (n : ℕ) (t : Numbered) (at : Lookup) (v : Valuation) (left right : Tree) (base : ℕ) →
    IsPart (Node left right) base (plain_tree t) 0 → IsApart n (plain_tree t) → (l : List (ℕ × ℕ))
    (ds : List (Diagram × Diagram)) → AllZip (ShowsBoth t at v) l ds →
    AllByRecursion (λ (e : ℕ × ℕ). DependsOn left (v e.0)) l →
    AllByRecursion (λ (e : ℕ × ℕ). DependsOn right (v e.1)) l →
    AllByRecursion (λ (e : ℕ × ℕ). Takes v e.0 true) l → AreElements left right base ds
elements_below n t at v left right base part apart [] [] h ps ss can = record { primes = tt; subs = tt; possible = tt }
elements_below n t at v left right base part apart [] (d ∷ ds) h ps ss can = absurd h
elements_below n t at v left right base part apart (e ∷ l) [] h ps ss can = absurd h
elements_below n t at v left right base part apart (e ∷ l) (d ∷ ds) h ps ss can =
    let k : AreElements left right base ds =
    elements_below n t at v left right base part apart l ds h.1 ps.1 ss.1 can.1 in
    let p : IsCanonical left base d.0 =
    narrowed n (part_trans (in_left here) part) apart h.0.prime.canonical
    (depends_same left (meaning d.0) (v e.0) h.0.prime_value ps.0) in
    let s : IsCanonical right (right_base left base) d.1 =
    narrowed n (part_trans (in_right here) part) apart h.0.sub.canonical
    (depends_same right (meaning d.1) (v e.1) h.0.sub_value ss.0) in
    record {
      primes = (p, k.primes);
      subs = (s, k.subs);
      possible = (
        λ z.
            let no : meaning d.0 can.0.0 ≡ false = ap (λ x. meaning x can.0.0) z in
            let yes : meaning d.0 can.0.0 ≡ true = h.0.prime_value can.0.0 ∙ can.0.1 in
            cc (no, yes),
        k.possible,
      );
    }

-- what the codes of the subs are

-- subs that are no one function have different codes
codes_differ : (v : Valuation) (l : List (ℕ × ℕ)) → SubsDiffer v l → AreDistinct (map (λ e. e.1) l)
codes_differ v [] h = tt
codes_differ v (e ∷ l) h = (each l h.0, codes_differ v l h.1)
  where
    each : (l : List (ℕ × ℕ)) → AllByRecursion (λ (f : ℕ × ℕ). ¬ IsSame (v e.1) (v f.1)) l →
        AllByRecursion (λ y. e.1 ≢ y) (map (λ (f : ℕ × ℕ). f.1) l)
    each [] k = tt
    each (f ∷ l) k = ((λ z. k.0 (λ a. ap (λ c. v c a) z)), each l k.1)

-- a code that takes both values is none of a constant
not_constant : (v : Valuation) → GivesLiterals v → (c : ℕ) → Takes v c true → Takes v c false → (c ≢ 0) × (c ≢ 1)
not_constant v g c x y = (
  λ e. let k : v c x.0 ≡ false = ap (λ d. v d x.0) e ∙ g.bottom x.0 in cc (k, x.1),
  λ e. let k : v c y.0 ≡ true = ap (λ d. v d y.0) e ∙ g.top y.0 in cc (k, y.1),
)

-- what is and-ed with false
and_false : (b : Bool) → (b && false) ≡ false
and_false true = refl
and_false false = refl

-- such a list is not trimmed
pub whole_untrimmed : (v : Valuation) → GivesLiterals v → (l : List (ℕ × ℕ)) → IsWhole v l → trim_of l ≡ None
whole_untrimmed v g [] w = refl
whole_untrimmed v g (e ∷ []) w = absurd (omega (arith, w.several))
whole_untrimmed v g (e ∷ f ∷ []) w = go w.inner
  where
    go : HasInnerSub v (e ∷ f ∷ []) → trim_of (e ∷ f ∷ []) ≡ None
    go (inl h) =
        let k = not_constant v g e.1 h.0 h.1 in
        rw (ne_eqb e.1 1 k.1, ne_eqb e.1 0 k.0) refl
    go (inr (inl h)) =
        let k = not_constant v g f.1 h.0 h.1 in
        rw (ne_eqb f.1 0 k.0, ne_eqb f.1 1 k.1, and_false (e.1 == 1), and_false (e.1 == 0)) refl
    go (inr (inr h)) = absurd h
whole_untrimmed v g (e ∷ f ∷ k ∷ l) w = refl

-- one node

-- the first of a list of one
abbrev the_one : List Bool → Bool
the_one [] = false
the_one (b ∷ bs) = b

-- what a list of pairs is at its place, by the diagrams that its codes show
pub record FitsBy (t : Numbered) (at : Lookup) (v : Valuation) (u : ℕ) (l : List (ℕ × ℕ)) : Type 0 where
  pub diagrams : List (Diagram × Diagram)
  pub partition : IsPartitionAt t at u l diagrams
  pub differ : AreDistinct (map (λ e. e.1) l)
  pub untrimmed : trim_of l ≡ None
  pub value : HasValue diagrams (pairs_value v l)

-- A list whose values make a compressed and trimmed partition of a place is one, where its codes show their values: so
-- it may be linked there.
pub fits_by_values : (t : Numbered) → IsNumbered t → (at : Lookup) (v : Valuation) → GivesLiterals v → (u : ℕ)
    (l : List (ℕ × ℕ)) → IsWhole v l → IsPlaced t v u l →
    AllByRecursion (λ (e : ℕ × ℕ). ShowsValue t at v e.0 × ShowsValue t at v e.1) l → FitsBy t at v u l
fits_by_values t num at v g u l w p h =
    let size = leaves (plain_tree t) in
    let apart : IsApart size (plain_tree t) = vtree_apart (plain_tree t) num.vtree in
    let i = inner_at t u u p.left p.right p.at refl in
    let s : ShowsList t at v l = list_shown t at v l h in
    record {
      diagrams = s.diagrams;
      partition = record {
        left = plain_tree p.left;
        right = plain_tree p.right;
        base = i.0;
        inner = i.1;
        shown = pairs_shown t at v l s.diagrams s.each;
        partition = record {
          elements = elements_below size t at v (plain_tree p.left) (plain_tree p.right) i.0 i.1.part apart l
              s.diagrams s.each
              p.primes p.subs w.possible;
          one_true = λ a. ap length (answers_chosen t at v l s.diagrams s.each a) ∙ w.one_true a;
        };
      };
      differ = codes_differ v l w.differ;
      untrimmed = whole_untrimmed v g l w;
      value = λ a. answers_chosen t at v l s.diagrams s.each a ∙ chosen_value v l a (w.one_true a);
    }

-- a node with such a list shows its own value
pub node_by_values : (t : Numbered) → IsNumbered t → (at : Lookup) → AreKeys at → (v : Valuation) → GivesLiterals v →
    (n u : ℕ) (l : List (ℕ × ℕ)) → at n ≡ Some (u, l) → IsWhole v l → IsPlaced t v u l →
    IsSame (v (2050 + n)) (pairs_value v l) →
    AllByRecursion (λ (e : ℕ × ℕ). ShowsValue t at v e.0 × ShowsValue t at v e.1) l → ShowsValue t at v (2050 + n)
node_by_values t num at keys v g n u l stored w p same h =
    let f : FitsBy t at v u l = fits_by_values t num at v g u l w p h in
    let z = new_node t at at num keys u n l f.diagrams f.partition f.differ f.untrimmed (λ k key e. e) stored in
    record {
      diagram = z.0;
      is = z.1;
      value = λ a.
          let x : meaning z.0 a ∷ [] ≡ pairs_value v l a ∷ [] = sym (z.2 a) ∙ f.value a in
          ap the_one x ∙ sym (same a);
    }

-- all nodes

-- the children of a tree
abbrev left_of : Tree → Tree
left_of (Leaf x) = Leaf x
left_of (Node a b) = a

abbrev right_of : Tree → Tree
right_of (Leaf x) = Leaf x
right_of (Node a b) = b

-- what is to be shown of a code whose value looks at the variables of a subtree
abbrev ShowsBelow : Numbered → Lookup → (ℕ → Type 0) → Valuation → Tree → Type 0
ShowsBelow t at P v s = (c : ℕ) → IsCodeOf t at P c → DependsOn s (v c) → ShowsValue t at v c

-- the key of a node that is there
key_of : (o : Option (ℕ × List (ℕ × ℕ))) → IsSome o → (u : ℕ) × (l : List (ℕ × ℕ)) × (o ≡ Some (u, l))
key_of None h = absurd (cc (h))
key_of (Some k) h = (k.0, k.1, refl)

-- codes that look at one of two children show their values where each child's do
codes_shown : (t : Numbered) (at : Lookup) (P : ℕ → Type 0) (v : Valuation) (left right : Tree) →
    ShowsBelow t at P v left → ShowsBelow t at P v right → (l : List (ℕ × ℕ)) →
    AllByRecursion (λ (e : ℕ × ℕ). IsCodeOf t at P e.0 × IsCodeOf t at P e.1) l →
    AllByRecursion (λ (e : ℕ × ℕ). DependsOn left (v e.0)) l →
    AllByRecursion (λ (e : ℕ × ℕ). DependsOn right (v e.1)) l →
    AllByRecursion (λ (e : ℕ × ℕ). ShowsValue t at v e.0 × ShowsValue t at v e.1) l
codes_shown t at P v left right fl fr [] cs ps ss = tt
codes_shown t at P v left right fl fr (e ∷ l) cs ps ss =
    ((fl e.0 cs.0.0 ps.0, fr e.1 cs.0.1 ss.0), codes_shown t at P v left right fl fr l cs.1 ps.1 ss.1)

-- a constant or a literal shows its value
pub base_shown : (t : Numbered) → IsNumbered t → (at : Lookup) (v : Valuation) → GivesLiterals v → (c : ℕ) →
    c < 2 * leaves (plain_tree t) + 2 → ShowsValue t at v c
base_shown t n at v g c lt = elim (cases_lt c 2) [
  | inl h ↦ constant_shown t at v g c h
  | inr h ↦ literal_shown t n at v g c h lt
]

-- A node whose value looks at a subtree stands in it. Beside the subtree the value would be constant; strictly above
-- it the subtree lies below one child, and the value looks at both (`two_sided`).
pub stands_in : (n : ℕ) (t left right s : Tree) (base c : ℕ) (v : Valuation) (l : List (ℕ × ℕ)) → IsApart n t →
    IsPart (Node left right) base t 0 → IsPart s c t 0 →
    AllByRecursion (λ (e : ℕ × ℕ). DependsOn left (v e.0)) l →
    AllByRecursion (λ (e : ℕ × ℕ). DependsOn right (v e.1)) l → IsWhole v l → DependsOn s (pairs_value v l) →
    IsPart (Node left right) base s c
stands_in n t left right s base c v l apart p q ps ss w h = go (meeting n p q apart)
  where
    own : IsApart n (Node left right)
    own = part_apart n p apart

    constant : ((a b : List Bool) → pairs_value v l a ≡ pairs_value v l b) → ⊥
    constant k = (two_sided n left right v l own ps ss w).not_left (λ a b agree. k a b)

    deeper : ((s ≡ Node left right) × (c ≡ base)) ⊎ (IsPart s c left base ⊎ IsPart s c right (right_base left base)) →
        IsPart (Node left right) base s c
    deeper (inl e) =
        subst (λ x. IsPart (Node left right) base x c) (sym e.0)
        (subst (λ x. IsPart (Node left right) base (Node left right) x) (sym e.1) here)
    deeper (inr (inl k)) =
        absurd ((two_sided n left right v l own ps ss w).not_left (depends_above k (pairs_value v l) h))
    deeper (inr (inr k)) =
        absurd ((two_sided n left right v l own ps ss w).not_right (depends_above k (pairs_value v l) h))

    go : Meeting n (Node left right) base s c → IsPart (Node left right) base s c
    go (Within k) = k
    go (Over k) = deeper (below_node k)
    go (Beside k) =
        absurd (constant
        (constant_beside n (Node left right) s (pairs_value v l) k (depends_both left right v l ps ss) h))

-- The diagrams of a table, from the leaves of the vtree upwards: a node whose value looks at a subtree stands in it,
-- and its primes and subs look at the children.
below : (t : Numbered) → IsNumbered t → (at : Lookup) (P : ℕ → Type 0) (v : Valuation) → AreKeys at →
    AreOrderly t at P v → (s : Tree) (c : ℕ) → IsPart s c (plain_tree t) 0 → ShowsBelow t at P v s
below t n at P v keys o (Leaf x) b q c (inl lt) h = base_shown t n at v o.literals c lt
below t n at P v keys o (Leaf x) b q c (inr w) h =
    let k = key_of (at w.0) w.3 in
    let p : IsPlaced t v k.0 k.1 = o.placed w.0 k.0 k.1 w.2 k.2 in
    let i : PartAt t k.0 (NumberedNode k.0 p.left p.right) 0 =
    part_of_subtree t k.0 (NumberedNode k.0 p.left p.right) 0 p.at in
    let same : IsSame (pairs_value v k.1) (v c) =
    λ a. sym (o.value w.0 k.0 k.1 w.2 k.2 a) ∙ ap (λ d. v d a) (sym w.1) in
    absurd (no_node_below_leaf
    (stands_in (leaves (plain_tree t)) (plain_tree t) (plain_tree p.left) (plain_tree p.right) (Leaf x) (0 + i.skip) b
    v k.1
    (vtree_apart (plain_tree t) n.vtree) i.part q p.primes p.subs (o.whole w.0 k.0 k.1 w.2 k.2)
    (depends_same (Leaf x) (pairs_value v k.1) (v c) same h)))
below t n at P v keys o (Node l r) b q c (inl lt) h = base_shown t n at v o.literals c lt
below t n at P v keys o (Node l r) b q c (inr w) h =
    let k = key_of (at w.0) w.3 in
    let p : IsPlaced t v k.0 k.1 = o.placed w.0 k.0 k.1 w.2 k.2 in
    let i : PartAt t k.0 (NumberedNode k.0 p.left p.right) 0 =
    part_of_subtree t k.0 (NumberedNode k.0 p.left p.right) 0 p.at in
    let same : IsSame (pairs_value v k.1) (v c) =
    λ a. sym (o.value w.0 k.0 k.1 w.2 k.2 a) ∙ ap (λ d. v d a) (sym w.1) in
    let whole : IsWhole v k.1 = o.whole w.0 k.0 k.1 w.2 k.2 in
    let fl : ShowsBelow t at P v l = below t n at P v keys o l b (part_trans (in_left here) q) in
    let fr : ShowsBelow t at P v r = below t n at P v keys o r (right_base l b) (part_trans (in_right here) q) in
    stands_at t n at P v keys o l r b fl fr w.0 k.0 k.1 w.2 k.2 c w.1 p (0 + i.skip)
    (stands_in (leaves (plain_tree t)) (plain_tree t) (plain_tree p.left) (plain_tree p.right) (Node l r) (0 + i.skip)
    b v k.1
    (vtree_apart (plain_tree t) n.vtree) i.part q p.primes p.subs whole
    (depends_same (Node l r) (pairs_value v k.1) (v c) same h)) same
  where
    stands_at : (t : Numbered) → IsNumbered t → (at : Lookup) (P : ℕ → Type 0) (v : Valuation) → AreKeys at →
        AreOrderly t at P v → (l r : Tree) (b : ℕ) → ShowsBelow t at P v l → ShowsBelow t at P v r → (m u : ℕ)
        (list : List (ℕ × ℕ)) → P m → at m ≡ Some (u, list) → (c : ℕ) → c ≡ 2050 + m → (p : IsPlaced t v u list)
        (base : ℕ) → IsPart (Node (plain_tree p.left) (plain_tree p.right)) base (Node l r) b →
        IsSame (pairs_value v list) (v c) → ShowsValue t at v c
    stands_at t n at P v keys o l r b fl fr m u list is stored c code p base part same = go (below_node part)
      where
        itself : (Node (plain_tree p.left) (plain_tree p.right) ≡ Node l r) × (base ≡ b) → ShowsValue t at v c
        itself e =
            let el : plain_tree p.left ≡ l = ap left_of e.0 in
            let er : plain_tree p.right ≡ r = ap right_of e.0 in
            subst (ShowsValue t at v) (sym code)
            (node_by_values t n at keys v o.literals m u list stored (o.whole m u list is stored) p
            (o.value m u list is stored)
            (codes_shown t at P v (plain_tree p.left) (plain_tree p.right) (subst (ShowsBelow t at P v) (sym el) fl)
            (subst (ShowsBelow t at P v) (sym er) fr) list (o.closed m u list is stored) p.primes p.subs))

        there : IsCodeOf t at P c
        there = inr (m, code, is, subst IsSome (sym stored) refl)

        own : DependsOn (Node (plain_tree p.left) (plain_tree p.right)) (v c)
        own =
            depends_same (Node (plain_tree p.left) (plain_tree p.right)) (v c) (pairs_value v list) (λ a. sym (same a))
            (depends_both (plain_tree p.left) (plain_tree p.right) v list p.primes p.subs)

        go : ((Node (plain_tree p.left) (plain_tree p.right) ≡ Node l r) × (base ≡ b))
            ⊎ (IsPart (Node (plain_tree p.left) (plain_tree p.right)) base l b
            ⊎ IsPart (Node (plain_tree p.left) (plain_tree p.right)) base r (right_base l b)) → ShowsValue t at v c
        go (inl e) = itself e
        go (inr (inl k)) = fl c there (depends_above k (v c) own)
        go (inr (inr k)) = fr c there (depends_above k (v c) own)

-- each constant, literal and node of such a table shows a canonical diagram with its value
pub shown_by_values : (t : Numbered) → IsNumbered t → (at : Lookup) (P : ℕ → Type 0) (v : Valuation) → AreKeys at →
    AreOrderly t at P v → (c : ℕ) → IsCodeOf t at P c → ShowsValue t at v c
shown_by_values t n at P v keys o c (inl lt) = base_shown t n at v o.literals c lt
shown_by_values t n at P v keys o c (inr w) =
    let k = key_of (at w.0) w.3 in
    let p : IsPlaced t v k.0 k.1 = o.placed w.0 k.0 k.1 w.2 k.2 in
    let i : PartAt t k.0 (NumberedNode k.0 p.left p.right) 0 =
    part_of_subtree t k.0 (NumberedNode k.0 p.left p.right) 0 p.at in
    let own : DependsOn (Node (plain_tree p.left) (plain_tree p.right)) (pairs_value v k.1) =
    depends_both (plain_tree p.left) (plain_tree p.right) v k.1 p.primes p.subs in
    let same : IsSame (v c) (pairs_value v k.1) =
    λ a. ap (λ d. v d a) w.1 ∙ o.value w.0 k.0 k.1 w.2 k.2 a in
    below t n at P v keys o (plain_tree t) 0 here c (inr w)
    (depends_above i.part (v c)
    (depends_same (Node (plain_tree p.left) (plain_tree p.right)) (v c) (pairs_value v k.1) same own))

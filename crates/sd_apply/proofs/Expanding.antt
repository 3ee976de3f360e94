-- Nodes as elements at a vtree node, and what operations make of them.
use Rattle.std.proofs.Common.{◌≡◌, ◌≢◌, ℕ, ◌+◌, ◌-◌, ◌*◌, ◌≤◌, ◌<◌, Bool, true, false}
use Rattle.std.proofs.Common.{not, cond, List, []}
use Rattle.std.proofs.Common.{◌∷◌, length, Some, slice_get, refl, sym}
use Rattle.std.proofs.Common.{◌∙◌, ap, subst, arith, length-append}
use Rattle.std.proofs.Common.{unwrap_or, nat_lt, if◌then◌else◌}
use Rattle.std.specs.List.{AllZip, AllByRecursion}
use Rattle.std.specs.Option.{option_map}
use Rattle.std.specs.FinMap.{get}
use Rattle.std.proofs.lemmas.Option.{same_Some}
use Rattle.std.proofs.lemmas.Bool.Decides.{nat_tests}
use Rattle.sd_model.specs.declared.trees.Operation.{Operation}
use Rattle.sd_model.specs.Tree.{Tree, Node, leaves, variables, position, right_base}
use Rattle.sd_model.specs.Diagram.{Diagram, Bottom, Top, Literal, Decomposition, Elements, meaning}
use Rattle.sd_model.specs.Canonical.{IsCanonical, canonical_top}
use Rattle.sd_model.specs.Expression.{combine}
use Rattle.sd_vtree.specs.Numbered.{plain_tree, numbers}
use Rattle.sd_vtree.specs.Numbered.{or_else}
use Rattle.sd_vtree.proofs.Times.{one_place}
use Rattle.sd_vtree.proofs.Subtrees.{once_numbered}
use Rattle.sd_laws.specs.Pairs.{answers, IsCompressed}
use Rattle.sd_laws.specs.Parts.{here, IsInner, HasPosition}
use Rattle.sd_laws.specs.Shown.{ShowPairs, HasPairs, ShowsCanonical as ShowsCanonicalBy}
use Rattle.sd_laws.proofs.Codes.{literal_range}
use Rattle.sd_laws.proofs.Expanded.{stored_partition}
use Rattle.sd_laws.proofs.Places.{same_diagram, canonical_in, position_within, leaves_positive}
use Rattle.sd_manager.specs.Table.{Table, key_at}
use Rattle.sd_manager.specs.Shown.{Shows, ShowsCanonical}
use Rattle.sd_manager.specs.Views.{pairs_at}
use Rattle.sd_manager.specs.Making.{Extends}
use Rattle.sd_manager.specs.Valid.{IsTable}
use Rattle.sd_apply.specs.Places.{IsCanonicalUnder, IsNodeUnder, IsBelow}
use Rattle.sd_apply.specs.Places.{HasPlace, HasChildren}
use Rattle.sd_apply.specs.Elements.{IsPair, ListsElements, IsPartitionUnder, HasList, AreListedElements}
use Rattle.sd_apply.specs.Elements.{IsPartitionBelow, products}
use Rattle.sd_apply.specs.Calls.{Applies, NegatesAt, Expands, Multiplies, Joins}
use Rattle.sd_apply.proofs.Trees.{ChildrenOf, children_of, apart, not_under, canonical_below}
use Rattle.sd_apply.proofs.Trees.{below_canonical, left_tree, right_tree}
use Rattle.sd_apply.proofs.Trees.{left_part, right_part, bottom_under, top_under}
use Rattle.sd_apply.proofs.Listed.{node_on, lists_on}
use Rattle.sd_apply.proofs.Rows.{not_bottom}

-- the list of a node
pairs_of_key : (t : Table) (c n place : ℕ) (list : List (ℕ × ℕ)) → c ≡ 2050 + n →
    get t.linked n ≡ Some (place, list) →
    pairs_at t c ≡ list
pairs_of_key t c n place list e k =
    let low : nat_lt c 2050 ≡ false = grind (arith, nat_tests) in
    let at : c - 2050 ≡ n = omega (arith, e) in
    let found : key_at t (c - 2050) ≡ Some (place, list) = ap (key_at t) at
    ∙ ap (λ o. or_else o (get t.detached n)) k in
    ap (λ b. if b then [] else unwrap_or (option_map (λ (k : ℕ × List (ℕ × ℕ)). k.1)
    (key_at t (c - 2050))) []) low
    ∙ ap (λ o. unwrap_or (option_map (λ (k : ℕ × List (ℕ × ℕ)). k.1) o) []) found

-- what is shown with the elements' conditions is a list of elements
pub listed : (t : Table) (u w : ℕ) (P Q R : Diagram × Diagram → Type 0) →
    ((d : Diagram × Diagram) → P d → IsCanonicalUnder t.vtree u d.0) →
    ((d : Diagram × Diagram) → Q d → IsCanonicalUnder t.vtree w d.1) → ((d : Diagram × Diagram) → R d →
    d.0 ≢ Bottom) →
    (l : List (ℕ × ℕ)) (ds : List (Diagram × Diagram)) → ShowPairs t.vtree (get t.linked) l ds →
    AllByRecursion P ds →
    AllByRecursion Q ds → AllByRecursion R ds → AllZip (IsPair t u w) l ds
listed t u w P Q R p q r [] [] h a b c = tt
listed t u w P Q R p q r [] (d ∷ ds) h a b c = absurd h
listed t u w P Q R p q r (e ∷ l) [] h a b c = absurd h
listed t u w P Q R p q r (e ∷ l) (d ∷ ds) h a b c = (
  record {
    prime_shows = h.0.0;
    sub_shows = h.0.1;
    prime = p d a.0;
    sub = q d b.0;
    possible = r d c.0;
  },
  listed t u w P Q R p q r l ds h.1 a.1 b.1 c.1,
)

-- the pairs of a node are elements with its value, no two subs of which are equal
pub record HasOwn (t : Table) (u w : ℕ) (l : List (ℕ × ℕ)) (x : Diagram) : Type 0 where
  pub shown : List (Diagram × Diagram)
  pub lists : ListsElements t u w l shown
  pub value : (g : List Bool) → answers g shown ≡ meaning x g ∷ []
  pub compressed : IsCompressed shown

-- the elements of a node at its own place
own_shows : (t : Table) → IsTable t → (p u w c : ℕ) → HasChildren t.vtree p u w →
    (q : ℕ) (es : Elements) →
    ShowsCanonical t c (Decomposition q es) → HasPlace t.vtree p (Decomposition q es) →
    HasOwn t u w (pairs_at t c) (Decomposition q es)
own_shows t i p u w c e q es h place =
    let v = i.numbered in
    let k : HasPairs t.vtree (get t.linked) c q h.shows.0 = h.shows.1 in
    let f = children_of t.vtree v p u w e in
    let at : slice_get (numbers t.vtree) q ≡ Some p = ap (slice_get (numbers t.vtree))
    place.stands ∙ place.number in
    let same : k.place ≡ p = same_Some k.place p (sym k.position ∙ at) in
    let inner : IsInner t.vtree k.place (plain_tree f.left) (plain_tree f.right) f.base =
    subst (λ x. IsInner t.vtree x (plain_tree f.left) (plain_tree f.right) f.base) (sym same) f.inner in
    let node : ShowsCanonicalBy t.vtree (get t.linked) c (Decomposition q es) = record {
      shows = h.shows;
      canonical = h.canonical;
    } in
    let s = stored_partition t.vtree (get t.linked) v c q es node k.number k.place k.list k.code
    k.stored
    (plain_tree f.left) (plain_tree f.right) f.base inner in
    let list = pairs_of_key t c k.number k.place k.list k.code k.stored in
    let lists : ListsElements t u w k.list s.pairs = record {
      pairs = listed t u w _ _ _
          (λ d a. below_canonical t.vtree u (plain_tree f.left) f.base d.0 (left_tree t.vtree p u w f)
          (left_part t.vtree p u w f) a)
          (λ d a. below_canonical t.vtree w (plain_tree f.right) _ d.1 (right_tree t.vtree p u w f)
          (right_part t.vtree p u w f) a)
          (λ d a. a) k.list s.pairs s.shown s.partition.elements.primes s.partition.elements.subs
          s.partition.elements.possible;
    } in
    record {
      shown = s.pairs;
      lists = subst (λ l. ListsElements t u w l s.pairs) (sym list) lists;
      value = s.value;
      compressed = s.compressed;
    }

pub own_elements : (t : Table) → IsTable t → (p u w c : ℕ) → HasChildren t.vtree p u w →
    (x : Diagram) → ShowsCanonical t c x →
    HasPlace t.vtree p x → 2050 ≤ c → HasOwn t u w (pairs_at t c) x
own_elements t i p u w c e Bottom h place code = absurd place.stands
own_elements t i p u w c e Top h place code = absurd place.stands
own_elements t i p u w c e (Literal q y s) h place code =
    absurd (omega (
      arith,
      (literal_range t.vtree (get t.linked) i.numbered c q y s h.shows).2,
      code,
    ))
own_elements t i p u w c e (Decomposition q es) h place code = own_shows t i p u w c e q es h place

-- their values alone
pub own_list : (t : Table) → IsTable t → (p u w c : ℕ) → HasChildren t.vtree p u w →
    (x : Diagram) → ShowsCanonical t c x →
    HasPlace t.vtree p x → 2050 ≤ c → HasList t u w (pairs_at t c) (λ g. meaning x g ∷ [])
own_list t i p u w c e x h place code =
    let q = own_elements t i p u w c e x h place code in
    record { shown = q.shown; lists = q.lists; value = q.value }

-- a node at an inner place is no literal
pub own_code : (t : Table) → IsTable t → (p u w c : ℕ) → HasChildren t.vtree p u w →
    (x : Diagram) → ShowsCanonical t c x →
    HasPlace t.vtree p x → 2050 ≤ c
own_code t i p u w c e Bottom h place = absurd place.stands
own_code t i p u w c e Top h place = absurd place.stands
own_code t i p u w c e (Decomposition q es) h place = omega (arith, h.shows.1.code)
own_code t i p u w c e (Literal q y s) h place =
    let f = children_of t.vtree i.numbered p u w e in
    let at : slice_get (numbers t.vtree) q ≡ Some p = ap (slice_get (numbers t.vtree))
    place.stands ∙ place.number in
    let same : q ≡ position (Node (plain_tree f.left) (plain_tree f.right)) f.base =
    one_place (numbers t.vtree) p q (position (Node (plain_tree f.left) (plain_tree f.right)) f.base)
    (once_numbered t.vtree i.numbered p) at f.inner.number in
    absurd (no_literal (canonical_in f.inner.part h.canonical refl
    (omega (arith, same, leaves_positive (plain_tree f.left)))
    (omega (
      arith,
      same,
      leaves_positive (plain_tree f.left),
      leaves_positive (plain_tree f.right),
      length-append (variables (plain_tree f.left)) (variables (plain_tree f.right)),
    ))) same)
  where
    no_literal : {l r : Tree} {b q y : ℕ} {s : Bool} → IsCanonical (Node l r) b (Literal q y s) →
        q ≡ position (Node l r) b → ⊥
    no_literal (Rattle.sd_model.specs.Canonical.canonical_in_left {l = l} n k) e =
        omega (arith, (position_within k refl).1, e, leaves_positive l)
    no_literal (Rattle.sd_model.specs.Canonical.canonical_in_right {l = l} n k) e =
        omega (arith, (position_within k refl).0, e, leaves_positive l)

-- where a diagram below a vtree node stands
record StandsAt (t : Table) (p u w own po pp : ℕ) (x : Diagram) (f : ChildrenOf t.vtree p u w) : Type 0
  where
    stands : HasPosition x po
    middle : pp ≡ position (Node (plain_tree f.left) (plain_tree f.right)) f.base
    low : f.base ≤ po
    high : po + 1 < f.base + 2 * leaves (Node (plain_tree f.left) (plain_tree f.right))

-- positions of a diagram and of the vtree node below which it stands
stands_at : (t : Table) → IsTable t → (p u w own po pp : ℕ) (f : ChildrenOf t.vtree p u w) (x : Diagram)
    → IsCanonicalUnder t.vtree p x →
    HasPlace t.vtree own x → slice_get (numbers t.vtree) pp ≡ Some p → slice_get (numbers t.vtree)
    po ≡ Some own →
    StandsAt t p u w own po pp x f
stands_at t i p u w own po pp f x h k np ao =
    let v = i.numbered in
    let whole = Node (plain_tree f.left) (plain_tree f.right) in
    let c = canonical_below t.vtree v p whole f.base x f.whole f.inner.part h in
    let same : k.position ≡ po = one_place (numbers t.vtree) own k.position po (once_numbered
    t.vtree v own) k.number ao in
    let stands : HasPosition x po = subst (HasPosition x) same k.stands in
    let r = position_within c stands in
    record {
      stands = stands;
      middle = one_place (numbers t.vtree) p pp (position whole f.base) (once_numbered t.vtree v
          p) np f.inner.number;
      low = r.0;
      high = r.1;
    }

-- a diagram that stands behind a vtree node below which it is, is below the right child
pub right_under : (t : Table) → IsTable t → (p u w own pp po : ℕ) → HasChildren t.vtree p u w →
    (x : Diagram) →
    IsCanonicalUnder t.vtree p x → HasPlace t.vtree own x → slice_get (numbers t.vtree) pp ≡ Some p →
    slice_get (numbers t.vtree) po ≡ Some own → pp < po → IsCanonicalUnder t.vtree w x
right_under t i p u w own pp po e x h k np ao lt =
    let f = children_of t.vtree i.numbered p u w e in
    let s = stands_at t i p u w own po pp f x h k np ao in
    let c = canonical_in (right_part t.vtree p u w f) h.canonical s.stands
    (omega (arith, s.middle, leaves_positive (plain_tree f.left)))
    (omega (
      arith,
      s.high,
      length-append (variables (plain_tree f.left))
          (variables (plain_tree f.right)),
    )) in
    below_canonical t.vtree w (plain_tree f.right) (right_base (plain_tree f.left) f.base) x
    (right_tree t.vtree p u w f)
    (right_part t.vtree p u w f) c

-- and one that stands before it is below the left child
pub left_under : (t : Table) → IsTable t → (p u w own pp po : ℕ) → HasChildren t.vtree p u w →
    (x : Diagram) →
    IsCanonicalUnder t.vtree p x → HasPlace t.vtree own x → slice_get (numbers t.vtree) pp ≡ Some p →
    slice_get (numbers t.vtree) po ≡ Some own → po < pp → IsCanonicalUnder t.vtree u x
left_under t i p u w own pp po e x h k np ao lt =
    let f = children_of t.vtree i.numbered p u w e in
    let s = stands_at t i p u w own po pp f x h k np ao in
    let c = canonical_in (left_part t.vtree p u w f) h.canonical s.stands s.low
    (omega (arith, s.middle, leaves_positive (plain_tree f.left))) in
    below_canonical t.vtree u (plain_tree f.left) f.base x (left_tree t.vtree p u w f)
    (left_part t.vtree p u w f) c

-- a node below the right child beside the prime true
pub expand_right : (t : Table) → IsTable t → (v u w a : ℕ) → ((x : Diagram) →
    IsNodeUnder t v a x → IsCanonicalUnder t.vtree w x) →
    Expands t t v u w a ((1, a) ∷ [])
expand_right t i v u w a under = record {
  each = λ x h. record {
    shown = (Top, x) ∷ [];
    lists = record {
      pairs = (
        record {
          prime_shows = refl;
          sub_shows = h.shows;
          prime = top_under t.vtree u;
          sub = under x h;
          possible = λ e. cc;
        },
        tt,
      );
    };
    value = λ g. refl;
  };
}

two_answers : (x z : Bool) → z ≡ not x → cond x (true ∷ cond z (false ∷ []) [])
    (cond z (false ∷ []) []) ≡ x ∷ []
two_answers true true e = absurd (cc)
two_answers true false e = refl
two_answers false true e = refl
two_answers false false e = absurd (cc)

-- what has a false negation is true
pub not_false : (b : Bool) → not b ≡ false → b ≡ true
not_false true e = refl
not_false false e = absurd (cc)

-- what is not true has a negation that is not false
not_top : (t : Table) → IsTable t → (a : ℕ) (x z : Diagram) → ShowsCanonical t a x → 2 ≤ a →
    ((g : List Bool) → meaning z g ≡ not (meaning x g)) → z ≢ Bottom
not_top t i a x z h two value e =
    let always : (g : List Bool) → meaning x g ≡ true = λ g. not_false (meaning x g)
    (sym (value g) ∙ ap (λ d. meaning d g) e) in
    let top : x ≡ Top = same_diagram (leaves (plain_tree t.vtree)) (apart t.vtree i.numbered) here x
    Top h.canonical canonical_top always in
    let one : a ≡ 1 = subst (λ d. Shows t a d) top h.shows in
    omega (arith, one, two)

-- a node below the left child and its negation
pub expand_left : (t t1 : Table) → IsTable t → Extends t t1 → (v u w a other : ℕ) → 2 ≤ a →
    ((x : Diagram) → IsNodeUnder t v a x → IsCanonicalUnder t.vtree u x) → NegatesAt t t1 u a other →
    Expands t t1 v u w a ((a, 1) ∷ (other, 0) ∷ [])
expand_left t t1 i x v u w a other two under k = record {
  each = λ d h.
      let node : IsNodeUnder t u a d = record { shows = h.shows; under = under d h } in
      let z = k.each d node in
      let next = node_on t t1 x u a d node in
      record {
        shown = (d, Top) ∷ (z.diagram, Bottom) ∷ [];
        lists = record {
          pairs = (
            record {
              prime_shows = next.shows;
              sub_shows = refl;
              prime = next.under;
              sub = top_under t1.vtree w;
              possible = not_bottom t a d h.shows (λ e. omega (arith, e));
            },
            (
              record {
                prime_shows = z.is.shows;
                sub_shows = refl;
                prime = not_under t1.vtree u d z.diagram next.under z.is.canonical z.value;
                sub = bottom_under t1.vtree w;
                possible = not_top t i a d z.diagram (record {
                  shows = h.shows;
                  canonical = h.under.canonical;
                }) two z.value;
              },
              tt,
            ),
          );
        };
        value = λ g. two_answers (meaning d g) (meaning z.diagram g) (z.value g);
      };
}

-- a node at the place itself
pub expand_own : (t : Table) → IsTable t → (p u w c : ℕ) → HasChildren t.vtree p u w →
    ((x : Diagram) → ShowsCanonical t c x → HasPlace t.vtree p x) → Expands t t p u w c (pairs_at t c)
expand_own t i p u w c e place = record {
  each = λ x h.
      let shown : ShowsCanonical t c x = record { shows = h.shows; canonical = h.under.canonical } in
      own_list t i p u w c e x shown (place x shown) (own_code t i p u w c e x shown
      (place x shown));
}

-- expansions are partitions, also later
pub expanded_partition : (m0 m1 m2 : Table) (p u w a : ℕ) (l : List (ℕ × ℕ)) →
    Expands m0 m1 p u w a l → Extends m1 m2 →
    (x : Diagram) → IsNodeUnder m0 p a x → IsPartitionBelow m2 u w l
expanded_partition m0 m1 m2 p u w a l h x d k =
    let e = h.each d k in
    record {
      shown = e.shown;
      is = record {
        lists = lists_on m1 m2 x u w l e.shown e.lists;
        one_true = λ g. ap length (e.value g);
      };
    }

pub partition_listed : (t : Table) (u w : ℕ) (l : List (ℕ × ℕ)) → IsPartitionBelow t u w l →
    AreListedElements t u w l
partition_listed t u w l h = record { shown = h.shown; is = h.is.lists }

-- the products of two expansions
pub record HasProducts (t : Table) (o : Operation) (u w : ℕ) (q : List (ℕ × ℕ)) (x y : Diagram) : Type
    0 where
  pub shown : List (Diagram × Diagram)
  pub is : IsPartitionUnder t u w q shown
  pub value : (g : List Bool) → answers g shown ≡ combine o (meaning x g) (meaning y g) ∷ []

pub has_products : (m0 m1 m2 m3 : Table) (o : Operation) (p u w a b : ℕ) (l k q : List (ℕ × ℕ)) →
    Extends m0 m1 → Extends m1 m2 →
    (x y : Diagram) → IsNodeUnder m0 p a x → IsNodeUnder m0 p b y → Expands m0 m1 p u w a l →
    Expands m1 m2 p u w b k →
    Multiplies m2 m3 o u w l k q → HasProducts m3 o u w q x y
has_products m0 m1 m2 m3 o p u w a b l k q e1 e2 x y px py first second product =
    let ds = first.each x px in
    let fs = second.each y (node_on m0 m1 e1 p b y py) in
    let gs = product.each ds.shown fs.shown (lists_on m1 m2 e2 u w l ds.shown ds.lists)
    (record { lists = fs.lists; one_true = λ g. ap length (fs.value g) }) in
    let value : (g : List Bool) → answers g gs.shown ≡ combine o (meaning x g) (meaning y g) ∷
    [] = λ g.
    gs.value g ∙ ap (λ z. products o z (answers g fs.shown)) (ds.value g)
    ∙ ap (λ z. products o (meaning x g ∷ []) z) (fs.value g) in
    record {
      shown = gs.shown;
      is = record {
        lists = gs.lists;
        one_true = λ g. ap length (value g);
      };
      value = value;
    }

pub products_partition : (m0 m1 m2 m3 : Table) (o : Operation) (p u w a b : ℕ)
    (l k q : List (ℕ × ℕ)) → Extends m0 m1 →
    Extends m1 m2 → (x y : Diagram) → IsNodeUnder m0 p a x → IsNodeUnder m0 p b y →
    Expands m0 m1 p u w a l →
    Expands m1 m2 p u w b k → Multiplies m2 m3 o u w l k q → IsPartitionBelow m3 u w q
products_partition m0 m1 m2 m3 o p u w a b l k q e1 e2 x y px py first second product =
    let h = has_products m0 m1 m2 m3 o p u w a b l k q e1 e2 x y px py first second product in
    record { shown = h.shown; is = h.is }

-- a node below a vtree node v is below the node p that was chosen for it
pub node_at : (t : Table) (v p a : ℕ) (x : Diagram) → ((d : Diagram) → ShowsCanonical t a d →
    IsCanonicalUnder t.vtree p d) →
    IsNodeUnder t v a x → IsNodeUnder t p a x
node_at t v p a x under h =
    record {
      shows = h.shows;
      under = under x (record {
        shows = h.shows;
        canonical = h.under.canonical;
      });
    }

pub below_at : (t : Table) (v p a : ℕ) → ((d : Diagram) → ShowsCanonical t a d → IsCanonicalUnder t.vtree p d) →
    IsBelow t v a → IsBelow t p a
below_at t v p a under h = record { diagram = h.diagram; is = node_at t v p a h.diagram under h.is }

-- what was answered at a lower vtree node below which the operands stand
pub applies_over : (m n : Table) (o : Operation) (v p a b r : ℕ)
    → ((d : Diagram) → ShowsCanonical m a d → IsCanonicalUnder m.vtree p d)
    → ((d : Diagram) → ShowsCanonical m b d → IsCanonicalUnder m.vtree p d) → Applies m n o p a b r
    → Applies m n o v a b r
applies_over m n o v p a b r under_a under_b h = record {
  each = λ x y px py. h.each x y (node_at m v p a x under_a px) (node_at m v p b y under_b py);
}

pub negates_over : (m n : Table) (v p a r : ℕ)
    → ((d : Diagram) → ShowsCanonical m a d → IsCanonicalUnder m.vtree p d) → NegatesAt m n p a r
    → NegatesAt m n v a r
negates_over m n v p a r under h = record { each = λ x px. h.each x (node_at m v p a x under px) }

-- the answer of an operation at two expansions
pub applied_at_lca : (m0 m1 m2 m3 m4 : Table) (o : Operation) (v p u w a b r : ℕ)
    (l k q : List (ℕ × ℕ)) → Extends m0 m1 →
    Extends m1 m2 → ((d : Diagram) → ShowsCanonical m0 a d → IsCanonicalUnder m0.vtree p d) →
    ((d : Diagram) → ShowsCanonical m0 b d → IsCanonicalUnder m0.vtree p d) → Expands m0 m1 p u w a l →
    Expands m1 m2 p u w b k →
    Multiplies m2 m3 o u w l k q → Joins m3 m4 u w q r → Applies m0 m4 o v a b r
applied_at_lca m0 m1 m2 m3 m4 o v p u w a b r l k q e1 e2 under_a under_b first second product
    join = record {
      each = λ x y px py.
          let h = has_products m0 m1 m2 m3 o p u w a b l k q e1 e2 x y (node_at m0 v p a x under_a
          px)
          (node_at m0 v p b y under_b py) first second product in
          join.each h.shown h.is (λ g. combine o (meaning x g) (meaning y g)) h.value;
    }

pub own_listed : (t : Table) → IsTable t → (p u w c : ℕ) → HasChildren t.vtree p u w →
    (x : Diagram) → ShowsCanonical t c x →
    HasPlace t.vtree p x → 2050 ≤ c → AreListedElements t u w (pairs_at t c)
own_listed t i p u w c e x h place code =
    let q = own_list t i p u w c e x h place code in
    record { shown = q.shown; is = q.lists }

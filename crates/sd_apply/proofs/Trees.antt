-- Diagrams below the nodes of a vtree.
use Rattle.std.proofs.Common.{◌≡◌, ℕ, ◌+◌, ◌-◌, ◌*◌, ◌≤◌, ◌<◌, Bool, not, List}
use Rattle.std.proofs.Common.{◌++◌, length, Some}
use Rattle.std.proofs.Common.{slice_get, inl, inr, refl, sym, ◌∙◌, ap, subst, arith}
use Rattle.std.proofs.Common.{length-append}
use Rattle.std.proofs.lemmas.Option.{same_Some}
use Rattle.std.proofs.lemmas.Bool.{cases_lt}
use Rattle.sd_model.specs.declared.trees.Operation.{Operation}
use Rattle.sd_model.specs.Tree.{Tree, Leaf, Node, leaves, variables, position, right_base}
use Rattle.sd_model.specs.Diagram.{Diagram, Bottom, Top, meaning}
use Rattle.sd_model.specs.Canonical.{IsCanonical, canonical_bottom, canonical_top}
use Rattle.sd_model.specs.Expression.{combine}
use Rattle.sd_model.proofs.Blend.{IsApart, depends}
use Rattle.sd_model.proofs.OverVtree.{vtree_apart}
use Rattle.sd_vtree.specs.Numbered.{Numbered, NumberedNode, plain_tree, numbers, subtree}
use Rattle.sd_vtree.specs.Numbered.{IsNumbered}
use Rattle.sd_vtree.specs.Numbered.{IsUnder as StandsUnder}
use Rattle.sd_vtree.proofs.Subtrees.{InnerPart, inner_part}
use Rattle.sd_vtree.proofs.Times.{slice_get_append, slice_get_left, times_slice_get}
use Rattle.sd_laws.specs.Parts.{IsPart, here, in_left, in_right, IsInner}
use Rattle.sd_laws.proofs.Places.{canonical_lifts, part_trans, narrowed, leaves_positive}
use Rattle.sd_laws.proofs.Places.{part_range}
use Rattle.sd_laws.proofs.Places.{position_within, position_from}
use Rattle.sd_laws.specs.Depends.{DependsOn}
use Rattle.sd_laws.proofs.Numbers.{part_of_subtree, part_within, length_numbers, inner_at}
use Rattle.sd_laws.proofs.Numbers.{under_canonical}
use Rattle.sd_apply.specs.Places.{tree_at, plain, width, IsCanonicalUnder, HasPlace, HasChildren, IsThere}

-- a node of the vtree with its children and their subtrees
pub record ChildrenOf (t : Numbered) (p u w : ℕ) : Type 0 where
  pub left : Numbered
  pub right : Numbered
  pub base : ℕ
  pub inner : IsInner t p (plain_tree left) (plain_tree right) base
  pub whole : tree_at t p ≡ Node (plain_tree left) (plain_tree right)
  pub left_is : subtree t u ≡ Some left
  pub right_is : subtree t w ≡ Some right

pub children_of : (t : Numbered) → IsNumbered t → (p u w : ℕ) → HasChildren t p u w → ChildrenOf t p u w
children_of t v p u w e =
    let i : InnerPart t p u w = inner_part t v p u w e in
    let h = inner_at t p p i.left i.right i.is refl in
    record {
      left = i.left;
      right = i.right;
      base = h.0;
      inner = h.1;
      whole = ap plain i.is;
      left_is = i.left_is;
      right_is = i.right_is;
    }

-- the left child's tree, and its part of the vtree
pub left_tree : (t : Numbered) (p u w : ℕ) (f : ChildrenOf t p u w) → tree_at t u ≡ plain_tree f.left
left_tree t p u w f = ap plain f.left_is

pub right_tree : (t : Numbered) (p u w : ℕ) (f : ChildrenOf t p u w) → tree_at t w ≡ plain_tree f.right
right_tree t p u w f = ap plain f.right_is

pub left_part : (t : Numbered) (p u w : ℕ) (f : ChildrenOf t p u w) → IsPart (plain_tree f.left) f.base
    (plain_tree t) 0
left_part t p u w f = part_trans (in_left here) f.inner.part

pub right_part : (t : Numbered) (p u w : ℕ) (f : ChildrenOf t p u w) →
    IsPart (plain_tree f.right) (right_base (plain_tree f.left) f.base) (plain_tree t) 0
right_part t p u w f = part_trans (in_right here) f.inner.part

-- the vtree's children share no variable
pub apart : (t : Numbered) → IsNumbered t → IsApart (leaves (plain_tree t)) (plain_tree t)
apart t v = vtree_apart (plain_tree t) v.vtree

-- a diagram below a part that is the tree of a number is canonical for the part
pub canonical_below : (t : Numbered) → IsNumbered t → (u : ℕ) (s : Tree) (c : ℕ) (d : Diagram) →
    tree_at t u ≡ s →
    IsPart s c (plain_tree t) 0 → IsCanonicalUnder t u d → IsCanonical s c d
canonical_below t v u s c d e part h =
    narrowed (leaves (plain_tree t)) part (apart t v) h.canonical
    (subst (λ s. DependsOn s (meaning d)) e h.depends)

-- and the other way round
pub below_canonical : (t : Numbered) (u : ℕ) (s : Tree) (c : ℕ) (d : Diagram) → tree_at t u ≡ s →
    IsPart s c (plain_tree t) 0 → IsCanonical s c d → IsCanonicalUnder t u d
below_canonical t u s c d e part k =
    record {
      canonical = canonical_lifts part d k;
      depends = subst (λ s. DependsOn s (meaning d))
          (sym e) (depends k);
    }

-- constants are below each node
pub bottom_under : (t : Numbered) (u : ℕ) → IsCanonicalUnder t u Bottom
bottom_under t u = record { canonical = canonical_bottom; depends = λ a b h. refl }

pub top_under : (t : Numbered) (u : ℕ) → IsCanonicalUnder t u Top
top_under t u = record { canonical = canonical_top; depends = λ a b h. refl }

-- the answer of a connective at diagrams below a node is below it
pub answer_under : (t : Numbered) (u : ℕ) (o : Operation) (x y z : Diagram) → IsCanonicalUnder t u x →
    IsCanonicalUnder t u y →
    IsCanonical (plain_tree t) 0 z → ((a : List Bool) → meaning z a ≡ combine o (meaning x a)
    (meaning y a)) → IsCanonicalUnder t u z
answer_under t u o x y z h k c e =
    record {
      canonical = c;
      depends = λ a b g. e a ∙ ap (λ v. combine o v (meaning y a)) (h.depends a b g)
          ∙ ap (combine o (meaning x b)) (k.depends a b g) ∙ sym (e b);
    }

-- and so is that of negation
pub not_under : (t : Numbered) (u : ℕ) (x z : Diagram) → IsCanonicalUnder t u x →
    IsCanonical (plain_tree t) 0 z →
    ((a : List Bool) → meaning z a ≡ not (meaning x a)) → IsCanonicalUnder t u z
not_under t u x z h c e =
    record { canonical = c; depends = λ a b g. e a ∙ ap not (h.depends a b g) ∙ sym (e b) }

-- of two parts of a tree, one whose root stands among the other's positions is a part of the other
pub nested : {s r t : Tree} {c e b : ℕ} → IsPart s c t b → IsPart r e t b → e ≤ position s c →
    position s c + 1 < e + 2 * leaves r → IsPart s c r e
nested p here low high = p
nested here (in_left {l = l} {r = r} {b = b} q) low high =
    let k = part_range q in
    absurd (omega (arith, k.1, leaves_positive l))
nested (in_left p) (in_left q) low high = nested p q low high
nested {s} {c = c} (in_right {l = l} p) (in_left q) low high =
    let k = part_range q in
    let j = part_range p in
    absurd (omega (arith, k.1, j.0, position_from s c))
nested here (in_right {l = l} {b = b} q) low high =
    let k = part_range q in
    absurd (omega (arith, k.0, leaves_positive l))
nested {s} {c = c} (in_left {l = l} p) (in_right q) low high =
    let k = part_range q in
    let j = part_range p in
    absurd (omega (arith, k.0, j.1, position_from s c, position_last s))
  where
    position_last : (s : Tree) → position s 0 + 1 < 2 * leaves s + 1
    position_last (Leaf x) = omega arith
    position_last (Node l r) = omega (
      arith,
      leaves_positive l,
      leaves_positive r,
      length-append
          (variables l) (variables r),
    )
nested (in_right p) (in_right q) low high = nested p q low high

-- what is below a node stands at a number of its subtree
pub stands_under : (t : Numbered) → IsNumbered t → (v f : ℕ) (x : Diagram) → IsThere t v →
    IsCanonicalUnder t v x →
    HasPlace t f x → StandsUnder t f v
stands_under t n v f x w h k =
    let p = part_of_subtree t v w.part 0 w.is in
    let c : IsCanonical (plain_tree w.part) (0 + p.skip) x =
    canonical_below t n v (plain_tree w.part) (0 + p.skip) x (ap plain w.is) p.part h in
    let r = position_within c k.stands in
    let j = k.position - p.skip in
    let same : k.position ≡ length p.front + j = omega (arith, r.0, p.starts) in
    let small : j < length (numbers w.part) = omega (arith, r.0, r.1, length_numbers w.part) in
    let found : slice_get (numbers w.part) j ≡ Some f =
    sym (slice_get_left (numbers w.part) p.back j small)
    ∙ sym (slice_get_append p.front (numbers w.part ++ p.back) j)
    ∙ sym (ap (λ xs. slice_get xs (length p.front + j)) p.split)
    ∙ sym (ap (slice_get (numbers t)) same) ∙ k.number in
    record { part = w.part; is = w.is; has = times_slice_get (numbers w.part) j f found }

-- what stands at a number of a node's subtree is below the node
pub under_number : (t : Numbered) → IsNumbered t → (v f : ℕ) (x : Diagram) → StandsUnder t f v →
    IsCanonical (plain_tree t) 0 x → HasPlace t f x → IsCanonicalUnder t v x
under_number t n v f x h c k =
    let p = part_of_subtree t v h.part 0 h.is in
    below_canonical t v (plain_tree h.part) (0 + p.skip) x (ap plain h.is) p.part
    (under_canonical t n v f k.position h.part x p h.has k.number k.stands c)

-- the children of a node that stands under another have together no more variables
pub children_width : (t : Numbered) → IsNumbered t → (p u w v : ℕ) → HasChildren t p u w →
    StandsUnder t p v →
    width t u + width t w ≤ width t v
children_width t n p u w v e h =
    let f = children_of t n p u w e in
    let q = part_of_subtree t v h.part 0 h.is in
    let at = part_within t n v p h.part q (position (Node (plain_tree f.left) (plain_tree f.right))
    f.base) h.has f.inner.number in
    let inside = nested f.inner.part q.part at.0 at.1 in
    let r = part_range inside in
    omega (
      arith,
      r.0,
      r.1,
      ap leaves (left_tree t p u w f),
      ap leaves (right_tree t p u w f),
      ap leaves (let e : tree_at t v ≡ plain_tree h.part = ap plain h.is in e),
      length-append (variables (plain_tree f.left)) (variables (plain_tree f.right)),
    )

-- each node has a variable
pub width_positive : (t : Numbered) (u : ℕ) → 1 ≤ width t u
width_positive t u = leaves_positive (tree_at t u)

-- the children of a node are there
pub left_there : (t : Numbered) → IsNumbered t → (p u w : ℕ) → HasChildren t p u w → IsThere t u
left_there t v p u w e = let f = children_of t v p u w e in record { part = f.left; is = f.left_is }

pub right_there : (t : Numbered) → IsNumbered t → (p u w : ℕ) → HasChildren t p u w → IsThere t w
right_there t v p u w e = let f = children_of t v p u w e in record { part = f.right; is = f.right_is }

-- and so is the node itself
pub there_inner : (t : Numbered) → IsNumbered t → (p u w : ℕ) → HasChildren t p u w → IsThere t p
there_inner t v p u w e =
    let f = inner_part t v p u w e in record { part = NumberedNode p f.left f.right; is = f.is }

-- of two positions with different numbers one is before the other
pub place_before : (t : Numbered) (pp po p own : ℕ) → slice_get (numbers t) pp ≡ Some p →
    slice_get (numbers t) po ≡ Some own → po ≤ pp → (own ≡ p → ⊥) → po < pp
place_before t pp po p own np ao le differ = elim (cases_lt po pp) [
  | inl lt ↦ lt
  | inr ge ↦
      let same : po ≡ pp = omega (arith, le, ge) in
      absurd (differ (same_Some own p (sym ao ∙ ap (slice_get (numbers t)) same ∙ np)))
]

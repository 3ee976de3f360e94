-- Subtrees and leaves by the numbers of their nodes, and the positions at which they stand.
use Rattle.std.proofs.Common.{◌≡◌, inl, inr, ℕ, ◌+◌, ◌*◌, ◌≤◌, ◌<◌, Bool, true, List, [], ◌∷◌}
use Rattle.std.proofs.Common.{◌++◌, length, Option, Some, None, slice_get, refl, sym, ◌∙◌, ap, subst, arith}
use Rattle.std.proofs.Common.{eq-eqb, ne_eqb, ◌||◌, if◌then◌else◌, append_assoc, append-nil, length-append}
use Rattle.std.proofs.lemmas.Bool.{cases_eq, cases_lt}
use Rattle.std.proofs.lemmas.Option.{same_Some, none-some, slice_get-get_or}
use Rattle.sd_model.specs.Tree.{Tree, Leaf, Node, leaves, variables, position, right_base, IsVtree}
use Rattle.sd_model.specs.Diagram.{Diagram, Literal}
use Rattle.sd_model.specs.Canonical.{IsCanonical, canonical_literal, canonical_in_left, canonical_in_right}
use Rattle.sd_model.proofs.Blend.{IsApart, occurs, or_left, or_right}
use Rattle.sd_vtree.specs.Numbered.{Numbered, NumberedLeaf, NumberedNode, number_of, numbers}
use Rattle.sd_vtree.specs.Numbered.{plain_tree, subtree, times}
use Rattle.sd_vtree.specs.Numbered.{or_else, children_at, IsNumbered}
use Rattle.sd_vtree.proofs.Times.{Place, place, one_place, slice_get_append, slice_get_left, times_append}
use Rattle.sd_vtree.proofs.Times.{times_other}
use Rattle.sd_vtree.proofs.Subtrees.{Here, Left, Right, way, once_numbered, InnerPart, inner_part}
use Rattle.sd_vtree.proofs.Pigeons.{has_variable}
use Rattle.sd_laws.specs.Parts.{IsPart, here, in_left, in_right, leaf_position, HasPosition, IsInner}
use Rattle.sd_laws.proofs.Places.{position_from, canonical_in}

-- the position of a variable's leaf

-- a literal at its variable's leaf is canonical
pub literal_canonical : (t : Tree) (b x p : ℕ) (s : Bool) → leaf_position t b x ≡ Some p →
    IsCanonical t b (Literal p x s)
literal_canonical (Leaf y) b x p s e = elim (cases_eq y x) [
  | inl h ↦
      let f : b ≡ p = same_Some b p (sym (ap (λ c. if c then Some b else None) (eq-eqb y x h)) ∙ e) in
      subst (λ q. IsCanonical (Leaf y) b (Literal q x s)) f
      (subst (λ z. IsCanonical (Leaf y) b (Literal b z s)) h (canonical_literal s))
  | inr h ↦ absurd (none-some p (sym (ap (λ c. if c then Some b else None) (ne_eqb y x h)) ∙ e))
]
literal_canonical (Node l r) b x p s e =
    go (λ q. literal_canonical l b x q s) (λ q. literal_canonical r (right_base l b) x q s) (leaf_position l b x) refl e
  where
    go : ((q : ℕ) → leaf_position l b x ≡ Some q → IsCanonical l b (Literal q x s)) →
        ((q : ℕ) → leaf_position r (right_base l b) x ≡ Some q → IsCanonical r (right_base l b) (Literal q x s)) →
        (o : Option ℕ) → leaf_position l b x ≡ o → or_else o (leaf_position r (right_base l b) x) ≡ Some p →
        IsCanonical (Node l r) b (Literal p x s)
    go il ir (Some q) k f =
        canonical_in_left refl (subst (λ v. IsCanonical l b (Literal v x s)) (same_Some q p f) (il q k))
    go il ir None k f = canonical_in_right refl (ir p f)

-- a leaf's variable occurs in the tree
leaf_occurs : (t : Tree) (b x p : ℕ) → leaf_position t b x ≡ Some p → occurs t x ≡ true
leaf_occurs (Leaf y) b x p e = elim (cases_eq y x) [
  | inl h ↦ eq-eqb x y (sym h)
  | inr h ↦ absurd (none-some p (sym (ap (λ c. if c then Some b else None) (ne_eqb y x h)) ∙ e))
]
leaf_occurs (Node l r) b x p e =
    go (λ q. leaf_occurs l b x q) (λ q. leaf_occurs r (right_base l b) x q) (leaf_position l b x) refl e
  where
    go : ((q : ℕ) → leaf_position l b x ≡ Some q → occurs l x ≡ true) →
        ((q : ℕ) → leaf_position r (right_base l b) x ≡ Some q → occurs r x ≡ true) →
        (o : Option ℕ) → leaf_position l b x ≡ o → or_else o (leaf_position r (right_base l b) x) ≡ Some p →
        (occurs l x || occurs r x) ≡ true
    go il ir (Some q) k f = or_left (occurs l x) (occurs r x) (il q k)
    go il ir None k f = or_right (occurs l x) (occurs r x) (ir p f)

-- a canonical literal stands at its variable's leaf
pub literal_position : (n : ℕ) {t : Tree} {b x p : ℕ} {s : Bool} → IsApart n t → IsCanonical t b (Literal p x s) →
    leaf_position t b x ≡ Some p
literal_position n apart (canonical_literal {x = x} s) = rw (eq-eqb x x refl) refl
literal_position n apart (canonical_in_left e k) = rw (literal_position n apart.1 k) refl
literal_position n {x = x} {p = p} apart (canonical_in_right {l = l} {r = r} {base = b} e k) =
    go (literal_position n apart.2 k) (leaf_position l b x) refl
  where
    go : leaf_position r (right_base l b) x ≡ Some p → (o : Option ℕ) → leaf_position l b x ≡ o →
        or_else (leaf_position l b x) (leaf_position r (right_base l b) x) ≡ Some p
    go ih None h = rw h ih
    go ih (Some q) h =
        let left : occurs l x ≡ true = leaf_occurs l b x q h in
        let right : occurs r x ≡ true = leaf_occurs r (right_base l b) x p ih in
        absurd (cc (apart.0 x left, right))

-- a variable of the tree has a leaf
leaf_of_variable : (t : Tree) (b x : ℕ) → 1 ≤ times x (variables t) → (p : ℕ) × (leaf_position t b x ≡ Some p)
leaf_of_variable (Leaf y) b x h = elim (cases_eq y x) [
  | inl e ↦ (b, ap (λ c. if c then Some b else None) (eq-eqb y x e))
  | inr d ↦ absurd (omega (arith, times_other x y [] d))
]
leaf_of_variable (Node l r) b x h = elim (cases_lt 0 (times x (variables l))) [
  | inl p ↦
      let i = leaf_of_variable l b x (omega arith) in
      (i.0, ap (λ o. or_else o (leaf_position r (right_base l b) x)) i.1)
  | inr z ↦
      let i = leaf_of_variable r (right_base l b) x (omega (arith, times_append x (variables l) (variables r))) in
      go i.0 i.1 (leaf_position l b x) refl
]
  where
    go : (p : ℕ) → leaf_position r (right_base l b) x ≡ Some p → (o : Option ℕ) → leaf_position l b x ≡ o →
        (q : ℕ) × (or_else (leaf_position l b x) (leaf_position r (right_base l b) x) ≡ Some q)
    go p e None k = (p, ap (λ o. or_else o (leaf_position r (right_base l b) x)) k ∙ e)
    go p e (Some q) k = (q, ap (λ o. or_else o (leaf_position r (right_base l b) x)) k)

-- each variable of a vtree has a leaf
pub leaf_of_vtree : (t : Tree) → IsVtree t → (x : ℕ) → 1 ≤ x → x ≤ leaves t →
    (p : ℕ) × (leaf_position t 0 x ≡ Some p)
leaf_of_vtree t v x low high = leaf_of_variable t 0 x (has_variable t v x low high)

-- subtrees by number

-- The node with the number u is the root of s, whose positions begin at b + skip; its numbers stand there in order.
pub record PartAt (t : Numbered) (u : ℕ) (s : Numbered) (b : ℕ) : Type 0 where
  pub skip : ℕ
  pub part : IsPart (plain_tree s) (b + skip) (plain_tree t) b
  pub front : List ℕ
  pub back : List ℕ
  pub split : numbers t ≡ front ++ (numbers s ++ back)
  pub starts : length front ≡ skip

-- how many nodes a tree has
pub length_numbers : (t : Numbered) → length (numbers t) + 1 ≡ 2 * leaves (plain_tree t)
length_numbers (NumberedLeaf n x) = omega arith
length_numbers (NumberedNode n l r) =
    omega (
      arith,
      length_numbers l,
      length_numbers r,
      length-append (numbers l) (n ∷ numbers r),
      length-append (variables (plain_tree l)) (variables (plain_tree r)),
    )

-- a tree is its own subtree
whole_part : (t : Numbered) (u b : ℕ) → PartAt t u t b
whole_part t u b =
    record {
      skip = 0;
      part = subst (λ c. IsPart (plain_tree t) c (plain_tree t) b) (let e : b ≡ b + 0 = omega arith in e) here;
      front = [];
      back = [];
      split = sym (append-nil (numbers t));
      starts = refl;
    }

-- a subtree of the left child
left_part : (m : ℕ) (l r : Numbered) (u : ℕ) (s : Numbered) (b : ℕ) → PartAt l u s b → PartAt (NumberedNode m l r) u s b
left_part m l r u s b h =
    record {
      skip = h.skip;
      part = in_left h.part;
      front = h.front;
      back = h.back ++ m ∷ numbers r;
      split = ap (λ xs. xs ++ m ∷ numbers r) h.split
          ∙ (append_assoc h.front (numbers s ++ h.back) (m ∷ numbers r)
          ∙ ap (λ xs. h.front ++ xs) (append_assoc (numbers s) h.back (m ∷ numbers r)));
      starts = h.starts;
    }

-- a subtree of the right child
right_part : (m : ℕ) (l r : Numbered) (u : ℕ) (s : Numbered) (b : ℕ) → PartAt r u s (right_base (plain_tree l) b) →
    PartAt (NumberedNode m l r) u s b
right_part m l r u s b h =
    record {
      skip = 2 * leaves (plain_tree l) + h.skip;
      part = in_right (subst (λ c. IsPart (plain_tree s) c (plain_tree r) (right_base (plain_tree l) b))
          (let e : right_base (plain_tree l) b + h.skip ≡ b + (2 * leaves (plain_tree l) + h.skip) = omega arith in e)
          h.part);
      front = numbers l ++ m ∷ h.front;
      back = h.back;
      split = ap (λ xs. numbers l ++ m ∷ xs) h.split
          ∙ sym (append_assoc (numbers l) (m ∷ h.front) (numbers s ++ h.back));
      starts = omega (arith, h.starts, length-append (numbers l) (m ∷ h.front), length_numbers l);
    }

-- each number names such a part
pub part_of_subtree : (t : Numbered) (u : ℕ) (s : Numbered) (b : ℕ) → subtree t u ≡ Some s → PartAt t u s b
part_of_subtree (NumberedLeaf m x) u s b e = elim (cases_eq m u) [
  | inl h ↦
      let f : NumberedLeaf m x ≡ s = same_Some (NumberedLeaf m x) s
      (sym (ap (λ c. if c then Some (NumberedLeaf m x) else None) (eq-eqb m u h)) ∙ e) in
      subst (λ v. PartAt (NumberedLeaf m x) u v b) f (whole_part (NumberedLeaf m x) u b)
  | inr d ↦ absurd (none-some s (sym (ap (λ c. if c then Some (NumberedLeaf m x) else None) (ne_eqb m u d)) ∙ e))
]
part_of_subtree (NumberedNode m l r) u s b e = elim (way m l r u s e) [
  | Here h f ↦ subst (λ v. PartAt (NumberedNode m l r) u v b) f (whole_part (NumberedNode m l r) u b)
  | Left d f ↦ left_part m l r u s b (part_of_subtree l u s b f)
  | Right d z f ↦ right_part m l r u s b (part_of_subtree r u s (right_base (plain_tree l) b) f)
]

-- the number of a node's own place in the order of its tree
own_number : (s : Numbered) (back : List ℕ) → slice_get (numbers s ++ back) (position (plain_tree s) 0)
    ≡ Some (number_of s)
own_number (NumberedLeaf n x) back = refl
own_number (NumberedNode n l r) back =
    let at : position (Node (plain_tree l) (plain_tree r)) 0 ≡ length (numbers l) + 0 =
    omega (arith, length_numbers l) in
    ap (λ xs. slice_get xs (position (Node (plain_tree l) (plain_tree r)) 0))
    (append_assoc (numbers l) (n ∷ numbers r) back)
    ∙ ap (slice_get (numbers l ++ (n ∷ numbers r ++ back))) at
    ∙ slice_get_append (numbers l) (n ∷ numbers r ++ back) 0

-- the root of a part stands at its position
pub part_number : (t : Numbered) (u : ℕ) (s : Numbered) (h : PartAt t u s 0) →
    slice_get (numbers t) (position (plain_tree s) (0 + h.skip)) ≡ Some (number_of s)
part_number t u s h =
    let at : position (plain_tree s) (0 + h.skip) ≡ length h.front + position (plain_tree s) 0 =
    omega (arith, position_from (plain_tree s) (0 + h.skip), h.starts) in
    ap (λ xs. slice_get xs (position (plain_tree s) (0 + h.skip))) h.split
    ∙ ap (slice_get (h.front ++ (numbers s ++ h.back))) at
    ∙ slice_get_append h.front (numbers s ++ h.back) (position (plain_tree s) 0) ∙ own_number s h.back

-- a number that stands below a part stands among its positions
pub part_within : (t : Numbered) → IsNumbered t → (u a : ℕ) (s : Numbered) (h : PartAt t u s 0) (p : ℕ) →
    1 ≤ times a (numbers s) → slice_get (numbers t) p ≡ Some a →
    (0 + h.skip ≤ p) × (p + 1 < (0 + h.skip) + 2 * leaves (plain_tree s))
part_within t v u a s h p has at =
    let i : Place a (numbers s) = place a (numbers s) has in
    let here' : slice_get (numbers s) i.index ≡ Some a =
    slice_get-get_or (numbers s) i.index 0 i.within ∙ ap Some i.is in
    let there : slice_get (numbers t) (length h.front + i.index) ≡ Some a =
    ap (λ xs. slice_get xs (length h.front + i.index)) h.split
    ∙ slice_get_append h.front (numbers s ++ h.back) i.index
    ∙ slice_get_left (numbers s) h.back i.index i.within ∙ here' in
    let same : p ≡ length h.front + i.index =
    one_place (numbers t) a p (length h.front + i.index) (once_numbered t v a) at there in
    let w = i.within in
    (omega (arith, h.starts), omega (arith, h.starts, length_numbers s))

-- an inner node with its children
pub inner_at : (t : Numbered) (u m : ℕ) (l r : Numbered) → subtree t u ≡ Some (NumberedNode m l r) → m ≡ u →
    (b : ℕ) × IsInner t u (plain_tree l) (plain_tree r) b
inner_at t u m l r e k =
    let h : PartAt t u (NumberedNode m l r) 0 = part_of_subtree t u (NumberedNode m l r) 0 e in
    (0 + h.skip, record { part = h.part; number = part_number t u (NumberedNode m l r) h ∙ ap Some k })

-- the children's numbers give an inner node
pub inner_from_children : (t : Numbered) → IsNumbered t → (u a c : ℕ) → Some (a, c) ≡ children_at t u →
    (l : Numbered) × (r : Numbered) × (b : ℕ) × IsInner t u (plain_tree l) (plain_tree r) b
    × (subtree t a ≡ Some l) × (subtree t c ≡ Some r)
inner_from_children t v u a c e =
    let i : InnerPart t u a c = inner_part t v u a c e in
    let h = inner_at t u u i.left i.right i.is refl in
    (i.left, i.right, h.0, h.1, i.left_is, i.right_is)

-- a diagram whose place stands under a node is canonical for that node's subtree
pub under_canonical : (t : Numbered) → IsNumbered t → (u a p : ℕ) (s : Numbered) (d : Diagram) (h : PartAt t u s 0) →
    1 ≤ times a (numbers s) → slice_get (numbers t) p ≡ Some a → HasPosition d p → IsCanonical (plain_tree t) 0 d →
    IsCanonical (plain_tree s) (0 + h.skip) d
under_canonical t v u a p s d h has at stands k =
    let w = part_within t v u a s h p has at in
    canonical_in h.part k stands w.0 w.1

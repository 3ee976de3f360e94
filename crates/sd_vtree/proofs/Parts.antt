-- The subtree with a number.
use Rattle.std.proofs.Common.{◌≡◌, ℕ, ◌≤◌, List, [], Option, None, Some, refl, sym, ◌∙◌, ap, eq-eqb, ne_eqb, inl, inr}
use Rattle.std.proofs.Common.{arith, slice_get}
use Rattle.std.proofs.lemmas.Bool.{cases_eq, cases_lt}
use Rattle.std.proofs.lemmas.Option.{same_Some}
use Rattle.sd_vtree.specs.declared.shape.Shape.{Shape}
use Rattle.sd_vtree.specs.declared.shape.Shape.TheVariants.{Leaf, Inner}
use Rattle.sd_vtree.specs.Numbered.{Numbered, NumberedLeaf, NumberedNode, number_of, numbers, subtree, times}
use Rattle.sd_vtree.specs.Numbered.{child_numbers, leaf_variable, children_at, variable_at}
use Rattle.sd_vtree.specs.Stored.{shape_of, HasShapes}
use Rattle.sd_vtree.proofs.Times.{times_same, times_other, times_node}

-- a number that is not in a tree names no subtree of it
pub subtree_none : (t : Numbered) (n : ℕ) → times n (numbers t) ≡ 0 → subtree t n ≡ None
subtree_none (NumberedLeaf m x) n h = elim (cases_eq m n) [
  | inl e ↦ absurd (omega (arith, times_same n m [] e))
  | inr d ↦ rw (ne_eqb m n d) refl
]
subtree_none (NumberedNode m l r) n h = elim (cases_eq m n) [
  | inl e ↦ absurd (omega (arith, times_node n m (numbers l) (numbers r), times_same n m (numbers r) e))
  | inr d ↦ (let s = times_node n m (numbers l) (numbers r) in let o = times_other n m (numbers r) d in
      rw (ne_eqb m n d, subtree_none l n (omega arith), subtree_none r n (omega arith)) refl)
]

-- a subtree of a child
pub subtree_left : (m : ℕ) (l r : Numbered) (n : ℕ) (s : Numbered) → (m ≡ n → ⊥) → subtree l n ≡ Some s →
    subtree (NumberedNode m l r) n ≡ Some s
subtree_left m l r n s d e = rw (ne_eqb m n d, e) refl

pub subtree_right : (m : ℕ) (l r : Numbered) (n : ℕ) (s : Numbered) → (m ≡ n → ⊥) → times n (numbers l) ≡ 0 →
    subtree r n ≡ Some s →
    subtree (NumberedNode m l r) n ≡ Some s
subtree_right m l r n s d z e = rw (ne_eqb m n d, subtree_none l n z, e) refl

-- the subtree with a number, which the vectors hold too
pub record Found (t : Numbered) (n : ℕ) (nodes : List Shape) : Type 0 where
  pub part : Numbered
  pub is : subtree t n ≡ Some part
  pub number : number_of part ≡ n
  pub stored : HasShapes part nodes

-- a number that is in the tree names a subtree
pub found : (t : Numbered) (n : ℕ) (nodes : List Shape) → HasShapes t nodes → 1 ≤ times n (numbers t) → Found t n nodes
found (NumberedLeaf m x) n nodes st h = elim (cases_eq m n) [
  | inl e ↦ record { part = NumberedLeaf m x; is = rw (eq-eqb m n e) refl; number = e; stored = st }
  | inr d ↦ absurd (omega (arith, times_other n m [] d))
]
found (NumberedNode m l r) n nodes st h = elim (cases_eq m n) [
  | inl e ↦ record { part = NumberedNode m l r; is = rw (eq-eqb m n e) refl; number = e; stored = st }
  | inr d ↦ elim (cases_lt 0 (times n (numbers l))) [
    | inl p ↦ (let f = found l n nodes st.1 (omega arith) in
        record { part = f.part; is = subtree_left m l r n f.part d f.is; number = f.number; stored = f.stored })
    | inr z ↦ (let s = times_node n m (numbers l) (numbers r) in let o = times_other n m (numbers r) d in
        let f = found r n nodes st.2 (omega arith) in
        record {
          part = f.part;
          is = subtree_right m l r n f.part d (omega arith) f.is;
          number = f.number;
          stored = f.stored;
        })
  ]
]

-- a subtree's shape stands at its root's number
pub stored_root : (s : Numbered) (nodes : List Shape) → HasShapes s nodes →
    slice_get nodes (number_of s) ≡ Some (shape_of s)
stored_root (NumberedLeaf n x) nodes st = st
stored_root (NumberedNode n l r) nodes st = st.0

-- the children and the variable that a shape tells
abbrev pub shape_children : Shape → Option (ℕ × ℕ)
shape_children (Leaf x) = None
shape_children (Inner l r) = Some (l, r)

abbrev pub shape_variable : Shape → Option ℕ
shape_variable (Leaf x) = Some x
shape_variable (Inner l r) = None

-- the shape tells the same as the subtree
children_shape_of : (s : Numbered) → child_numbers s ≡ shape_children (shape_of s)
children_shape_of (NumberedLeaf n x) = refl
children_shape_of (NumberedNode n l r) = refl

variable_shape_of : (s : Numbered) → leaf_variable s ≡ shape_variable (shape_of s)
variable_shape_of (NumberedLeaf n x) = refl
variable_shape_of (NumberedNode n l r) = refl

-- the shape at a number is that of the subtree's root
found_shape : (t : Numbered) (n : ℕ) (nodes : List Shape) (f : Found t n nodes) (s : Shape) →
    slice_get nodes n ≡ Some s → shape_of f.part ≡ s
found_shape t n nodes f s e =
    same_Some (shape_of f.part) s (sym (stored_root f.part nodes f.stored) ∙ (ap (λ k. slice_get nodes k) f.number ∙ e))

-- the children and the variable of a node are told by its shape
pub children_at_shape : (t : Numbered) (n : ℕ) (nodes : List Shape) (s : Shape) → HasShapes t nodes →
    1 ≤ times n (numbers t) →
    slice_get nodes n ≡ Some s → children_at t n ≡ shape_children s
children_at_shape t n nodes s st h e =
    let f = found t n nodes st h in
    rw f.is (children_shape_of f.part ∙ ap shape_children (found_shape t n nodes f s e))

pub variable_at_shape : (t : Numbered) (n : ℕ) (nodes : List Shape) (s : Shape) → HasShapes t nodes →
    1 ≤ times n (numbers t) →
    slice_get nodes n ≡ Some s → variable_at t n ≡ shape_variable s
variable_at_shape t n nodes s st h e =
    let f = found t n nodes st h in
    rw f.is (variable_shape_of f.part ∙ ap shape_variable (found_shape t n nodes f s e))

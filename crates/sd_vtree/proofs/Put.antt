-- A tree in which the subtree with a number was moved.
use Rattle.std.proofs.Common.{◌≡◌, ℕ, suc, ◌+◌, ◌≤◌, List, [], ◌∷◌, ◌++◌, Option, None, Some, refl, sym, ◌∙◌, ap, inl}
use Rattle.std.proofs.Common.{inr, arith, append_assoc, length, length-append, eq-eqb, ne_eqb, if◌then◌else◌, slice_get}
use Rattle.std.specs.Option.{option_map}
use Rattle.std.proofs.lemmas.Bool.{cases_eq}
use Rattle.std.proofs.lemmas.List.{append-nil}
use Rattle.std.proofs.lemmas.Option.{same_Some, none-some}
use Rattle.sd_model.specs.declared.trees.Move.{Move}
use Rattle.sd_model.specs.declared.trees.Move.TheVariants.{RotateLeft, RotateRight, Swap}
use Rattle.sd_model.specs.Tree.{variables}
use Rattle.sd_vtree.specs.declared.shape.Shape.{Shape}
use Rattle.sd_vtree.specs.declared.shape.Shape.TheVariants.{Inner}
use Rattle.sd_vtree.specs.Numbered.{Numbered, NumberedLeaf, NumberedNode, number_of, numbers}
use Rattle.sd_vtree.specs.Numbered.{plain_tree, subtree, times}
use Rattle.sd_vtree.specs.NumberedMoves.{moved_top, moved_number}
use Rattle.sd_vtree.specs.Stored.{HasShapes, HasSizes}
use Rattle.sd_vtree.proofs.Times.{times_same, times_other, times_node}
use Rattle.sd_vtree.proofs.Subtrees.{AtMostOnce, once_left, once_right, left_apart, right_apart, Here, Left, Right}
use Rattle.sd_vtree.proofs.Subtrees.{way, subtree_in, subtree_times}

-- the tree with the subtree s at n made s', and what it keeps
pub record Put (kind : Move) (t : Numbered) (n : ℕ) (s s' : Numbered) : Type 0 where
  pub result : Numbered
  pub is : moved_number kind t n ≡ Some result
  pub root : number_of result ≡ number_of t
  pub front : List ℕ
  pub back : List ℕ
  pub split : numbers t ≡ front ++ (numbers s ++ back)
  pub new_split : numbers result ≡ front ++ (numbers s' ++ back)
  pub first : List ℕ
  pub last : List ℕ
  pub leaf_split : variables (plain_tree t) ≡ first ++ (variables (plain_tree s) ++ last)
  pub new_leaf_split : variables (plain_tree result) ≡ first ++ (variables (plain_tree s') ++ last)
  pub stored : (nodes nodes' : List Shape) → HasShapes t nodes → HasShapes s' nodes' →
      ((k : ℕ) → times k (numbers s) ≡ 0 → slice_get nodes' k ≡ slice_get nodes k) → HasShapes result nodes'
  pub sized : (sizes sizes' : List ℕ) → HasSizes t sizes → HasSizes s' sizes' →
      length (numbers s') ≡ length (numbers s) →
      ((k : ℕ) → times k (numbers s) ≡ 0 → slice_get sizes' k ≡ slice_get sizes k) → HasSizes result sizes'

-- a tree is kept where its own nodes are
pub stored_same : (t : Numbered) (nodes nodes' : List Shape) → HasShapes t nodes →
    ((k : ℕ) → 1 ≤ times k (numbers t) → slice_get nodes' k ≡ slice_get nodes k) → HasShapes t nodes'
stored_same (NumberedLeaf m x) nodes nodes' st h = h m (omega (arith, times_same m m [] refl)) ∙ st
stored_same (NumberedNode m l r) nodes nodes' st h = (
  h m (omega (arith, times_node m m (numbers l) (numbers r), times_same m m (numbers r) refl)) ∙ st.0,
  stored_same l nodes nodes' st.1 (λ k p. h k (omega (arith, times_node k m (numbers l) (numbers r)))),
  stored_same r nodes nodes' st.2 (λ k p. h k (omega (arith, times_node k m (numbers l) (numbers r)))),
)

-- and so are the counts of nodes
pub sized_same : (t : Numbered) (sizes sizes' : List ℕ) → HasSizes t sizes →
    ((k : ℕ) → 1 ≤ times k (numbers t) → slice_get sizes' k ≡ slice_get sizes k) → HasSizes t sizes'
sized_same (NumberedLeaf m x) sizes sizes' st h = h m (omega (arith, times_same m m [] refl)) ∙ st
sized_same (NumberedNode m l r) sizes sizes' st h = (
  h m (omega (arith, times_node m m (numbers l) (numbers r), times_same m m (numbers r) refl)) ∙ st.0,
  sized_same l sizes sizes' st.1 (λ k p. h k (omega (arith, times_node k m (numbers l) (numbers r)))),
  sized_same r sizes sizes' st.2 (λ k p. h k (omega (arith, times_node k m (numbers l) (numbers r)))),
)

-- lists that differ in a part of one length have one length
same_length : (xs ys front part part' back : List ℕ) → xs ≡ front ++ (part ++ back) → ys ≡ front ++ (part' ++ back) →
    length part' ≡ length part → length xs ≡ length ys
same_length xs ys front part part' back e f h = omega (
  arith,
  ap length e,
  ap length f,
  length-append front (part ++ back),
  length-append front (part' ++ back),
  length-append part back,
  length-append part' back,
)

-- a number that is not there is not moved
pub moved_none : (kind : Move) (t : Numbered) (n : ℕ) → times n (numbers t) ≡ 0 → moved_number kind t n ≡ None
moved_none kind (NumberedLeaf m x) n h = refl
moved_none kind (NumberedNode m l r) n h = elim (cases_eq m n) [
  | inl e ↦ absurd (omega (arith, times_node n m (numbers l) (numbers r), times_same n m (numbers r) e))
  | inr d ↦ (let s = times_node n m (numbers l) (numbers r) in let o = times_other n m (numbers r) d in
      moved_apart kind m l r n d (moved_none kind l n (omega arith)) (moved_none kind r n (omega arith)))
]
  where
    moved_apart : (kind : Move) (m : ℕ) (l r : Numbered) (n : ℕ) → (m ≡ n → ⊥) → moved_number kind l n ≡ None →
        moved_number kind r n ≡ None →
        moved_number kind (NumberedNode m l r) n ≡ None
    moved_apart kind m l r n d e f = rw (ne_eqb m n d, e, f) refl

-- a move at the root's own number
moved_here : (kind : Move) (m : ℕ) (l r : Numbered) (n : ℕ) → m ≡ n →
    moved_number kind (NumberedNode m l r) n ≡ moved_top kind (NumberedNode m l r)
moved_here kind m l r n e = rw (eq-eqb m n e) refl

-- a move below the left child, and below the right one
moved_left : (kind : Move) (m : ℕ) (l r : Numbered) (n : ℕ) (u : Numbered) → (m ≡ n → ⊥) →
    moved_number kind l n ≡ Some u →
    moved_number kind (NumberedNode m l r) n ≡ Some (NumberedNode m u r)
moved_left kind m l r n u d e = rw (ne_eqb m n d, e) refl

moved_right : (kind : Move) (m : ℕ) (l r : Numbered) (n : ℕ) (o : Option Numbered) → (m ≡ n → ⊥) →
    moved_number kind l n ≡ None → moved_number kind r n ≡ o →
    moved_number kind (NumberedNode m l r) n ≡ option_map (λ t. NumberedNode m l t) o
moved_right kind m l r n o d e f = rw (ne_eqb m n d, e, f) refl

moved_left_none : (kind : Move) (m : ℕ) (l r : Numbered) (n : ℕ) → (m ≡ n → ⊥) → moved_number kind l n ≡ None →
    moved_number kind r n ≡ None →
    moved_number kind (NumberedNode m l r) n ≡ None
moved_left_none kind m l r n d e f = rw (ne_eqb m n d, e, f) refl

pub leaf_fixed : (kind : Move) (m x : ℕ) → moved_top kind (NumberedLeaf m x) ≡ None
leaf_fixed RotateLeft m x = refl
leaf_fixed RotateRight m x = refl
leaf_fixed Swap m x = refl

-- a place that is not movable in its subtree is not movable in the tree
pub put_none : (kind : Move) (t : Numbered) (n : ℕ) (s : Numbered) → AtMostOnce t → subtree t n ≡ Some s →
    moved_top kind s ≡ None → moved_number kind t n ≡ None
put_none kind (NumberedLeaf m x) n s o e f = refl
put_none kind (NumberedNode m l r) n s o e f = elim (way m l r n s e) [
  | Here h g ↦ moved_here kind m l r n h ∙ (ap (moved_top kind) g ∙ f)
  | Left d g ↦ moved_left_none kind m l r n d (put_none kind l n s (once_left m l r o) g f)
      (moved_none kind r n (left_apart m l r o n (subtree_in l n s g)).1)
  | Right d z g ↦ moved_left_none kind m l r n d (moved_none kind l n (right_apart m l r o n (subtree_in r n s g)).1)
      (put_none kind r n s (once_right m l r o) g f)
]

-- the tree after a move of one of its subtrees
pub put : (kind : Move) (t : Numbered) (n : ℕ) (s s' : Numbered) → AtMostOnce t → subtree t n ≡ Some s →
    moved_top kind s ≡ Some s' → number_of s' ≡ number_of s → Put kind t n s s'
put kind (NumberedLeaf m x) n s s' o e f g = elim (cases_eq m n) [
  | inl h ↦ (let k : NumberedLeaf m x ≡ s = same_Some (NumberedLeaf m x) s
      (sym (ap (λ b. if b then Some (NumberedLeaf m x) else None) (eq-eqb m n h)) ∙ e) in
      absurd (none-some s' (sym (leaf_fixed kind m x) ∙ (ap (moved_top kind) k ∙ f))))
  | inr d ↦ absurd (none-some s (sym (ap (λ b. if b then Some (NumberedLeaf m x) else None) (ne_eqb m n d)) ∙ e))
]
put kind (NumberedNode m l r) n s s' o e f g = elim (way m l r n s e) [
  | Here h k ↦ record {
    result = s';
    is = moved_here kind m l r n h ∙ (ap (moved_top kind) k ∙ f);
    root = g ∙ sym (ap number_of k);
    front = [];
    back = [];
    split = ap numbers k ∙ sym (append-nil (numbers s));
    new_split = sym (append-nil (numbers s'));
    first = [];
    last = [];
    leaf_split = ap (λ u. variables (plain_tree u)) k ∙ sym (append-nil (variables (plain_tree s)));
    new_leaf_split = sym (append-nil (variables (plain_tree s')));
    stored = λ nodes nodes' st st' same. st';
    sized = λ sizes sizes' st st' e same. st';
  }
  | Left d k ↦ (let p = put kind l n s s' (once_left m l r o) k f g in
      record {
        result = NumberedNode m p.result r;
        is = moved_left kind m l r n p.result d p.is;
        root = refl;
        front = p.front;
        back = p.back ++ m ∷ numbers r;
        split = ap (λ xs. xs ++ m ∷ numbers r) p.split
            ∙ (append_assoc p.front (numbers s ++ p.back) (m ∷ numbers r)
            ∙ ap (λ xs. p.front ++ xs) (append_assoc (numbers s) p.back (m ∷ numbers r)));
        new_split = ap (λ xs. xs ++ m ∷ numbers r) p.new_split
            ∙ (append_assoc p.front (numbers s' ++ p.back) (m ∷ numbers r)
            ∙ ap (λ xs. p.front ++ xs) (append_assoc (numbers s') p.back (m ∷ numbers r)));
        first = p.first;
        last = p.last ++ variables (plain_tree r);
        leaf_split = ap (λ xs. xs ++ variables (plain_tree r)) p.leaf_split
            ∙ (append_assoc p.first (variables (plain_tree s) ++ p.last) (variables (plain_tree r))
            ∙ ap (λ xs. p.first ++ xs) (append_assoc (variables (plain_tree s)) p.last (variables (plain_tree r))));
        new_leaf_split = ap (λ xs. xs ++ variables (plain_tree r)) p.new_leaf_split
            ∙ (append_assoc p.first (variables (plain_tree s') ++ p.last) (variables (plain_tree r))
            ∙ ap (λ xs. p.first ++ xs) (append_assoc (variables (plain_tree s')) p.last (variables (plain_tree r))));
        stored = λ nodes nodes' st st' same. (
          same m (outside_left m l r s n o k) ∙ (st.0 ∙ ap (λ i. Some (Inner i (number_of r))) (sym p.root)),
          p.stored nodes nodes' st.1 st' same,
          stored_same r nodes nodes' st.2
              (λ i q. same i (let a = right_apart m l r o i q in let b = subtree_times l n s k i in omega arith)),
        );
        sized = λ sizes sizes' st st' h same. (
          same m (outside_left m l r s n o k) ∙ (st.0 ∙ ap Some (length-append (numbers l) (m ∷ numbers r)
              ∙ (ap (λ i. i + length (m ∷ numbers r))
              (same_length (numbers l) (numbers p.result) p.front (numbers s) (numbers s') p.back p.split p.new_split h)
              ∙ sym (length-append (numbers p.result) (m ∷ numbers r))))),
          p.sized sizes sizes' st.1 st' h same,
          sized_same r sizes sizes' st.2
              (λ i q. same i (let a = right_apart m l r o i q in let b = subtree_times l n s k i in omega arith)),
        );
      })
  | Right d z k ↦ (let p = put kind r n s s' (once_right m l r o) k f g in
      record {
        result = NumberedNode m l p.result;
        is = moved_right kind m l r n (Some p.result) d
            (moved_none kind l n (right_apart m l r o n (subtree_in r n s k)).1) p.is;
        root = refl;
        front = numbers l ++ m ∷ p.front;
        back = p.back;
        split = ap (λ xs. numbers l ++ m ∷ xs) p.split
            ∙ sym (append_assoc (numbers l) (m ∷ p.front) (numbers s ++ p.back));
        new_split = ap (λ xs. numbers l ++ m ∷ xs) p.new_split
            ∙ sym (append_assoc (numbers l) (m ∷ p.front) (numbers s' ++ p.back));
        first = variables (plain_tree l) ++ p.first;
        last = p.last;
        leaf_split = ap (λ xs. variables (plain_tree l) ++ xs) p.leaf_split
            ∙ sym (append_assoc (variables (plain_tree l)) p.first (variables (plain_tree s) ++ p.last));
        new_leaf_split = ap (λ xs. variables (plain_tree l) ++ xs) p.new_leaf_split
            ∙ sym (append_assoc (variables (plain_tree l)) p.first (variables (plain_tree s') ++ p.last));
        stored = λ nodes nodes' st st' same. (
          same m (outside_right m l r s n o k) ∙ (st.0 ∙ ap (λ i. Some (Inner (number_of l) i)) (sym p.root)),
          stored_same l nodes nodes' st.1
              (λ i q. same i (let a = left_apart m l r o i q in let b = subtree_times r n s k i in omega arith)),
          p.stored nodes nodes' st.2 st' same,
        );
        sized = λ sizes sizes' st st' h same. (
          same m (outside_right m l r s n o k) ∙ (st.0 ∙ ap Some (length-append (numbers l) (m ∷ numbers r)
              ∙ (ap (λ i. length (numbers l) + suc i)
              (same_length (numbers r) (numbers p.result) p.front (numbers s) (numbers s') p.back p.split p.new_split h)
              ∙ sym (length-append (numbers l) (m ∷ numbers p.result))))),
          sized_same l sizes sizes' st.1
              (λ i q. same i (let a = left_apart m l r o i q in let b = subtree_times r n s k i in omega arith)),
          p.sized sizes sizes' st.2 st' h same,
        );
      })
]
  where
    outside_left : (m : ℕ) (l r s : Numbered) (n : ℕ) → AtMostOnce (NumberedNode m l r) → subtree l n ≡ Some s →
        times m (numbers s) ≡ 0
    outside_left m l r s n o k =
        omega (
          arith,
          o m,
          times_node m m (numbers l) (numbers r),
          times_same m m (numbers r) refl,
          subtree_times l n s k m,
        )

    outside_right : (m : ℕ) (l r s : Numbered) (n : ℕ) → AtMostOnce (NumberedNode m l r) → subtree r n ≡ Some s →
        times m (numbers s) ≡ 0
    outside_right m l r s n o k =
        omega (
          arith,
          o m,
          times_node m m (numbers l) (numbers r),
          times_same m m (numbers r) refl,
          subtree_times r n s k m,
        )

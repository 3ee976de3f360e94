-- The vectors of a new vtree hold it.
use Rattle.std.proofs.Common.{◌≡◌, ◌⊎◌, ℕ, zero, suc, ◌+◌, ◌-◌, ◌*◌, ◌<◌, ◌≤◌, List, [], ◌∷◌, ◌++◌, length, Some}
use Rattle.std.proofs.Common.{refl, sym, ◌∙◌, ap, subst, inl, inr, arith, length-append, append_assoc, slice_get}
use Rattle.std.proofs.Common.{slice_index, set, get_or}
use Rattle.std.specs.List.{range_with_len}
use Rattle.std.proofs.lemmas.Bool.{cases_eq, cases_lt}
use Rattle.std.proofs.lemmas.List.{set_at, append-nil}
use Rattle.std.proofs.lemmas.List.FromFn.{length-range_with_len, get_or-range_with_len}
use Rattle.std.proofs.lemmas.Option.{none-some, same_Some}
use Rattle.sd_model.specs.Tree.{Tree, Leaf, Node, position, right_base, leaves, variables, IsVtree}
use Rattle.sd_vtree.specs.declared.shape.Shape.{Shape}
use Rattle.sd_vtree.specs.declared.shape.Shape.TheVariants.{Leaf as LeafShape, Inner}
use Rattle.sd_vtree.specs.Numbered.{Numbered, NumberedLeaf, NumberedNode, number_of, numbers, plain_tree, times}
use Rattle.sd_vtree.specs.Numbered.{IsNumbered}
use Rattle.sd_vtree.specs.Stored.{HasShapes, HasSizes, HoldsTree, tree_in, tree_below}
use Rattle.sd_vtree.specs.Built.{numbered_from, shapes, tree_sizes}
use Rattle.sd_vtree.proofs.Times.{times_same, times_other, times_append}
use Rattle.sd_vtree.proofs.Pigeons.{has_variable, variable_in_range, times_range_within, times_range_above}
use Rattle.sd_vtree.proofs.Pigeons.{range_append}

-- each tree has a leaf
pub leaves_positive : (t : Tree) → 1 ≤ leaves t
leaves_positive (Leaf x) = omega arith
leaves_positive (Node l r) = omega (arith, leaves_positive l, length-append (variables l) (variables r))

-- the leaves of a node are those of its children
pub leaves_node : (l r : Tree) → leaves (Node l r) ≡ leaves l + leaves r
leaves_node l r = length-append (variables l) (variables r)

-- a tree has one node less than twice its leaves
pub length_shapes : (b : ℕ) (t : Tree) → length (shapes (numbered_from b t)) + 1 ≡ 2 * leaves t
length_shapes b (Leaf x) = omega arith
length_shapes b (Node l r) =
    let p = position (Node l r) b in
    let ls = shapes (numbered_from b l) in
    let rs = shapes (numbered_from (right_base l b) r) in
    let h = Inner (number_of (numbered_from b l)) (number_of (numbered_from (right_base l b) r)) in
    omega (arith, length_shapes b l, length_shapes (right_base l b) r, leaves_node l r, length-append ls (h ∷ rs))

pub number_of_numbered_from : (b : ℕ) (t : Tree) → number_of (numbered_from b t) ≡ position t b
number_of_numbered_from b (Leaf x) = refl
number_of_numbered_from b (Node l r) = refl

-- where the left child's nodes were added
pub length_left : (old mid : List Shape) (l : Tree) → mid ≡ old ++ shapes (numbered_from (length old) l) →
    length mid + 1 ≡ length old + 2 * leaves l
length_left old mid l e =
    omega (arith, ap length e, length-append old (shapes (numbered_from (length old) l)), length_shapes (length old) l)

-- the root's place is filled when both children's nodes were added
pub node_added : (old mid after last : List Shape) (l r : Tree) (h : Shape) →
    mid ≡ old ++ shapes (numbered_from (length old) l) → after ≡ mid ++ h ∷ [] →
    last ≡ after ++ shapes (numbered_from (length after) r) →
    set last (length mid) (Inner (position l (length old)) (position r (length after))) ≡ old ++ shapes
    (numbered_from (length old) (Node l r))
node_added old mid after last l r h e f g =
    let ls = shapes (numbered_from (length old) l) in
    let rs = shapes (numbered_from (length after) r) in
    let v = Inner (position l (length old)) (position r (length after)) in
    let b : length after ≡ right_base l (length old) =
    omega (arith, ap length f, length-append mid (h ∷ []), length_left old mid l e) in
    let k : last ≡ mid ++ h ∷ rs = g ∙ (ap (λ xs. xs ++ rs) f ∙ append_assoc mid (h ∷ []) rs) in
    let s : set last (length mid) v ≡ mid ++ v ∷ rs = ap (λ xs. set xs (length mid) v) k
    ∙ set_at mid h rs v (length mid) refl in
    s ∙ (ap (λ xs. xs ++ v ∷ rs) e ∙ (append_assoc old ls (v ∷ rs) ∙ ap (λ xs. old ++ (ls ++ xs)) (root b)))
  where
    root : length after ≡ right_base l (length old) →
        Inner (position l (length old)) (position r (length after)) ∷ shapes (numbered_from (length after) r) ≡
        Inner (number_of (numbered_from (length old) l))
        (number_of (numbered_from (right_base l (length old)) r)) ∷ shapes
        (numbered_from (right_base l (length old)) r)
    root b =
        ap (λ k. Inner (position l (length old)) (position r k) ∷ shapes (numbered_from k r)) b
        ∙ (ap (λ k. Inner k (position r (right_base l (length old))) ∷ shapes
        (numbered_from (right_base l (length old)) r)) (sym (number_of_numbered_from (length old) l))
        ∙ ap (λ k. Inner (number_of (numbered_from (length old) l)) k ∷ shapes
        (numbered_from (right_base l (length old)) r))
        (sym (number_of_numbered_from (right_base l (length old)) r)))

-- the same by the names that the code has
pub node_added_as : (old mid after last : List Shape) (l r t : Tree) (h : Shape) (i a b : ℕ) → t ≡ Node l r →
    i ≡ length mid →
    a ≡ position l (length old) → b ≡ position r (length after) →
    mid ≡ old ++ shapes (numbered_from (length old) l) → after ≡ mid ++ h ∷ [] →
    last ≡ after ++ shapes (numbered_from (length after) r) →
    set last i (Inner a b) ≡ old ++ shapes (numbered_from (length old) t)
node_added_as old mid after last l r t h i a b et ei ea eb e f g =
    ap (λ k. set last k (Inner a b)) ei
    ∙ (ap (λ k. set last (length mid) (Inner k b)) ea
    ∙ (ap (λ k. set last (length mid) (Inner (position l (length old)) k)) eb
    ∙ (node_added old mid after last l r h e f g
    ∙ ap (λ k. old ++ shapes (numbered_from (length old) k)) (sym et))))

-- where the root stands, and that there is room for the rest
pub root_added : (old mid : List Shape) (l r t : Tree) → t ≡ Node l r →
    mid ≡ old ++ shapes (numbered_from (length old) l) →
    length mid ≡ position t (length old)
root_added old mid l r t et e =
    let m = length_left old mid l e in
    let p : position t (length old) ≡ position (Node l r) (length old) = ap (λ k. position k (length old)) et in
    omega (arith, leaves_positive l)

-- there is room for the right child where there is room for both
pub room_added : (old mid : List Shape) (l r t : Tree) (n : ℕ) → t ≡ Node l r →
    mid ≡ old ++ shapes (numbered_from (length old) l) →
    length old + 2 * leaves t < n → length mid + 1 + 2 * leaves r < n
room_added old mid l r t n et e h =
    let m = length_left old mid l e in
    let p : leaves t ≡ leaves (Node l r) = ap leaves et in
    omega (arith, leaves_node l r)

-- the numbers are forgotten again
pub plain_tree_numbered_from : (b : ℕ) (t : Tree) → plain_tree (numbered_from b t) ≡ t
plain_tree_numbered_from b (Leaf x) = refl
plain_tree_numbered_from b (Node l r) =
    ap (λ k. Node k (plain_tree (numbered_from (right_base l b) r))) (plain_tree_numbered_from b l)
    ∙ ap (λ k. Node l k) (plain_tree_numbered_from (right_base l b) r)

-- the numbers are those from the base on, in order
pub numbers_numbered_from : (b : ℕ) (t : Tree) → numbers (numbered_from b t) ≡ range_with_len b (2 * leaves t - 1)
numbers_numbered_from b (Leaf x) = refl
numbers_numbered_from b (Node l r) =
    let pl = leaves_positive l in
    let pr = leaves_positive r in
    let ls = range_with_len b (2 * leaves l - 1) in
    let p : right_base l b - 1 ≡ b + (2 * leaves l - 1) = omega arith in
    let q : right_base l b ≡ (b + (2 * leaves l - 1)) + 1 = omega arith in
    let k : (2 * leaves l - 1) + suc (2 * leaves r - 1) ≡ 2 * leaves (Node l r) - 1 = omega (arith, leaves_node l r) in
    ap (λ xs. xs ++ (right_base l b - 1) ∷ numbers (numbered_from (right_base l b) r)) (numbers_numbered_from b l)
    ∙ (ap (λ xs. ls ++ (right_base l b - 1) ∷ xs) (numbers_numbered_from (right_base l b) r)
    ∙ (ap (λ n. ls ++ n ∷ range_with_len (right_base l b) (2 * leaves r - 1)) p
    ∙ (ap (λ n. ls ++ (b + (2 * leaves l - 1)) ∷ range_with_len n (2 * leaves r - 1)) q
    ∙ (sym (range_append b (2 * leaves l - 1) (suc (2 * leaves r - 1))) ∙ ap (range_with_len b) k))))

-- what stands after a prefix
slice_get_at : {A : Type 0} (front back : List A) (x : A) (n : ℕ) → n ≡ length front →
    slice_get (front ++ x ∷ back) n ≡ Some x
slice_get_at [] back x n e = ap (λ k. slice_get (x ∷ back) k) e
slice_get_at (y ∷ front) back x n e = ap (λ k. slice_get (y ∷ (front ++ x ∷ back)) k) e
    ∙ slice_get_at front back x (length front) refl

-- the shapes in order hold the tree, wherever they stand
stored_between : (front back : List Shape) (b : ℕ) (t : Tree) → b ≡ length front →
    HasShapes (numbered_from b t) (front ++ (shapes (numbered_from b t) ++ back))
stored_between front back b (Leaf x) e = slice_get_at front back (LeafShape x) b e
stored_between front back b (Node l r) e =
    let lt = numbered_from b l in
    let rt = numbered_from (right_base l b) r in
    let h = Inner (number_of lt) (number_of rt) in
    let pl = leaves_positive l in
    let ll = length_shapes b l in
    let n : right_base l b - 1 ≡ length (front ++ shapes lt) = omega (arith, length-append front (shapes lt)) in
    let m : right_base l b ≡ length ((front ++ shapes lt) ++ h ∷ []) = omega
    (arith, length-append front (shapes lt), length-append (front ++ shapes lt) (h ∷ [])) in
    let whole : front ++ ((shapes lt ++ h ∷ shapes rt) ++ back) ≡ front ++ (shapes lt ++ (h ∷ (shapes rt ++ back))) =
    ap (λ xs. front ++ xs) (append_assoc (shapes lt) (h ∷ shapes rt) back) in
    let half : front ++ (shapes lt ++ (h ∷ (shapes rt ++ back))) ≡ (front ++ shapes lt) ++ (h ∷ (shapes rt ++ back)) =
    sym (append_assoc front (shapes lt) (h ∷ (shapes rt ++ back))) in
    let last : (front ++ shapes lt) ++ (h ∷ (shapes rt ++ back)) ≡ ((front ++ shapes lt) ++ h ∷ []) ++
    (shapes rt ++ back) =
    sym (append_assoc (front ++ shapes lt) (h ∷ []) (shapes rt ++ back)) in (
      subst (λ xs. slice_get xs (right_base l b - 1) ≡ Some h) (sym (whole ∙ half))
          (slice_get_at (front ++ shapes lt) (shapes rt ++ back) h (right_base l b - 1) n),
      subst (λ xs. HasShapes lt xs) (sym whole) (stored_between front (h ∷ (shapes rt ++ back)) b l e),
      subst (λ xs. HasShapes rt xs) (sym (whole ∙ (half ∙ last)))
          (stored_between ((front ++ shapes lt) ++ h ∷ []) back (right_base l b) r m),
    )

-- the shapes alone hold the tree
pub stored_shapes : (t : Tree) → HasShapes (numbered_from 0 t) (shapes (numbered_from 0 t))
stored_shapes t = subst (λ xs. HasShapes (numbered_from 0 t) xs) (append-nil (shapes (numbered_from 0 t)))
    (stored_between [] [] 0 t refl)

-- the counts of a tree's nodes are as many as its nodes
pub length_sizes : (b : ℕ) (t : Tree) → length (tree_sizes t) ≡ length (numbers (numbered_from b t))
length_sizes b (Leaf x) = refl
length_sizes b (Node l r) =
    let ls = tree_sizes l in let rs = tree_sizes r in
    let lt = numbered_from b l in
    let rt = numbered_from (right_base l b) r in
    omega (
      arith,
      length_sizes b l,
      length_sizes (right_base l b) r,
      length-append ls ((length ls + 1 + length rs) ∷ rs),
      length-append (numbers lt) (position (Node l r) b ∷ numbers rt),
    )

-- they are one less than twice its leaves
pub sizes_leaves : (t : Tree) → length (tree_sizes t) + 1 ≡ 2 * leaves t
sizes_leaves (Leaf x) = omega arith
sizes_leaves (Node l r) =
    let ls = tree_sizes l in let rs = tree_sizes r in
    omega (
      arith,
      sizes_leaves l,
      sizes_leaves r,
      leaves_node l r,
      length-append ls ((length ls + 1 + length rs) ∷ rs),
    )

-- the counts in order are kept for the tree, wherever they stand
sizes_between : (front back : List ℕ) (b : ℕ) (t : Tree) → b ≡ length front →
    HasSizes (numbered_from b t) (front ++ (tree_sizes t ++ back))
sizes_between front back b (Leaf x) e = slice_get_at front back 1 b e
sizes_between front back b (Node l r) e =
    let lt = numbered_from b l in
    let rt = numbered_from (right_base l b) r in
    let ls = tree_sizes l in let rs = tree_sizes r in
    let h = length ls + 1 + length rs in
    let pl = leaves_positive l in
    let ll = sizes_leaves l in
    let n : right_base l b - 1 ≡ length (front ++ ls) = omega (arith, length-append front ls) in
    let m : right_base l b ≡ length ((front ++ ls) ++ h ∷ []) = omega
    (arith, length-append front ls, length-append (front ++ ls) (h ∷ [])) in
    let whole : front ++ ((ls ++ h ∷ rs) ++ back) ≡ front ++ (ls ++ (h ∷ (rs ++ back))) =
    ap (λ xs. front ++ xs) (append_assoc ls (h ∷ rs) back) in
    let half : front ++ (ls ++ (h ∷ (rs ++ back))) ≡ (front ++ ls) ++ (h ∷ (rs ++ back)) =
    sym (append_assoc front ls (h ∷ (rs ++ back))) in
    let last : (front ++ ls) ++ (h ∷ (rs ++ back)) ≡ ((front ++ ls) ++ h ∷ []) ++ (rs ++ back) =
    sym (append_assoc (front ++ ls) (h ∷ []) (rs ++ back)) in
    let sum : h ≡ length (numbers lt ++ (right_base l b - 1) ∷ numbers rt) = omega (
      arith,
      length_sizes b l,
      length_sizes (right_base l b) r,
      length-append (numbers lt) ((right_base l b - 1) ∷ numbers rt),
    ) in (
      subst (λ xs. slice_get xs (right_base l b - 1) ≡ Some h) (sym (whole ∙ half))
          (slice_get_at (front ++ ls) (rs ++ back) h (right_base l b - 1) n) ∙ ap Some sum,
      subst (λ xs. HasSizes lt xs) (sym whole) (sizes_between front (h ∷ (rs ++ back)) b l e),
      subst (λ xs. HasSizes rt xs) (sym (whole ∙ (half ∙ last)))
          (sizes_between ((front ++ ls) ++ h ∷ []) back (right_base l b) r m),
    )

-- the counts alone are kept for the tree
pub sized_tree : (t : Tree) (old sizes : List ℕ) → old ≡ [] → sizes ≡ old ++ tree_sizes t →
    HasSizes (numbered_from 0 t) sizes
sized_tree t old sizes n e = subst (λ xs. HasSizes (numbered_from 0 t) xs)
    (append-nil (tree_sizes t) ∙ (ap (λ xs. xs ++ tree_sizes t) (sym n) ∙ sym e))
    (sizes_between [] [] 0 t refl)

-- the root's count is filled in when both children's counts were added
pub sizes_added : (old mid after last : List ℕ) (l r t : Tree) (h i a b : ℕ) → t ≡ Node l r → i ≡ length mid →
    a ≡ length (tree_sizes l) → b ≡ length (tree_sizes r) → mid ≡ old ++ tree_sizes l → after ≡ mid ++ h ∷ [] →
    last ≡ after ++ tree_sizes r → set last i (a + 1 + b) ≡ old ++ tree_sizes t
sizes_added old mid after last l r t h i a b et ei ea eb e f g =
    let ls = tree_sizes l in let rs = tree_sizes r in
    let v = length ls + 1 + length rs in
    let k : last ≡ mid ++ h ∷ rs = g ∙ (ap (λ xs. xs ++ rs) f ∙ append_assoc mid (h ∷ []) rs) in
    let w : a + 1 + b ≡ v = omega arith in
    let s : set last (length mid) v ≡ mid ++ v ∷ rs = ap (λ xs. set xs (length mid) v) k
    ∙ set_at mid h rs v (length mid) refl in
    ap (λ j. set last j (a + 1 + b)) ei
    ∙ (ap (set last (length mid)) w
    ∙ (s ∙ (ap (λ xs. xs ++ v ∷ rs) e ∙ (append_assoc old ls (v ∷ rs) ∙ ap (λ u. old ++ tree_sizes u) (sym et)))))

-- there is room for the count where there is room for the tree
pub room_sizes : (l r t : Tree) (n : ℕ) → t ≡ Node l r → 2 * leaves t < n →
    length (tree_sizes l) + 1 + length (tree_sizes r) < n
room_sizes l r t n et h = omega (arith, ap leaves et, leaves_node l r, sizes_leaves l, sizes_leaves r)

-- a shape of two joined lists stands in one of them
slice_get_cases : (xs ys : List Shape) (k : ℕ) (x : Shape) → slice_get (xs ++ ys) k ≡ Some x →
    (slice_get xs k ≡ Some x) ⊎ ((j : ℕ) × (slice_get ys j ≡ Some x))
slice_get_cases [] ys k x e = inr (k, e)
slice_get_cases (y ∷ xs) ys zero x e = inl e
slice_get_cases (y ∷ xs) ys (suc k) x e = slice_get_cases xs ys k x e

slice_get_left : (xs ys : List Shape) (k : ℕ) (x : Shape) → slice_get xs k ≡ Some x → slice_get (xs ++ ys) k ≡ Some x
slice_get_left [] ys k x e = absurd (none-some x e)
slice_get_left (y ∷ xs) ys zero x e = e
slice_get_left (y ∷ xs) ys (suc k) x e = slice_get_left xs ys k x e

slice_get_right : (xs ys : List Shape) (k : ℕ) (x : Shape) → slice_get ys k ≡ Some x →
    (j : ℕ) × (slice_get (xs ++ ys) j ≡ Some x)
slice_get_right [] ys k x e = (k, e)
slice_get_right (y ∷ xs) ys k x e = let r = slice_get_right xs ys k x e in (suc r.0, r.1)

-- a leaf after an internal node's shape stands among the rest
past_inner : (a b : ℕ) (xs : List Shape) (k x : ℕ) → ((j : ℕ) → slice_get xs j ≡ Some (LeafShape x) → 1 ≤ k) →
    (j : ℕ) → slice_get (Inner a b ∷ xs) j ≡ Some (LeafShape x) → 1 ≤ k
past_inner a b xs k x h zero f = let g : Inner a b ≡ LeafShape x = same_Some (Inner a b) (LeafShape x) f in absurd (cc)
past_inner a b xs k x h (suc j) f = h j f

-- the leaves among the shapes are those of the tree
pub leaf_shape : (t : Numbered) (k x : ℕ) → slice_get (shapes t) k ≡ Some (LeafShape x) →
    1 ≤ times x (variables (plain_tree t))
leaf_shape (NumberedLeaf n y) zero x e = let f : LeafShape y ≡ LeafShape x = same_Some (LeafShape y) (LeafShape x) e in
    let g : y ≡ x = cc in omega (arith, times_same x y [] g)
leaf_shape (NumberedLeaf n y) (suc k) x e = absurd (none-some (LeafShape x) e)
leaf_shape (NumberedNode n l r) k x e =
    let a = times_append x (variables (plain_tree l)) (variables (plain_tree r)) in
    elim (slice_get_cases (shapes l) (Inner (number_of l) (number_of r) ∷ shapes r) k (LeafShape x) e) [
      | inl h ↦ omega (arith, leaf_shape l k x h)
      | inr h ↦ omega (
        arith,
        past_inner (number_of l) (number_of r) (shapes r) (times x (variables (plain_tree r))) x
            (λ j f. leaf_shape r j x f) (h.0) (h.1),
      )
    ]

-- each leaf of the tree is among the shapes
pub has_leaf_shape : (t : Numbered) (x : ℕ) → 1 ≤ times x (variables (plain_tree t)) →
    (k : ℕ) × (slice_get (shapes t) k ≡ Some (LeafShape x))
has_leaf_shape (NumberedLeaf n y) x h = elim (cases_eq y x) [
  | inl e ↦ (0, ap (λ k. Some (LeafShape k)) e)
  | inr d ↦ absurd (omega (arith, times_other x y [] d))
]
has_leaf_shape (NumberedNode n l r) x h = elim (cases_lt 0 (times x (variables (plain_tree l)))) [
  | inl p ↦ (let s = has_leaf_shape l x (omega arith) in
      (s.0, slice_get_left (shapes l) (Inner (number_of l) (number_of r) ∷ shapes r) s.0 (LeafShape x) s.1))
  | inr z ↦ (let s = has_leaf_shape r x
      (omega (arith, times_append x (variables (plain_tree l)) (variables (plain_tree r)))) in
      slice_get_right (shapes l) (Inner (number_of l) (number_of r) ∷ shapes r) (suc s.0) (LeafShape x) s.1)
]

-- the tree is read back from vectors that hold it
pub tree_in_stored : (k : ℕ) (nodes : List Shape) (t : Numbered) → length (numbers t) ≤ k → HasShapes t nodes →
    tree_in k nodes (number_of t) ≡ t
unfolding tree_in
tree_in_stored zero nodes (NumberedLeaf n x) h s = absurd (omega arith)
tree_in_stored zero nodes (NumberedNode n l r) h s = absurd (omega (arith, length-append (numbers l) (n ∷ numbers r)))
tree_in_stored (suc k) nodes (NumberedLeaf n x) h s = ap (λ o. tree_below (tree_in k nodes) n o) s
tree_in_stored (suc k) nodes (NumberedNode n l r) h s =
    let a = length-append (numbers l) (n ∷ numbers r) in
    ap (λ o. tree_below (tree_in k nodes) n o) s.0
    ∙ (ap (λ t. NumberedNode n t (tree_in k nodes (number_of r))) (tree_in_stored k nodes l (omega arith) s.1)
    ∙ ap (λ t. NumberedNode n l t) (tree_in_stored k nodes r (omega arith) s.2))

-- a new tree is numbered
pub built_numbered : (t : Tree) → IsVtree t → leaves t ≤ 1024 → IsNumbered (numbered_from 0 t)
built_numbered t v f =
    let e = numbers_numbered_from 0 t in
    let n : length (numbers (numbered_from 0 t)) ≡ 2 * leaves t - 1 = ap length e
    ∙ length-range_with_len 0 (2 * leaves t - 1) in
    record {
      once = λ m h. ap (times m) e ∙ times_range_within m 0 (2 * leaves t - 1) (omega arith) (omega arith);
      no_other = λ m h. ap (times m) e ∙ times_range_above m 0 (2 * leaves t - 1) (omega arith);
      vtree = subst IsVtree (sym (plain_tree_numbered_from 0 t)) v;
      within_limit = subst (λ u. leaves u ≤ 1024) (sym (plain_tree_numbered_from 0 t)) f;
    }

-- the vectors of a new tree
pub built_kept : (t : Tree) (nodes : List Shape) (positions order leaf_list : List ℕ) → IsVtree t → leaves t ≤ 1024 →
    nodes ≡ shapes (numbered_from 0 t) → positions ≡ range_with_len 0 (length nodes) →
    order ≡ range_with_len 0 (length nodes) →
    length leaf_list ≡ leaves t →
    ((k x : ℕ) → slice_get nodes k ≡ Some (LeafShape x) →
    slice_get nodes (slice_index leaf_list (x - 1)) ≡ Some (LeafShape x)) →
    HoldsTree nodes positions order leaf_list (numbered_from 0 t)
built_kept t nodes positions order leaf_list v f e p o n h =
    let c : length nodes ≡ 2 * leaves t - 1 = omega (arith, ap length e, length_shapes 0 t) in
    let all : numbers (numbered_from 0 t) ≡ range_with_len 0 (2 * leaves t - 1) = numbers_numbered_from 0 t in
    let count : length (numbers (numbered_from 0 t)) ≡ 2 * leaves t - 1 = ap length all
    ∙ length-range_with_len 0 (2 * leaves t - 1) in
    let lc : leaves (plain_tree (numbered_from 0 t)) ≡ leaves t = ap leaves (plain_tree_numbered_from 0 t) in
    record {
      stored = subst (λ xs. HasShapes (numbered_from 0 t) xs) (sym e) (stored_shapes t);
      ordered = o ∙ (ap (range_with_len 0) c ∙ sym all);
      counted = c ∙ sym count;
      placed = ap length p ∙ (length-range_with_len 0 (length nodes) ∙ (c ∙ sym count));
      inverse = λ q w. inverse c all count q w;
      listed = n ∙ sym lc;
      found = λ x w. found x (omega arith);
      valid = built_numbered t v f;
    }
  where
    at : (q : ℕ) → q < 2 * leaves t - 1 → get_or (range_with_len 0 (2 * leaves t - 1)) q 0 ≡ q
    at q w = get_or-range_with_len 0 (2 * leaves t - 1) q 0 w ∙ (let z : 0 + q ≡ q = omega arith in z)

    inverse : length nodes ≡ 2 * leaves t - 1 → numbers (numbered_from 0 t) ≡ range_with_len 0 (2 * leaves t - 1) →
        length (numbers (numbered_from 0 t)) ≡ 2 * leaves t - 1 → (q : ℕ) → q < length (numbers (numbered_from 0 t)) →
        slice_index positions (slice_index (numbers (numbered_from 0 t)) q) ≡ q
    inverse c all count q w =
        ap (λ k. get_or positions k 0) (ap (λ xs. get_or xs q 0) all ∙ at q (omega arith))
        ∙ (ap (λ xs. get_or xs q 0) (p ∙ ap (range_with_len 0) c) ∙ at q (omega arith))

    found : (x : ℕ) → x < leaves t → slice_get nodes (slice_index leaf_list x) ≡ Some (LeafShape (x + 1))
    found x w =
        let s = has_leaf_shape (numbered_from 0 t) (x + 1)
        (subst (λ u. 1 ≤ times (x + 1) (variables u)) (sym (plain_tree_numbered_from 0 t))
        (has_variable t v (x + 1) (omega arith) (omega arith))) in
        let g = h s.0 (x + 1) (subst (λ xs. slice_get xs s.0 ≡ Some (LeafShape (x + 1))) (sym e) s.1) in
        subst (λ k. slice_get nodes (slice_index leaf_list k) ≡ Some (LeafShape (x + 1)))
        (let y : (x + 1) - 1 ≡ x = omega arith in y) g

-- what the leaves among the shapes of a vtree are
pub leaf_in_range : (t : Tree) (nodes : List Shape) → IsVtree t → nodes ≡ shapes (numbered_from 0 t) → (k x : ℕ) →
    slice_get nodes k ≡ Some (LeafShape x) → (1 ≤ x) × (x ≤ leaves t)
leaf_in_range t nodes v e k x h =
    variable_in_range t v x (subst (λ u. 1 ≤ times x (variables u)) (plain_tree_numbered_from 0 t)
    (leaf_shape (numbered_from 0 t) k x (subst (λ xs. slice_get xs k ≡ Some (LeafShape x)) e h)))

-- what was added to no nodes
pub made : (t : Tree) (old nodes : List Shape) → old ≡ [] → nodes ≡ old ++ shapes (numbered_from (length old) t) →
    nodes ≡ shapes (numbered_from 0 t)
made t old nodes n e = e ∙ ap (λ xs. xs ++ shapes (numbered_from (length xs) t)) n

-- the tree that the vectors of a new vtree are seen as
pub view_made : (t : Tree) (nodes : List Shape) (root : ℕ) → nodes ≡ shapes (numbered_from 0 t) → root ≡ position t 0 →
    tree_in (length nodes) nodes root ≡ numbered_from 0 t
view_made t nodes root e r =
    let c : length nodes + 1 ≡ 2 * leaves t = omega (arith, ap length e, length_shapes 0 t) in
    let n : length (numbers (numbered_from 0 t)) ≡ 2 * leaves t - 1 = ap length (numbers_numbered_from 0 t)
    ∙ length-range_with_len 0 (2 * leaves t - 1) in
    ap (tree_in (length nodes) nodes) (r ∙ sym (number_of_numbered_from 0 t))
    ∙ tree_in_stored (length nodes) nodes (numbered_from 0 t) (omega arith)
    (subst (λ xs. HasShapes (numbered_from 0 t) xs) (sym e) (stored_shapes t))

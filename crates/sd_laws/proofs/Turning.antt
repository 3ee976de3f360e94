-- A move of a vtree keeps each inner node but the two that it turns, with its children's variables.
use Rattle.std.proofs.Common.{◌≡◌, ◌≢◌, ◌⊎◌, inl, inr, ℕ, ◌+◌, Bool, true, false, ◌||◌, List, [], ◌∷◌}
use Rattle.std.proofs.Common.{Option, Some, None, refl, sym, ◌∙◌, ap, subst, arith, eq-eqb, ne_eqb, if◌then◌else◌}
use Rattle.std.specs.Option.{option_map, option_and_then}
use Rattle.std.proofs.lemmas.Bool.{cases_eq}
use Rattle.std.proofs.lemmas.Option.{same_Some, none-some}
use Rattle.sd_model.specs.declared.trees.Move.{Move}
use Rattle.sd_model.specs.declared.trees.Move.TheVariants.{RotateLeft, RotateRight, Swap}
use Rattle.sd_model.proofs.Blend.{occurs}
use Rattle.sd_vtree.specs.Numbered.{Numbered, NumberedLeaf, NumberedNode, numbers, plain_tree, subtree, times}
use Rattle.sd_vtree.specs.Numbered.{or_else, child_numbers, IsNumbered}
use Rattle.sd_vtree.proofs.Put.{moved_none}
use Rattle.sd_model.specs.Moves.{inverse_move}
use Rattle.sd_vtree.specs.NumberedMoves.{moved_top, moved_number}
use Rattle.sd_vtree.proofs.Parts.{subtree_left, subtree_right}
use Rattle.sd_vtree.proofs.Times.{times_same, times_other, times_node}
use Rattle.sd_vtree.proofs.Subtrees.{AtMostOnce, once_left, once_right, left_apart, right_apart, Here, Left, Right}
use Rattle.sd_vtree.proofs.Subtrees.{way, subtree_in, subtree_once, subtree_root, subtree_trans, number_of_in}
use Rattle.sd_vtree.proofs.Subtrees.{once_numbered}
use Rattle.sd_laws.specs.Turned.{HasVariablesOf, Stays, KeepsOthers, AreRotated, AreSwapped, lower_of}

-- a rotation or a swap, step by step

-- The vtree t' has at x what the other has there, rotated to the right.
pub data Rotates (x w : ℕ) (a b c : Numbered) : Numbered → Numbered → Type 0 where
  rotates_here : Rotates x w a b c (NumberedNode x (NumberedNode w a b) c) (NumberedNode x a (NumberedNode w b c))
  rotates_left : {m : ℕ} {l k r : Numbered} → m ≢ x → Rotates x w a b c l k →
      Rotates x w a b c (NumberedNode m l r) (NumberedNode m k r)
  rotates_right : {m : ℕ} {l r k : Numbered} → m ≢ x → Rotates x w a b c r k →
      Rotates x w a b c (NumberedNode m l r) (NumberedNode m l k)

-- the vtree t' has at x what the other has there, swapped
pub data Swaps (x : ℕ) (a b : Numbered) : Numbered → Numbered → Type 0 where
  swaps_here : Swaps x a b (NumberedNode x a b) (NumberedNode x b a)
  swaps_left : {m : ℕ} {l k r : Numbered} → m ≢ x → Swaps x a b l k →
      Swaps x a b (NumberedNode m l r) (NumberedNode m k r)
  swaps_right : {m : ℕ} {l r k : Numbered} → m ≢ x → Swaps x a b r k →
      Swaps x a b (NumberedNode m l r) (NumberedNode m l k)

-- the variables

-- a disjunction of three
or_assoc : (p q r : Bool) → ((p || q) || r) ≡ (p || (q || r))
or_assoc true q r = refl
or_assoc false q r = refl

or_turned : (p q : Bool) → (p || q) ≡ (q || p)
or_turned true true = refl
or_turned true false = refl
or_turned false true = refl
or_turned false false = refl

-- a rotation keeps the variables
rotated_variables : (x w : ℕ) (a b c t u : Numbered) → Rotates x w a b c t u
    → HasVariablesOf (plain_tree t) (plain_tree u)
rotated_variables x w a b c t u rotates_here z =
    or_assoc (occurs (plain_tree a) z) (occurs (plain_tree b) z) (occurs (plain_tree c) z)
rotated_variables x w a b c t u (rotates_left {m = m} {l = l} {k = k} {r = r} d h) z =
    ap (λ p. p || occurs (plain_tree r) z) (rotated_variables x w a b c l k h z)
rotated_variables x w a b c t u (rotates_right {m = m} {l = l} {r = r} {k = k} d h) z =
    ap (λ p. occurs (plain_tree l) z || p) (rotated_variables x w a b c r k h z)

-- and so does a swap
swapped_variables : (x : ℕ) (a b t u : Numbered) → Swaps x a b t u → HasVariablesOf (plain_tree t) (plain_tree u)
swapped_variables x a b t u swaps_here z = or_turned (occurs (plain_tree a) z) (occurs (plain_tree b) z)
swapped_variables x a b t u (swaps_left {m = m} {l = l} {k = k} {r = r} d h) z =
    ap (λ p. p || occurs (plain_tree r) z) (swapped_variables x a b l k h z)
swapped_variables x a b t u (swaps_right {m = m} {l = l} {r = r} {k = k} d h) z =
    ap (λ p. occurs (plain_tree l) z || p) (swapped_variables x a b r k h z)

-- the numbers

-- a rotation keeps the numbers: they are counted at the two nodes, and above them child by child
rotated_times : (x w : ℕ) (a b c t u : Numbered) → Rotates x w a b c t u → (k : ℕ) →
    times k (numbers u) ≡ times k (numbers t)
rotated_times x w a b c t u rotates_here k =
    omega (
      arith,
      times_node k x (numbers (NumberedNode w a b)) (numbers c),
      times_node k w (numbers a) (numbers b),
      times_node k x (numbers a) (numbers (NumberedNode w b c)),
      times_node k w (numbers b) (numbers c),
      times_cons k x (numbers c),
      times_cons k w (numbers b),
      times_cons k x (numbers (NumberedNode w b c)),
      times_cons k w (numbers c),
    )
  where
    times_cons : (k m : ℕ) (ms : List ℕ) → times k (m ∷ ms) ≡ times k (m ∷ []) + times k ms
    times_cons k m ms = elim (cases_eq m k) [
      | inl e ↦ omega (arith, times_same k m ms e, times_same k m [] e)
      | inr d ↦ omega (arith, times_other k m ms d, times_other k m [] d)
    ]
rotated_times x w a b c t u (rotates_left {m = m} {l = l} {k = s} {r = r} d h) k =
    omega (
      arith,
      rotated_times x w a b c l s h k,
      times_node k m (numbers l) (numbers r),
      times_node k m (numbers s) (numbers r),
    )
rotated_times x w a b c t u (rotates_right {m = m} {l = l} {r = r} {k = s} d h) k = elim (cases_eq m k) [
  | inl f ↦ omega (
    arith,
    rotated_times x w a b c r s h k,
    times_node k m (numbers l) (numbers r),
    times_node k m (numbers l) (numbers s),
    times_same k m (numbers r) f,
    times_same k m (numbers s) f,
  )
  | inr f ↦ omega (
    arith,
    rotated_times x w a b c r s h k,
    times_node k m (numbers l) (numbers r),
    times_node k m (numbers l) (numbers s),
    times_other k m (numbers r) f,
    times_other k m (numbers s) f,
  )
]

-- and so does a swap
swapped_times : (x : ℕ) (a b t u : Numbered) → Swaps x a b t u → (k : ℕ) → times k (numbers u) ≡ times k (numbers t)
swapped_times x a b t u swaps_here k = elim (cases_eq x k) [
  | inl e ↦ omega (
    arith,
    times_node k x (numbers a) (numbers b),
    times_node k x (numbers b) (numbers a),
    times_same k x (numbers a) e,
    times_same k x (numbers b) e,
  )
  | inr d ↦ omega (
    arith,
    times_node k x (numbers a) (numbers b),
    times_node k x (numbers b) (numbers a),
    times_other k x (numbers a) d,
    times_other k x (numbers b) d,
  )
]
swapped_times x a b t u (swaps_left {m = m} {l = l} {k = s} {r = r} d h) k =
    omega (
      arith,
      swapped_times x a b l s h k,
      times_node k m (numbers l) (numbers r),
      times_node k m (numbers s) (numbers r),
    )
swapped_times x a b t u (swaps_right {m = m} {l = l} {r = r} {k = s} d h) k = elim (cases_eq m k) [
  | inl f ↦ omega (
    arith,
    swapped_times x a b r s h k,
    times_node k m (numbers l) (numbers r),
    times_node k m (numbers l) (numbers s),
    times_same k m (numbers r) f,
    times_same k m (numbers s) f,
  )
  | inr f ↦ omega (
    arith,
    swapped_times x a b r s h k,
    times_node k m (numbers l) (numbers r),
    times_node k m (numbers l) (numbers s),
    times_other k m (numbers r) f,
    times_other k m (numbers s) f,
  )
]

-- the subtrees

-- the children of a node
abbrev left_child : Numbered → Numbered
left_child (NumberedLeaf m x) = NumberedLeaf m x
left_child (NumberedNode m l r) = l

abbrev right_child : Numbered → Numbered
right_child (NumberedLeaf m x) = NumberedLeaf m x
right_child (NumberedNode m l r) = r

-- a node that stays as it is
stays_same : (t : Numbered) (u : ℕ) (l r : Numbered) → subtree t u ≡ Some (NumberedNode u l r) → Stays t u l r
stays_same t u l r e =
    record {
      new_left = l;
      new_right = r;
      at = e;
      same_left = λ z. refl;
      same_right = λ z. refl;
      same_numbers = λ k. refl;
    }

-- a node that stays in a subtree stays in the tree
stays_left : (m : ℕ) (l r : Numbered) (u : ℕ) (a b : Numbered) → (m ≡ u → ⊥) → Stays l u a b →
    Stays (NumberedNode m l r) u a b
stays_left m l r u a b d s =
    record {
      new_left = s.new_left;
      new_right = s.new_right;
      at = subtree_left m l r u (NumberedNode u s.new_left s.new_right) d s.at;
      same_left = s.same_left;
      same_right = s.same_right;
      same_numbers = s.same_numbers;
    }

stays_right : (m : ℕ) (l r : Numbered) (u : ℕ) (a b : Numbered) → (m ≡ u → ⊥) → times u (numbers l) ≡ 0 →
    Stays r u a b → Stays (NumberedNode m l r) u a b
stays_right m l r u a b d z s =
    record {
      new_left = s.new_left;
      new_right = s.new_right;
      at = subtree_right m l r u (NumberedNode u s.new_left s.new_right) d z s.at;
      same_left = s.same_left;
      same_right = s.same_right;
      same_numbers = s.same_numbers;
    }

-- the root of a tree, with children that have the same variables
stays_root : (m : ℕ) (l r a b : Numbered) (u : ℕ) (p q : Numbered) → m ≡ u →
    NumberedNode m l r ≡ NumberedNode u p q → HasVariablesOf (plain_tree l) (plain_tree a) →
    HasVariablesOf (plain_tree r) (plain_tree b) →
    ((k : ℕ) → times k (numbers (NumberedNode m a b)) ≡ times k (numbers (NumberedNode m l r))) →
    Stays (NumberedNode m a b) u p q
stays_root m l r a b u p q e f ha hb hn =
    let el : l ≡ p = ap left_child f in
    let er : r ≡ q = ap right_child f in
    record {
      new_left = a;
      new_right = b;
      at = rw (eq-eqb m u e, e) refl;
      same_left = subst (λ s. HasVariablesOf (plain_tree s) (plain_tree a)) el ha;
      same_right = subst (λ s. HasVariablesOf (plain_tree s) (plain_tree b)) er hb;
      same_numbers = λ k.
          ap (λ z. times k (numbers (NumberedNode z a b))) (sym e) ∙ hn k ∙ ap (λ z. times k (numbers z)) f;
    }

-- three choices
or_else_assoc : (p q r : Option Numbered) → or_else (or_else p q) r ≡ or_else p (or_else q r)
or_else_assoc (Some s) q r = refl
or_else_assoc None q r = refl

-- what is found below three subtrees does not depend on how two of them are joined
three : (x w u : ℕ) (a b c : Numbered) → x ≢ u → w ≢ u →
    subtree (NumberedNode x (NumberedNode w a b) c) u ≡ subtree (NumberedNode x a (NumberedNode w b c)) u
three x w u a b c dx dw =
    rw (ne_eqb x u dx, ne_eqb w u dw) (or_else_assoc (subtree a u) (subtree b u) (subtree c u))

-- a number that is not there stays so
not_there : (k : ℕ) (s t : Numbered) → times k (numbers s) ≡ times k (numbers t) → times k (numbers t) ≡ 0 →
    times k (numbers s) ≡ 0
not_there k s t e z = e ∙ z

-- each other node stays under a rotation
rotated_there : (x w : ℕ) (a b c t u : Numbered) → Rotates x w a b c t u → AtMostOnce t → KeepsOthers t u x w
rotated_there x w a b c t u rotates_here once k l r dx dw e =
    stays_same (NumberedNode x a (NumberedNode w b c)) k l r
    (sym (three x w k a b c (λ z. dx (sym z)) (λ z. dw (sym z))) ∙ e)
rotated_there x w a b c t u (rotates_left {m = m} {l = p} {k = s} {r = q} d h) once k l r dx dw e =
    elim (way m p q k (NumberedNode k l r) e) [
      | Here f g ↦ stays_root m p q s q k l r f g (rotated_variables x w a b c p s h) (λ z. refl)
          (rotated_times x w a b c (NumberedNode m p q) (NumberedNode m s q) (rotates_left d h))
      | Left f g ↦ stays_left m s q k l r f (rotated_there x w a b c p s h (once_left m p q once) k l r dx dw g)
      | Right f z g ↦ stays_right m s q k l r f
          (rotated_times x w a b c p s h k ∙ (right_apart m p q once k (subtree_in q k (NumberedNode k l r) g)).1)
          (stays_same q k l r g)
    ]
rotated_there x w a b c t u (rotates_right {m = m} {l = p} {r = q} {k = s} d h) once k l r dx dw e =
    elim (way m p q k (NumberedNode k l r) e) [
      | Here f g ↦ stays_root m p q p s k l r f g (λ z. refl) (rotated_variables x w a b c q s h)
          (rotated_times x w a b c (NumberedNode m p q) (NumberedNode m p s) (rotates_right d h))
      | Left f g ↦ stays_left m p s k l r f (stays_same p k l r g)
      | Right f z g ↦ stays_right m p s k l r f (right_apart m p q once k (subtree_in q k (NumberedNode k l r) g)).1
          (rotated_there x w a b c q s h (once_right m p q once) k l r dx dw g)
    ]

-- and under the rotation back
rotated_back : (x w : ℕ) (a b c t u : Numbered) → Rotates x w a b c t u → AtMostOnce t → KeepsOthers u t x w
rotated_back x w a b c t u rotates_here once k l r dx dw e =
    stays_same (NumberedNode x (NumberedNode w a b) c) k l r
    (three x w k a b c (λ z. dx (sym z)) (λ z. dw (sym z)) ∙ e)
rotated_back x w a b c t u (rotates_left {m = m} {l = p} {k = s} {r = q} d h) once k l r dx dw e =
    elim (way m s q k (NumberedNode k l r) e) [
      | Here f g ↦ stays_root m s q p q k l r f g (λ z. sym (rotated_variables x w a b c p s h z)) (λ z. refl)
          (λ i. sym (rotated_times x w a b c (NumberedNode m p q) (NumberedNode m s q) (rotates_left d h) i))
      | Left f g ↦ stays_left m p q k l r f (rotated_back x w a b c p s h (once_left m p q once) k l r dx dw g)
      | Right f z g ↦ stays_right m p q k l r f (right_apart m p q once k (subtree_in q k (NumberedNode k l r) g)).1
          (stays_same q k l r g)
    ]
rotated_back x w a b c t u (rotates_right {m = m} {l = p} {r = q} {k = s} d h) once k l r dx dw e =
    elim (way m p s k (NumberedNode k l r) e) [
      | Here f g ↦ stays_root m p s p q k l r f g (λ z. refl) (λ z. sym (rotated_variables x w a b c q s h z))
          (λ i. sym (rotated_times x w a b c (NumberedNode m p q) (NumberedNode m p s) (rotates_right d h) i))
      | Left f g ↦ stays_left m p q k l r f (stays_same p k l r g)
      | Right f z g ↦ stays_right m p q k l r f
          (right_apart m p q once k (let i = subtree_in s k (NumberedNode k l r) g in
          let j = rotated_times x w a b c q s h k in omega (arith, i, j))).1
          (rotated_back x w a b c q s h (once_right m p q once) k l r dx dw g)
    ]

-- each other node stays under a swap
swapped_there : (x : ℕ) (a b t u : Numbered) → Swaps x a b t u → AtMostOnce t → KeepsOthers t u x x
swapped_there x a b t u swaps_here once k l r dx dw e = elim (way x a b k (NumberedNode k l r) e) [
  | Here f g ↦ absurd (dx (sym f))
  | Left f g ↦ stays_right x b a k l r f (left_apart x a b once k (subtree_in a k (NumberedNode k l r) g)).1
      (stays_same a k l r g)
  | Right f z g ↦ stays_left x b a k l r f (stays_same b k l r g)
]
swapped_there x a b t u (swaps_left {m = m} {l = p} {k = s} {r = q} d h) once k l r dx dw e =
    elim (way m p q k (NumberedNode k l r) e) [
      | Here f g ↦ stays_root m p q s q k l r f g (swapped_variables x a b p s h) (λ z. refl)
          (swapped_times x a b (NumberedNode m p q) (NumberedNode m s q) (swaps_left d h))
      | Left f g ↦ stays_left m s q k l r f (swapped_there x a b p s h (once_left m p q once) k l r dx dw g)
      | Right f z g ↦ stays_right m s q k l r f
          (swapped_times x a b p s h k ∙ (right_apart m p q once k (subtree_in q k (NumberedNode k l r) g)).1)
          (stays_same q k l r g)
    ]
swapped_there x a b t u (swaps_right {m = m} {l = p} {r = q} {k = s} d h) once k l r dx dw e =
    elim (way m p q k (NumberedNode k l r) e) [
      | Here f g ↦ stays_root m p q p s k l r f g (λ z. refl) (swapped_variables x a b q s h)
          (swapped_times x a b (NumberedNode m p q) (NumberedNode m p s) (swaps_right d h))
      | Left f g ↦ stays_left m p s k l r f (stays_same p k l r g)
      | Right f z g ↦ stays_right m p s k l r f (right_apart m p q once k (subtree_in q k (NumberedNode k l r) g)).1
          (swapped_there x a b q s h (once_right m p q once) k l r dx dw g)
    ]

-- a swap is undone by a swap
swapped_back : (x : ℕ) (a b t u : Numbered) → Swaps x a b t u → Swaps x b a u t
swapped_back x a b t u swaps_here = swaps_here
swapped_back x a b t u (swaps_left {m = m} {l = l} {k = k} {r = r} d h) = swaps_left d (swapped_back x a b l k h)
swapped_back x a b t u (swaps_right {m = m} {l = l} {r = r} {k = k} d h) = swaps_right d (swapped_back x a b r k h)

-- what is at the node and below it

-- the node of a rotation, in both trees
record AtRotation (x w : ℕ) (a b c t u : Numbered) : Type 0 where
  pub first_upper : subtree t x ≡ Some (NumberedNode x (NumberedNode w a b) c)
  pub second_upper : subtree u x ≡ Some (NumberedNode x a (NumberedNode w b c))

-- it is there
at_rotation : (x w : ℕ) (a b c t u : Numbered) → Rotates x w a b c t u → AtMostOnce t → AtRotation x w a b c t u
at_rotation x w a b c t u rotates_here once =
    record { first_upper = rw (eq-eqb x x refl) refl; second_upper = rw (eq-eqb x x refl) refl }
at_rotation x w a b c t u (rotates_left {m = m} {l = p} {k = s} {r = q} d h) once =
    let i : AtRotation x w a b c p s = at_rotation x w a b c p s h (once_left m p q once) in
    record {
      first_upper = subtree_left m p q x (NumberedNode x (NumberedNode w a b) c) d i.first_upper;
      second_upper = subtree_left m s q x (NumberedNode x a (NumberedNode w b c)) d i.second_upper;
    }
at_rotation x w a b c t u (rotates_right {m = m} {l = p} {r = q} {k = s} d h) once =
    let i : AtRotation x w a b c q s = at_rotation x w a b c q s h (once_right m p q once) in
    let z : times x (numbers p) ≡ 0 =
    (right_apart m p q once x (subtree_in q x (NumberedNode x (NumberedNode w a b) c) i.first_upper)).1 in
    record {
      first_upper = subtree_right m p q x (NumberedNode x (NumberedNode w a b) c) d z i.first_upper;
      second_upper = subtree_right m p s x (NumberedNode x a (NumberedNode w b c)) d z i.second_upper;
    }

-- the node of a swap is there
at_swap : (x : ℕ) (a b t u : Numbered) → Swaps x a b t u → AtMostOnce t →
    (subtree t x ≡ Some (NumberedNode x a b)) × (subtree u x ≡ Some (NumberedNode x b a))
at_swap x a b t u swaps_here once = (rw (eq-eqb x x refl) refl, rw (eq-eqb x x refl) refl)
at_swap x a b t u (swaps_left {m = m} {l = p} {k = s} {r = q} d h) once =
    let i = at_swap x a b p s h (once_left m p q once) in
    (subtree_left m p q x (NumberedNode x a b) d i.0, subtree_left m s q x (NumberedNode x b a) d i.1)
at_swap x a b t u (swaps_right {m = m} {l = p} {r = q} {k = s} d h) once =
    let i = at_swap x a b q s h (once_right m p q once) in
    let z : times x (numbers p) ≡ 0 =
    (right_apart m p q once x (subtree_in q x (NumberedNode x a b) i.0)).1 in
    (subtree_right m p q x (NumberedNode x a b) d z i.0, subtree_right m p s x (NumberedNode x b a) d z i.1)

-- from the move

-- what a move of a node below a root does
record MovedBelow (kind : Move) (m : ℕ) (l r : Numbered) (x : ℕ) (u : Numbered) : Type 0 where
  pub is : ((k : Numbered) × (moved_number kind l x ≡ Some k) × (NumberedNode m k r ≡ u))
      ⊎ ((k : Numbered) × (moved_number kind r x ≡ Some k) × (NumberedNode m l k ≡ u))

-- it moves one child
moved_below : (kind : Move) (m : ℕ) (l r : Numbered) (x : ℕ) (u : Numbered) → (m ≡ x → ⊥) →
    moved_number kind (NumberedNode m l r) x ≡ Some u → MovedBelow kind m l r x u
moved_below kind m l r x u d e =
    record {
      is = go (moved_number kind l x) (moved_number kind r x)
          (sym (ap (λ b. if b then moved_top kind (NumberedNode m l r)
          else or_else (option_map (λ t. NumberedNode m t r) (moved_number kind l x))
          (option_map (λ t. NumberedNode m l t) (moved_number kind r x))) (ne_eqb m x d))
          ∙ e);
    }
  where
    go : (o q : Option Numbered) →
        or_else (option_map (λ t. NumberedNode m t r) o) (option_map (λ t. NumberedNode m l t) q) ≡ Some u →
        ((k : Numbered) × (o ≡ Some k) × (NumberedNode m k r ≡ u))
        ⊎ ((k : Numbered) × (q ≡ Some k) × (NumberedNode m l k ≡ u))
    go (Some k) q f = inl (k, refl, same_Some (NumberedNode m k r) u f)
    go None (Some k) f = inr (k, refl, same_Some (NumberedNode m l k) u f)
    go None None f = absurd (none-some u f)

-- the move at the root
moved_here : (kind : Move) (m : ℕ) (l r : Numbered) (x : ℕ) (u : Numbered) → m ≡ x →
    moved_number kind (NumberedNode m l r) x ≡ Some u → moved_top kind (NumberedNode m l r) ≡ Some u
moved_here kind m l r x u h e =
    sym (ap (λ b. if b then moved_top kind (NumberedNode m l r)
    else or_else (option_map (λ t. NumberedNode m t r) (moved_number kind l x))
    (option_map (λ t. NumberedNode m l t) (moved_number kind r x))) (eq-eqb m x h))
    ∙ e

-- a rotation of a vtree, with its subtrees
pub record Rotation (x : ℕ) (t u : Numbered) : Type 0 where
  pub lower : ℕ
  pub a : Numbered
  pub b : Numbered
  pub c : Numbered
  pub is : Rotates x lower a b c t u

-- a swap of a vtree, with its subtrees
pub record Swapping (x : ℕ) (t u : Numbered) : Type 0 where
  pub a : Numbered
  pub b : Numbered
  pub is : Swaps x a b t u

-- the right rotation is one
right_rotation : (t u : Numbered) (x : ℕ) → moved_number RotateRight t x ≡ Some u → Rotation x t u
right_rotation (NumberedLeaf m y) u x e = absurd (none-some u e)
right_rotation (NumberedNode m l r) u x e = elim (cases_eq m x) [
  | inl h ↦ top l h (moved_here RotateRight m l r x u h e)
  | inr d ↦
      under (λ k f. right_rotation l k x f) (λ k f. right_rotation r k x f) d
      (moved_below RotateRight m l r x u d e).is
]
  where
    top : (l : Numbered) → m ≡ x → moved_top RotateRight (NumberedNode m l r) ≡ Some u →
        Rotation x (NumberedNode m l r) u
    top (NumberedLeaf w y) h f = absurd (none-some u f)
    top (NumberedNode w a b) h f =
        let g : NumberedNode m a (NumberedNode w b r) ≡ u = same_Some (NumberedNode m a (NumberedNode w b r)) u f in
        record {
          lower = w;
          a = a;
          b = b;
          c = r;
          is = subst (λ z. Rotates x w a b r (NumberedNode m (NumberedNode w a b) r) z) g
              (subst
              (λ z. Rotates z w a b r (NumberedNode m (NumberedNode w a b) r) (NumberedNode m a (NumberedNode w b r)))
              h rotates_here);
        }

    under : ((k : Numbered) → moved_number RotateRight l x ≡ Some k → Rotation x l k) →
        ((k : Numbered) → moved_number RotateRight r x ≡ Some k → Rotation x r k) → (m ≡ x → ⊥) →
        ((k : Numbered) × (moved_number RotateRight l x ≡ Some k) × (NumberedNode m k r ≡ u))
        ⊎ ((k : Numbered) × (moved_number RotateRight r x ≡ Some k) × (NumberedNode m l k ≡ u)) →
        Rotation x (NumberedNode m l r) u
    under il ir d (inl k) =
        let i : Rotation x l k.0 = il k.0 k.1 in
        record {
          lower = i.lower;
          a = i.a;
          b = i.b;
          c = i.c;
          is = subst (Rotates x i.lower i.a i.b i.c (NumberedNode m l r)) k.2 (rotates_left d i.is);
        }
    under il ir d (inr k) =
        let i : Rotation x r k.0 = ir k.0 k.1 in
        record {
          lower = i.lower;
          a = i.a;
          b = i.b;
          c = i.c;
          is = subst (Rotates x i.lower i.a i.b i.c (NumberedNode m l r)) k.2 (rotates_right d i.is);
        }

-- and the left rotation is one the other way round
left_rotation : (t u : Numbered) (x : ℕ) → moved_number RotateLeft t x ≡ Some u → Rotation x u t
left_rotation (NumberedLeaf m y) u x e = absurd (none-some u e)
left_rotation (NumberedNode m l r) u x e = elim (cases_eq m x) [
  | inl h ↦ top r h (moved_here RotateLeft m l r x u h e)
  | inr d ↦
      under (λ k f. left_rotation l k x f) (λ k f. left_rotation r k x f) d
      (moved_below RotateLeft m l r x u d e).is
]
  where
    top : (r : Numbered) → m ≡ x → moved_top RotateLeft (NumberedNode m l r) ≡ Some u →
        Rotation x u (NumberedNode m l r)
    top (NumberedLeaf w y) h f = absurd (none-some u f)
    top (NumberedNode w b c) h f =
        let g : NumberedNode m (NumberedNode w l b) c ≡ u = same_Some (NumberedNode m (NumberedNode w l b) c) u f in
        record {
          lower = w;
          a = l;
          b = b;
          c = c;
          is = subst (λ z. Rotates x w l b c z (NumberedNode m l (NumberedNode w b c))) g
              (subst
              (λ z. Rotates z w l b c (NumberedNode m (NumberedNode w l b) c) (NumberedNode m l (NumberedNode w b c)))
              h rotates_here);
        }

    under : ((k : Numbered) → moved_number RotateLeft l x ≡ Some k → Rotation x k l) →
        ((k : Numbered) → moved_number RotateLeft r x ≡ Some k → Rotation x k r) → (m ≡ x → ⊥) →
        ((k : Numbered) × (moved_number RotateLeft l x ≡ Some k) × (NumberedNode m k r ≡ u))
        ⊎ ((k : Numbered) × (moved_number RotateLeft r x ≡ Some k) × (NumberedNode m l k ≡ u)) →
        Rotation x u (NumberedNode m l r)
    under il ir d (inl k) =
        let i : Rotation x k.0 l = il k.0 k.1 in
        record {
          lower = i.lower;
          a = i.a;
          b = i.b;
          c = i.c;
          is = subst (λ z. Rotates x i.lower i.a i.b i.c z (NumberedNode m l r)) k.2 (rotates_left d i.is);
        }
    under il ir d (inr k) =
        let i : Rotation x k.0 r = ir k.0 k.1 in
        record {
          lower = i.lower;
          a = i.a;
          b = i.b;
          c = i.c;
          is = subst (λ z. Rotates x i.lower i.a i.b i.c z (NumberedNode m l r)) k.2 (rotates_right d i.is);
        }

-- a swap
swapping : (t u : Numbered) (x : ℕ) → moved_number Swap t x ≡ Some u → Swapping x t u
swapping (NumberedLeaf m y) u x e = absurd (none-some u e)
swapping (NumberedNode m l r) u x e = elim (cases_eq m x) [
  | inl h ↦
      let g : NumberedNode m r l ≡ u = same_Some (NumberedNode m r l) u (moved_here Swap m l r x u h e) in
      record {
        a = l;
        b = r;
        is = subst (λ z. Swaps x l r (NumberedNode m l r) z) g
            (subst (λ z. Swaps z l r (NumberedNode m l r) (NumberedNode m r l)) h swaps_here);
      }
  | inr d ↦ under (λ k f. swapping l k x f) (λ k f. swapping r k x f) d (moved_below Swap m l r x u d e).is
]
  where
    under : ((k : Numbered) → moved_number Swap l x ≡ Some k → Swapping x l k) →
        ((k : Numbered) → moved_number Swap r x ≡ Some k → Swapping x r k) → (m ≡ x → ⊥) →
        ((k : Numbered) × (moved_number Swap l x ≡ Some k) × (NumberedNode m k r ≡ u))
        ⊎ ((k : Numbered) × (moved_number Swap r x ≡ Some k) × (NumberedNode m l k ≡ u)) →
        Swapping x (NumberedNode m l r) u
    under il ir d (inl k) =
        let i : Swapping x l k.0 = il k.0 k.1 in
        record { a = i.a; b = i.b; is = subst (Swaps x i.a i.b (NumberedNode m l r)) k.2 (swaps_left d i.is) }
    under il ir d (inr k) =
        let i : Swapping x r k.0 = ir k.0 k.1 in
        record { a = i.a; b = i.b; is = subst (Swaps x i.a i.b (NumberedNode m l r)) k.2 (swaps_right d i.is) }

-- a moved vtree has no number twice either
once_rotated : (x w : ℕ) (a b c t u : Numbered) → Rotates x w a b c t u → AtMostOnce t → AtMostOnce u
once_rotated x w a b c t u h once k = omega (arith, once k, rotated_times x w a b c t u h k)

once_back : (x w : ℕ) (a b c t u : Numbered) → Rotates x w a b c t u → AtMostOnce u → AtMostOnce t
once_back x w a b c t u h once k = omega (arith, once k, rotated_times x w a b c t u h k)

-- the lower node, below the upper one's left or right side
lower_left : (t : Numbered) → AtMostOnce t → (x w : ℕ) (a b c : Numbered) →
    subtree t x ≡ Some (NumberedNode x (NumberedNode w a b) c) → subtree t w ≡ Some (NumberedNode w a b)
lower_left t once x w a b c e =
    let s = NumberedNode x (NumberedNode w a b) c in
    let o : AtMostOnce s = subtree_once t x s once e in
    let d : x ≡ w → ⊥ = (left_apart x (NumberedNode w a b) c o w (number_of_in (NumberedNode w a b))).0 in
    subtree_trans t once x s e w (NumberedNode w a b)
    (subtree_left x (NumberedNode w a b) c w (NumberedNode w a b) d (subtree_root (NumberedNode w a b)))

lower_right : (t : Numbered) → AtMostOnce t → (x w : ℕ) (a b c : Numbered) →
    subtree t x ≡ Some (NumberedNode x a (NumberedNode w b c)) → subtree t w ≡ Some (NumberedNode w b c)
lower_right t once x w a b c e =
    let s = NumberedNode x a (NumberedNode w b c) in
    let o : AtMostOnce s = subtree_once t x s once e in
    let d = right_apart x a (NumberedNode w b c) o w (number_of_in (NumberedNode w b c)) in
    subtree_trans t once x s e w (NumberedNode w b c)
    (subtree_right x a (NumberedNode w b c) w (NumberedNode w b c) d.0 d.1 (subtree_root (NumberedNode w b c)))

-- what a rotation keeps
are_rotated : (t u : Numbered) (x : ℕ) → (h : Rotation x t u) → AtMostOnce t → AtMostOnce u → AreRotated t u x h.lower
are_rotated t u x h once twice =
    let i : AtRotation x h.lower h.a h.b h.c t u = at_rotation x h.lower h.a h.b h.c t u h.is once in
    record {
      a = h.a;
      b = h.b;
      c = h.c;
      first_upper = i.first_upper;
      first_lower = lower_left t once x h.lower h.a h.b h.c i.first_upper;
      second_upper = i.second_upper;
      second_lower = lower_right u twice x h.lower h.a h.b h.c i.second_upper;
      there = rotated_there x h.lower h.a h.b h.c t u h.is once;
      back = rotated_back x h.lower h.a h.b h.c t u h.is once;
    }

-- no number stands twice in a vtree
at_most_once : (t : Numbered) → IsNumbered t → AtMostOnce t
at_most_once t v n = once_numbered t v n

-- what a right rotation keeps
pub turned_right : (t u : Numbered) (x : ℕ) → IsNumbered t → moved_number RotateRight t x ≡ Some u →
    (w : ℕ) × AreRotated t u x w
turned_right t u x v e =
    let h : Rotation x t u = right_rotation t u x e in
    let once : AtMostOnce t = at_most_once t v in
    (h.lower, are_rotated t u x h once (once_rotated x h.lower h.a h.b h.c t u h.is once))

-- what a left rotation keeps
pub turned_left : (t u : Numbered) (x : ℕ) → IsNumbered t → moved_number RotateLeft t x ≡ Some u →
    (w : ℕ) × AreRotated u t x w
turned_left t u x v e =
    let h : Rotation x u t = left_rotation t u x e in
    let once : AtMostOnce t = at_most_once t v in
    (h.lower, are_rotated u t x h (once_back x h.lower h.a h.b h.c u t h.is once) once)

-- what a swap keeps
pub turned_swap : (t u : Numbered) (x : ℕ) → IsNumbered t → moved_number Swap t x ≡ Some u → AreSwapped t u x
turned_swap t u x v e =
    let h : Swapping x t u = swapping t u x e in
    let once : AtMostOnce t = at_most_once t v in
    let twice : AtMostOnce u = λ k. let s = swapped_times x h.a h.b t u h.is k in omega (arith, once k, s) in
    let i = at_swap x h.a h.b t u h.is once in
    record {
      a = h.a;
      b = h.b;
      first_upper = i.0;
      second_upper = i.1;
      there = swapped_there x h.a h.b t u h.is once;
      back = swapped_there x h.b h.a u t (swapped_back x h.a h.b t u h.is) twice;
    }

-- the move back

-- a rotation is the right rotation of the one vtree
rotated_forth : (x w : ℕ) (a b c t u : Numbered) → Rotates x w a b c t u → AtMostOnce t →
    moved_number RotateRight t x ≡ Some u
rotated_forth x w a b c t u rotates_here once = rw (eq-eqb x x refl) refl
rotated_forth x w a b c t u (rotates_left {m = m} {l = p} {k = s} {r = q} d h) once =
    rw (ne_eqb m x d, rotated_forth x w a b c p s h (once_left m p q once)) refl
rotated_forth x w a b c t u (rotates_right {m = m} {l = p} {r = q} {k = s} d h) once =
    let i : AtRotation x w a b c q s = at_rotation x w a b c q s h (once_right m p q once) in
    let z : times x (numbers p) ≡ 0 =
    (right_apart m p q once x (subtree_in q x (NumberedNode x (NumberedNode w a b) c) i.first_upper)).1 in
    rw (ne_eqb m x d, moved_none RotateRight p x z, rotated_forth x w a b c q s h (once_right m p q once)) refl

-- and the left rotation of the other
rotated_left : (x w : ℕ) (a b c t u : Numbered) → Rotates x w a b c t u → AtMostOnce t →
    moved_number RotateLeft u x ≡ Some t
rotated_left x w a b c t u rotates_here once = rw (eq-eqb x x refl) refl
rotated_left x w a b c t u (rotates_left {m = m} {l = p} {k = s} {r = q} d h) once =
    rw (ne_eqb m x d, rotated_left x w a b c p s h (once_left m p q once)) refl
rotated_left x w a b c t u (rotates_right {m = m} {l = p} {r = q} {k = s} d h) once =
    let i : AtRotation x w a b c q s = at_rotation x w a b c q s h (once_right m p q once) in
    let z : times x (numbers p) ≡ 0 =
    (right_apart m p q once x (subtree_in q x (NumberedNode x (NumberedNode w a b) c) i.first_upper)).1 in
    rw (ne_eqb m x d, moved_none RotateLeft p x z, rotated_left x w a b c q s h (once_right m p q once)) refl

-- a swap is a swap
swapped_forth : (x : ℕ) (a b t u : Numbered) → Swaps x a b t u → AtMostOnce t → moved_number Swap t x ≡ Some u
swapped_forth x a b t u swaps_here once = rw (eq-eqb x x refl) refl
swapped_forth x a b t u (swaps_left {m = m} {l = p} {k = s} {r = q} d h) once =
    rw (ne_eqb m x d, swapped_forth x a b p s h (once_left m p q once)) refl
swapped_forth x a b t u (swaps_right {m = m} {l = p} {r = q} {k = s} d h) once =
    let i = at_swap x a b q s h (once_right m p q once) in
    let z : times x (numbers p) ≡ 0 =
    (right_apart m p q once x (subtree_in q x (NumberedNode x a b) i.0)).1 in
    rw (ne_eqb m x d, moved_none Swap p x z, swapped_forth x a b q s h (once_right m p q once)) refl

-- the inverse move leads back
pub inverse_numbered : (kind : Move) (t u : Numbered) (x : ℕ) → IsNumbered t → moved_number kind t x ≡ Some u →
    moved_number (inverse_move kind) u x ≡ Some t
inverse_numbered RotateRight t u x v e =
    let h : Rotation x t u = right_rotation t u x e in
    rotated_left x h.lower h.a h.b h.c t u h.is (at_most_once t v)
inverse_numbered RotateLeft t u x v e =
    let h : Rotation x u t = left_rotation t u x e in
    rotated_forth x h.lower h.a h.b h.c u t h.is (once_back x h.lower h.a h.b h.c u t h.is (at_most_once t v))
inverse_numbered Swap t u x v e =
    let h : Swapping x t u = swapping t u x e in
    let once : AtMostOnce t = at_most_once t v in
    let twice : AtMostOnce u = λ k. let s = swapped_times x h.a h.b t u h.is k in omega (arith, once k, s) in
    swapped_forth x h.b h.a u t (swapped_back x h.a h.b t u h.is) twice

-- the lower node is the same for both rotations
pub lower_rotated : (t u : Numbered) (x w : ℕ) → AreRotated t u x w →
    (lower_of RotateRight t x ≡ Some w) × (lower_of RotateLeft u x ≡ Some w)
lower_rotated t u x w h = (
  ap (λ o. option_map (λ (c : ℕ × ℕ). c.0) (option_and_then child_numbers o)) h.first_upper,
  ap (λ o. option_map (λ (c : ℕ × ℕ). c.1) (option_and_then child_numbers o)) h.second_upper,
)

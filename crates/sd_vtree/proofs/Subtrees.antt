-- Subtrees of subtrees, where no number stands twice.
use Rattle.std.proofs.Common.{◌≡◌, ℕ, ◌<◌, ◌≤◌, List, [], ◌∷◌, ◌++◌, length, Option, None, Some, refl, sym, ◌∙◌, ap}
use Rattle.std.proofs.Common.{subst, eq-eqb, ne_eqb, inl, inr, arith, if◌then◌else◌, option_and_then, length-append}
use Rattle.std.proofs.Common.{append_assoc}
use Rattle.std.proofs.lemmas.Bool.{cases_eq, cases_lt}
use Rattle.std.proofs.lemmas.List.{append-nil}
use Rattle.std.proofs.lemmas.Option.{same_Some, none-some, some_pair_parts}
use Rattle.sd_vtree.specs.Numbered.{Numbered, NumberedLeaf, NumberedNode, number_of, numbers, subtree, or_else, times}
use Rattle.sd_vtree.specs.Numbered.{children_at, child_numbers, IsNumbered}
use Rattle.sd_vtree.proofs.Times.{times_same, times_other, times_node}
use Rattle.sd_vtree.proofs.Parts.{subtree_none, subtree_left, subtree_right}

-- no number stands twice in the tree
abbrev pub AtMostOnce : Numbered → Type 0
AtMostOnce t = (n : ℕ) → times n (numbers t) ≤ 1

-- nor does one stand twice below a child
pub once_left : (m : ℕ) (l r : Numbered) → AtMostOnce (NumberedNode m l r) → AtMostOnce l
once_left m l r o n = omega (arith, o n, times_node n m (numbers l) (numbers r))

pub once_right : (m : ℕ) (l r : Numbered) → AtMostOnce (NumberedNode m l r) → AtMostOnce r
once_right m l r o n = elim (cases_eq m n) [
  | inl e ↦ omega (arith, o n, times_node n m (numbers l) (numbers r), times_same n m (numbers r) e)
  | inr d ↦ omega (arith, o n, times_node n m (numbers l) (numbers r), times_other n m (numbers r) d)
]

-- a number below the left child is neither the root's nor below the right child
pub left_apart : (m : ℕ) (l r : Numbered) → AtMostOnce (NumberedNode m l r) → (n : ℕ) → 1 ≤ times n (numbers l) →
    (m ≡ n → ⊥) × (times n (numbers r) ≡ 0)
left_apart m l r o n h =
    let d : m ≡ n → ⊥ = λ e. omega (arith, o n, times_node n m (numbers l) (numbers r), times_same n m (numbers r) e) in
    (d, omega (arith, o n, times_node n m (numbers l) (numbers r), times_other n m (numbers r) d))

pub right_apart : (m : ℕ) (l r : Numbered) → AtMostOnce (NumberedNode m l r) → (n : ℕ) → 1 ≤ times n (numbers r) →
    (m ≡ n → ⊥) × (times n (numbers l) ≡ 0)
right_apart m l r o n h =
    let d : m ≡ n → ⊥ = λ e. omega (arith, o n, times_node n m (numbers l) (numbers r), times_same n m (numbers r) e) in
    (d, omega (arith, o n, times_node n m (numbers l) (numbers r), times_other n m (numbers r) d))

-- a tree has its root's number
pub number_of_in : (t : Numbered) → 1 ≤ times (number_of t) (numbers t)
number_of_in (NumberedLeaf m x) = omega (arith, times_same m m [] refl)
number_of_in (NumberedNode m l r) = omega
    (arith, times_node m m (numbers l) (numbers r), times_same m m (numbers r) refl)

-- the root's number names the whole tree
pub subtree_root : (t : Numbered) → subtree t (number_of t) ≡ Some t
subtree_root (NumberedLeaf m x) = rw (eq-eqb m m refl) refl
subtree_root (NumberedNode m l r) = rw (eq-eqb m m refl) refl

-- a number that names a subtree is in the tree
pub subtree_in : (t : Numbered) (n : ℕ) (s : Numbered) → subtree t n ≡ Some s → 1 ≤ times n (numbers t)
subtree_in t n s e = elim (cases_lt 0 (times n (numbers t))) [
  | inl h ↦ omega arith
  | inr z ↦ absurd (none-some s (sym (subtree_none t n (omega arith)) ∙ e))
]

-- the ways in which a number names a subtree
pub data Way (m : ℕ) (l r : Numbered) (n : ℕ) (s : Numbered) : Type 0 where
  Here : m ≡ n → NumberedNode m l r ≡ s → Way m l r n s
  Left : (m ≡ n → ⊥) → subtree l n ≡ Some s → Way m l r n s
  Right : (m ≡ n → ⊥) → subtree l n ≡ None → subtree r n ≡ Some s → Way m l r n s

-- each subtree is named in one of these ways
pub way : (m : ℕ) (l r : Numbered) (n : ℕ) (s : Numbered) → subtree (NumberedNode m l r) n ≡ Some s → Way m l r n s
way m l r n s e = elim (cases_eq m n) [
  | inl h ↦ Here h (same_Some (NumberedNode m l r) s
      (sym (ap (λ b. if b then Some (NumberedNode m l r) else or_else (subtree l n) (subtree r n)) (eq-eqb m n h))
      ∙ e))
  | inr d ↦ go d (sym (ap (λ b. if b then Some (NumberedNode m l r) else or_else (subtree l n) (subtree r n))
      (ne_eqb m n d)) ∙ e)
]
  where
    go : (m ≡ n → ⊥) → or_else (subtree l n) (subtree r n) ≡ Some s → Way m l r n s
    go d f = both (subtree l n) refl f
      where
        both : (o : Option Numbered) → subtree l n ≡ o → or_else o (subtree r n) ≡ Some s → Way m l r n s
        both (Some u) k g = Left d (k ∙ g)
        both None k g = Right d k g

-- a subtree has no other numbers than the tree
pub subtree_times : (t : Numbered) (n : ℕ) (s : Numbered) → subtree t n ≡ Some s → (k : ℕ) →
    times k (numbers s) ≤ times k (numbers t)
subtree_times (NumberedLeaf m x) n s e k = elim (cases_eq m n) [
  | inl h ↦ (let f : NumberedLeaf m x ≡ s = same_Some (NumberedLeaf m x) s
      (sym (ap (λ b. if b then Some (NumberedLeaf m x) else None) (eq-eqb m n h)) ∙ e) in
      subst (λ u. times k (numbers u) ≤ times k (m ∷ [])) f (omega arith))
  | inr d ↦ absurd (none-some s (sym (ap (λ b. if b then Some (NumberedLeaf m x) else None) (ne_eqb m n d)) ∙ e))
]
subtree_times (NumberedNode m l r) n s e k = elim (way m l r n s e) [
  | Here h f ↦ subst (λ u. times k (numbers u) ≤ times k (numbers (NumberedNode m l r))) f (omega arith)
  | Left d f ↦ omega (arith, subtree_times l n s f k, times_node k m (numbers l) (numbers r))
  | Right d z f ↦ omega (arith, subtree_times r n s f k, times_node k m (numbers l) (numbers r))
]

-- a subtree has no number twice either
pub subtree_once : (t : Numbered) (n : ℕ) (s : Numbered) → AtMostOnce t → subtree t n ≡ Some s → AtMostOnce s
subtree_once t n s o e k = omega (arith, o k, subtree_times t n s e k)

-- a subtree of a subtree
pub subtree_trans : (t : Numbered) → AtMostOnce t → (n : ℕ) (s : Numbered) → subtree t n ≡ Some s →
    (k : ℕ) (u : Numbered) → subtree s k ≡ Some u →
    subtree t k ≡ Some u
subtree_trans (NumberedLeaf m x) o n s e k u f = elim (cases_eq m n) [
  | inl h ↦ (let g : NumberedLeaf m x ≡ s = same_Some (NumberedLeaf m x) s
      (sym (ap (λ b. if b then Some (NumberedLeaf m x) else None) (eq-eqb m n h)) ∙ e) in
      ap (λ v. subtree v k) g ∙ f)
  | inr d ↦ absurd (none-some s (sym (ap (λ b. if b then Some (NumberedLeaf m x) else None) (ne_eqb m n d)) ∙ e))
]
subtree_trans (NumberedNode m l r) o n s e k u f = elim (way m l r n s e) [
  | Here h g ↦ ap (λ v. subtree v k) g ∙ f
  | Left d g ↦ (let p = subtree_trans l (once_left m l r o) n s g k u f in
      subtree_left m l r k u (left_apart m l r o k (subtree_in l k u p)).0 p)
  | Right d z g ↦ (let p = subtree_trans r (once_right m l r o) n s g k u f in
      let a = right_apart m l r o k (subtree_in r k u p) in
      subtree_right m l r k u a.0 a.1 p)
]

-- the root of a subtree has the number that was asked for
pub subtree_number : (t : Numbered) (n : ℕ) (s : Numbered) → subtree t n ≡ Some s → number_of s ≡ n
subtree_number (NumberedLeaf m x) n s e = elim (cases_eq m n) [
  | inl h ↦ (let f : NumberedLeaf m x ≡ s = same_Some (NumberedLeaf m x) s
      (sym (ap (λ b. if b then Some (NumberedLeaf m x) else None) (eq-eqb m n h)) ∙ e) in
      sym (ap number_of f) ∙ h)
  | inr d ↦ absurd (none-some s (sym (ap (λ b. if b then Some (NumberedLeaf m x) else None) (ne_eqb m n d)) ∙ e))
]
subtree_number (NumberedNode m l r) n s e = elim (way m l r n s e) [
  | Here h f ↦ sym (ap number_of f) ∙ h
  | Left d f ↦ subtree_number l n s f
  | Right d z f ↦ subtree_number r n s f
]

-- a number of the tree names a subtree
pub subtree_some : (t : Numbered) (n : ℕ) → 1 ≤ times n (numbers t) → (s : Numbered) × (subtree t n ≡ Some s)
subtree_some (NumberedLeaf m x) n h = elim (cases_eq m n) [
  | inl e ↦ (NumberedLeaf m x, ap (λ b. if b then Some (NumberedLeaf m x) else None) (eq-eqb m n e))
  | inr d ↦ absurd (omega (arith, times_other n m [] d))
]
subtree_some (NumberedNode m l r) n h = elim (cases_eq m n) [
  | inl e ↦ (
    NumberedNode m l r,
    ap (λ b. if b then Some (NumberedNode m l r) else or_else (subtree l n) (subtree r n)) (eq-eqb m n e),
  )
  | inr d ↦ elim (cases_lt 0 (times n (numbers l))) [
    | inl p ↦ (let s = subtree_some l n (omega arith) in (s.0, subtree_left m l r n s.0 d s.1))
    | inr z ↦ (let s = subtree_some r n
        (omega (arith, times_node n m (numbers l) (numbers r), times_other n m (numbers r) d)) in
        (s.0, subtree_right m l r n s.0 d (omega arith) s.1))
  ]
]

-- the numbers of a subtree stand side by side
pub record Split (t s : Numbered) : Type 0 where
  pub front : List ℕ
  pub back : List ℕ
  pub is : numbers t ≡ front ++ (numbers s ++ back)

-- each subtree splits the order in three
pub subtree_split : (t : Numbered) (n : ℕ) (s : Numbered) → subtree t n ≡ Some s → Split t s
subtree_split (NumberedLeaf m x) n s e = elim (cases_eq m n) [
  | inl h ↦ (let f : NumberedLeaf m x ≡ s = same_Some (NumberedLeaf m x) s
      (sym (ap (λ b. if b then Some (NumberedLeaf m x) else None) (eq-eqb m n h)) ∙ e) in
      record { front = []; back = []; is = ap numbers f ∙ sym (append-nil (numbers s)) })
  | inr d ↦ absurd (none-some s (sym (ap (λ b. if b then Some (NumberedLeaf m x) else None) (ne_eqb m n d)) ∙ e))
]
subtree_split (NumberedNode m l r) n s e = elim (way m l r n s e) [
  | Here h f ↦ record { front = []; back = []; is = ap numbers f ∙ sym (append-nil (numbers s)) }
  | Left d f ↦ (let p = subtree_split l n s f in
      record {
        front = p.front;
        back = p.back ++ m ∷ numbers r;
        is = ap (λ xs. xs ++ m ∷ numbers r) p.is
            ∙ (append_assoc p.front (numbers s ++ p.back) (m ∷ numbers r)
            ∙ ap (λ xs. p.front ++ xs) (append_assoc (numbers s) p.back (m ∷ numbers r)));
      })
  | Right d z f ↦ (let p = subtree_split r n s f in
      record {
        front = numbers l ++ m ∷ p.front;
        back = p.back;
        is = ap (λ xs. numbers l ++ m ∷ xs) p.is ∙ sym (append_assoc (numbers l) (m ∷ p.front) (numbers s ++ p.back));
      })
]

-- a numbered tree has no number twice
pub once_numbered : (t : Numbered) → IsNumbered t → AtMostOnce t
once_numbered t v n = elim (cases_lt n (length (numbers t))) [
  | inl h ↦ omega (arith, v.once n h)
  | inr h ↦ omega (arith, v.no_other n h)
]

-- its numbers are below their count
pub node_within : (t : Numbered) → IsNumbered t → (n : ℕ) → 1 ≤ times n (numbers t) → n < length (numbers t)
node_within t v n h = elim (cases_lt n (length (numbers t))) [
  | inl w ↦ w
  | inr w ↦ absurd (omega (arith, v.no_other n w))
]

-- how many nodes there are at or below a number
abbrev pub count_of : Option Numbered → ℕ
count_of None = 0
count_of (Some s) = length (numbers s)

abbrev pub size_at : Numbered → ℕ → ℕ
size_at t n = count_of (subtree t n)

-- an internal node and its children
pub record InnerPart (t : Numbered) (n a b : ℕ) : Type 0 where
  pub left : Numbered
  pub right : Numbered
  pub is : subtree t n ≡ Some (NumberedNode n left right)
  pub left_is : subtree t a ≡ Some left
  pub right_is : subtree t b ≡ Some right
  pub left_within : a < length (numbers t)
  pub right_within : b < length (numbers t)
  pub left_smaller : size_at t a < size_at t n
  pub right_smaller : size_at t b < size_at t n

-- what the children of a node tell
pub inner_part : (t : Numbered) → IsNumbered t → (n a b : ℕ) → Some (a, b) ≡ children_at t n → InnerPart t n a b
inner_part t v n a b e = go (subtree t n) refl e
  where
    go : (o : Option Numbered) → subtree t n ≡ o → Some (a, b) ≡ option_and_then child_numbers o → InnerPart t n a b
    go None f g = absurd (none-some (a, b) (sym g))
    go (Some (NumberedLeaf m x)) f g = absurd (none-some (a, b) (sym g))
    go (Some (NumberedNode m l r)) f g =
        let o = once_numbered t v in
        let os = subtree_once t n (NumberedNode m l r) o f in
        let k : m ≡ n = subtree_number t n (NumberedNode m l r) f in
        let p = some_pair_parts a (number_of l) b (number_of r) g in
        let fl : subtree t (number_of l) ≡ Some l = subtree_trans t o n (NumberedNode m l r) f (number_of l) l
        (subtree_left m l r (number_of l) l (left_apart m l r os (number_of l) (number_of_in l)).0 (subtree_root l)) in
        let ra = right_apart m l r os (number_of r) (number_of_in r) in
        let fr : subtree t (number_of r) ≡ Some r = subtree_trans t o n (NumberedNode m l r) f (number_of r) r
        (subtree_right m l r (number_of r) r ra.0 ra.1 (subtree_root r)) in
        let al : subtree t a ≡ Some l = ap (subtree t) p.0 ∙ fl in
        let ar : subtree t b ≡ Some r = ap (subtree t) p.1 ∙ fr in
        let sizes = length-append (numbers l) (m ∷ numbers r) in
        let sn : size_at t n ≡ length (numbers (NumberedNode m l r)) = ap count_of f in
        let sl : size_at t a ≡ length (numbers l) = ap count_of al in
        let sr : size_at t b ≡ length (numbers r) = ap count_of ar in
        record {
          left = l;
          right = r;
          is = f ∙ ap (λ q. Some (NumberedNode q l r)) k;
          left_is = al;
          right_is = ar;
          left_within = node_within t v a (subtree_in t a l al);
          right_within = node_within t v b (subtree_in t b r ar);
          left_smaller = omega arith;
          right_smaller = omega arith;
        }

-- the same where the children come as a pair
pub inner_pair : {t : Numbered} {n : ℕ} {p : ℕ × ℕ} → IsNumbered t → Some p ≡ children_at t n → InnerPart t n p.0 p.1
inner_pair {t} {n} {p} v e = inner_part t v n p.0 p.1 e

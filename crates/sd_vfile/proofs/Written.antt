-- The nodes of a written tree.
use Rattle.std.proofs.Common.{◌≡◌, ℕ, ◌+◌, ◌*◌, ◌<◌, ◌≤◌, Bool, true, false, ◌||◌, ◌==◌, ◌⊎◌}
use Rattle.std.proofs.Common.{List, [], ◌∷◌, ◌++◌, Some, refl, ◌∙◌, arith, inl, inr}
use Rattle.std.proofs.Common.{eq-eqb, ne_eqb}
use Rattle.std.specs.List.{list_any}
use Rattle.std.proofs.lemmas.Bool.{cases_eq}
use Rattle.std.proofs.lemmas.List.Folds.{list_any-append}
use Rattle.sd_model.specs.Tree.{Tree, Leaf, Node, variables, leaves, right_base, position}
use Rattle.sd_vtree.specs.Numbered.{times}
use Rattle.sd_vtree.proofs.Building.{leaves_positive, leaves_node}
use Rattle.sd_vtree.proofs.Times.{times_append, times_same, times_other}
use Rattle.sd_vfile.specs.Reads.{Entry, tree_with_id, has_id, is_child, is_leaf, has_leaf}

-- the node of a tree's root, where positions are counted from a base
abbrev pub root_entry : Tree → ℕ → Entry
root_entry (Leaf x) base = record { id = base; tree = Leaf x; children = [] }
root_entry (Node l r) base = record {
  id = position (Node l r) base;
  tree = Node l r;
  children = position l base ∷ position r (right_base l base) ∷ [];
}

-- the nodes of a tree, children first
abbrev pub entries_in : Tree → ℕ → List Entry
entries_in (Leaf x) base = root_entry (Leaf x) base ∷ []
entries_in (Node l r) base =
    (entries_in l base ++ entries_in r (right_base l base)) ++ root_entry (Node l r) base ∷ []

-- a position is in its range
pub position_in : (t : Tree) (base : ℕ) → (base ≤ position t base) × (position t base + 1 < base + 2 * leaves t)
position_in (Leaf x) base = (omega arith, omega arith)
position_in (Node l r) base =
    let some_l = leaves_positive l in
    let some_r = leaves_positive r in
    (omega (arith, some_l), omega (arith, some_l, some_r, leaves_node l r))

-- three parts of which none passes a test
pub none_of_three : (p : Entry → Bool) (xs ys : List Entry) (e : Entry) → list_any p xs ≡ false
    → list_any p ys ≡ false → p e ≡ false → list_any p ((xs ++ ys) ++ e ∷ []) ≡ false
none_of_three p xs ys e a b c =
    rw (list_any-append p (xs ++ ys) (e ∷ []), list_any-append p xs ys, a, b, c) refl

pub none_of_two : (p : Entry → Bool) (xs ys : List Entry) → list_any p xs ≡ false → list_any p ys ≡ false
    → list_any p (xs ++ ys) ≡ false
none_of_two p xs ys a b = rw (list_any-append p xs ys, a, b) refl

-- neither an id nor that of a child
abbrev pub IsAbsent : ℕ → List Entry → Type 0
IsAbsent i es = (has_id i es ≡ false) × (is_child i es ≡ false)

-- past the range of a tree there is no id
pub outside : (t : Tree) (base i : ℕ) → (i < base) ⊎ (base + 2 * leaves t ≤ i + 1) → IsAbsent i (entries_in t base)
outside (Leaf x) base i out =
    let apart : base ≡ i → ⊥ = λ e. elim out [ inl low ↦ omega arith | inr high ↦ omega arith ] in
    (rw (ne_eqb base i apart) refl, refl)
outside (Node l r) base i out =
    let some_l = leaves_positive l in
    let some_r = leaves_positive r in
    let in_l = position_in l base in
    let in_r = position_in r (right_base l base) in
    let out_l : (i < base) ⊎ (base + 2 * leaves l ≤ i + 1) =
    elim out [ inl low ↦ inl low | inr high ↦ inr (omega (arith, leaves_node l r)) ] in
    let out_r : (i < right_base l base) ⊎ (right_base l base + 2 * leaves r ≤ i + 1) =
    elim out [ inl low ↦ inl (omega arith) | inr high ↦ inr (omega (arith, leaves_node l r)) ] in
    let own : position (Node l r) base ≡ i → ⊥ =
    λ e. elim out [ inl low ↦ omega (arith, some_l) | inr high ↦ omega (arith, some_r, leaves_node l r) ] in
    let left : position l base ≡ i → ⊥ =
    λ e. elim out [ inl low ↦ omega (arith, in_l.0) | inr high ↦ omega (arith, in_l.1, some_r, leaves_node l r) ] in
    let right : position r (right_base l base) ≡ i → ⊥ =
    λ e. elim out [ inl low ↦ omega (arith, in_r.0) | inr high ↦ omega (arith, in_r.1, leaves_node l r) ] in
    let a = outside l base i out_l in
    let b = outside r (right_base l base) i out_r in (
      none_of_three (λ e. e.id == i) (entries_in l base) (entries_in r (right_base l base)) (root_entry (Node l r) base)
          a.0 b.0 (ne_eqb (position (Node l r) base) i own),
      none_of_three (λ e. list_any (λ child. child == i) e.children) (entries_in l base)
          (entries_in r (right_base l base)) (root_entry (Node l r) base) a.1 b.1
          (rw (ne_eqb (position l base) i left, ne_eqb (position r (right_base l base)) i right) refl),
    )

-- the root is no child
pub root_free : (t : Tree) (base : ℕ) → is_child (position t base) (entries_in t base) ≡ false
root_free (Leaf x) base = refl
root_free (Node l r) base =
    let p = position (Node l r) base in
    let some_l = leaves_positive l in
    let in_l = position_in l base in
    let in_r = position_in r (right_base l base) in
    let a = outside l base p (inr (omega (arith, some_l))) in
    let b = outside r (right_base l base) p (inl (omega (arith, some_l))) in
    none_of_three (λ e. list_any (λ child. child == p) e.children) (entries_in l base)
    (entries_in r (right_base l base)) (root_entry (Node l r) base) a.1 b.1
    (rw (
      ne_eqb (position l base) p (λ e. omega (arith, in_l.1)),
      ne_eqb (position r (right_base l base)) p (λ e. omega (arith, in_r.0, some_l)),
    ) refl)

-- ---- look-ups

-- behind nodes without the id
pub found_behind : (i : ℕ) (xs ys : List Entry) → has_id i xs ≡ false → tree_with_id i (xs ++ ys) ≡ tree_with_id i ys
found_behind i [] ys h = refl
found_behind i (x ∷ xs) ys h = go (x.id == i) refl h (found_behind i xs ys)
  where
    go : (b : Bool) → (x.id == i) ≡ b → (b || has_id i xs) ≡ false
        → (has_id i xs ≡ false → tree_with_id i (xs ++ ys) ≡ tree_with_id i ys)
        → tree_with_id i (x ∷ (xs ++ ys)) ≡ tree_with_id i ys
    go true is h later = cc
    go false is h later = rw is (later h)

-- before other nodes
pub found_before : (i : ℕ) (xs ys : List Entry) (t : Tree) → tree_with_id i xs ≡ Some t
    → tree_with_id i (xs ++ ys) ≡ Some t
found_before i [] ys t h = cc
found_before i (x ∷ xs) ys t h = go (x.id == i) refl (found_before i xs ys t)
  where
    go : (b : Bool) → (x.id == i) ≡ b → (tree_with_id i xs ≡ Some t → tree_with_id i (xs ++ ys) ≡ Some t)
        → tree_with_id i (x ∷ (xs ++ ys)) ≡ Some t
    go true is later = rw is (rw is at h)
    go false is later = rw is (later (rw is at h))

-- the root is found
pub root_found : (t : Tree) (base : ℕ) → tree_with_id (position t base) (entries_in t base) ≡ Some t
root_found (Leaf x) base = rw (eq-eqb base base refl) refl
root_found (Node l r) base =
    let p = position (Node l r) base in
    let some_l = leaves_positive l in
    let a = outside l base p (inr (omega (arith, some_l))) in
    let b = outside r (right_base l base) p (inl (omega (arith, some_l))) in
    found_behind p (entries_in l base ++ entries_in r (right_base l base)) (root_entry (Node l r) base ∷ [])
    (none_of_two (λ e. e.id == p) (entries_in l base) (entries_in r (right_base l base)) a.0 b.0)
    ∙ rw (eq-eqb p p refl) refl

-- ---- variables

-- a variable that is not in the tree has no leaf
pub no_leaf : (t : Tree) (base x : ℕ) → times x (variables t) ≡ 0 → has_leaf x (entries_in t base) ≡ false
no_leaf (Leaf y) base x h = elim (cases_eq y x) [
  | inl same ↦ absurd (omega (arith, times_same x y [] same))
  | inr other ↦ rw (ne_eqb y x other) refl
]
no_leaf (Node l r) base x h =
    let both = times_append x (variables l) (variables r) in
    none_of_three (λ e. is_leaf x e.tree) (entries_in l base) (entries_in r (right_base l base))
    (root_entry (Node l r) base) (no_leaf l base x (omega (arith, both)))
    (no_leaf r (right_base l base) x (omega (arith, both))) refl

-- one that is in the tree has one
pub a_leaf : (t : Tree) (base x : ℕ) → 1 ≤ times x (variables t) → has_leaf x (entries_in t base) ≡ true
a_leaf (Leaf y) base x h = elim (cases_eq y x) [
  | inl same ↦ rw (eq-eqb y x same) refl
  | inr other ↦ absurd (omega (arith, times_other x y [] other))
]
a_leaf (Node l r) base x h =
    let both = times_append x (variables l) (variables r) in
    let left = entries_in l base in
    let right = entries_in r (right_base l base) in
    let p : Entry → Bool = λ e. is_leaf x e.tree in
    rw (list_any-append p (left ++ right) (root_entry (Node l r) base ∷ []), list_any-append p left right)
    (go (has_leaf x left) (has_leaf x right) refl refl (a_leaf l base x) (a_leaf r (right_base l base) x)
    (no_leaf l base x) both)
  where
    go : (a b : Bool) → has_leaf x (entries_in l base) ≡ a → has_leaf x (entries_in r (right_base l base)) ≡ b
        → (1 ≤ times x (variables l) → has_leaf x (entries_in l base) ≡ true)
        → (1 ≤ times x (variables r) → has_leaf x (entries_in r (right_base l base)) ≡ true)
        → (times x (variables l) ≡ 0 → has_leaf x (entries_in l base) ≡ false)
        → times x (variables l ++ variables r) ≡ times x (variables l) + times x (variables r)
        → ((a || b) || (false || false)) ≡ true
    go true b is_a is_b f g k both = refl
    go false true is_a is_b f g k both = refl
    go false false is_a is_b f g k both = elim (cases_eq (times x (variables l)) 0) [
      | inl none ↦ (let there = g (omega arith) in cc)
      | inr some ↦ (let there = f (omega arith) in cc)
    ]
